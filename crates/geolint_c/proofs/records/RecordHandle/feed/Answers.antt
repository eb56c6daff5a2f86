-- The records are fed up to the end of the next.
use Rattle.std.proofs.Common.{◌≡◌, ◌↔◌, ◌<◌, Bool, true, false, IsTrue, [], ◌++◌, length, take, Some, refl, sym, subst, ◌∙◌}
use Rattle.gj_json.specs.Limits.{Allowed}
use Rattle.gj_rules.specs.RecordFindings.{AreFindingsSoFar}
use Rattle.gj_rules.specs.RecordsStand.{framing_of as framing_under}
use Rattle.gj_rules.specs.declared.records.framing.Framing.{Framing}
use Rattle.geolint_c.specs.declared.finding.Progress.{Progress}
use Rattle.geolint_c.specs.declared.records.RecordHandle.{RecordHandle}
use Rattle.geolint_c.specs.Records.{IsFed, over_status}
use Rattle.geolint_c.proofs.records.RecordHandle.feed.Goals as goal

over_where : (b : Bool) (A : Type 0) → (IsTrue b ↔ A) → (over_status b ≡ 1) ↔ A
over_where true A h = (λ e. h.0 refl, λ a. refl)
over_where false A h = (λ e. (let f : 0 ≡ 1 = e in cc), λ a. (let f : false ≡ true = h.1 a in cc))

pub returns-in-Some : goal.returns-in-Some
returns-in-Some c =
    let self = c.args.self.now in
    let fed = c.feed_one-taken in
    let limits_same = fed.ensures.limits in
    let framing_same = fed.ensures.framing in
    let new : RecordHandle = record { records = Some fed.new.self; last = fed.new.sink; ready = fed.result.told; ended = self.ended } in
    subst (λ (t : Progress). IsFed self c.args.piece.now t new) (sym c.progress_of-in-Some.ensures)
    (record {
      within = fed.ensures.within;
      tells = λ framing limits bytes found r s.
          let j = rw c.in-Some.is at s.1 in
          let h = fed.ensures.told bytes [] found j.stands j.last_of in
          let all = found ++ h.have.more in
          let on = bytes ++ take fed.result.count c.args.piece.now in
          record {
            more = h.have.more;
            stands = (s.0, record { stands = h.have.stands; under = limits_same ∙ j.under; framed = framing_same ∙ j.framed; last_of = h.have.heard });
            findings = subst (λ (f : Framing). AreFindingsSoFar f limits on all) (framing_same ∙ j.framed)
                (subst (λ (l : Allowed). AreFindingsSoFar (framing_under fed.new.self) l on all) (limits_same ∙ j.under) h.have.findings);
            one_or_none = h.one_or_none;
            over = subst (λ n. (n ≡ 1) ↔ (limits.bytes < length on)) (sym c.over_status.ensures)
                (over_where c.is_over.result (limits.bytes < length on)
                (subst (λ (l : Allowed). IsTrue c.is_over.result ↔ (l.bytes < length on)) (limits_same ∙ j.under)
                (c.is_over.ensures.beyond on all h.have.stands)));
          };
      ready = λ e. refl;
      all = λ e r. fed.ensures.all r;
      waits = λ e r. (let f : false ≡ true = sym c.if-self-2.false ∙ r in cc);
      ended = λ e. (let f : false ≡ true = sym c.if-self.false ∙ e in cc);
    })
