-- What the input is, by all its records.
use Rattle.std.proofs.Common.{◌≡◌, true, false, [], ◌++◌, refl, sym, subst, ◌∙◌}
use Rattle.gj_json.specs.Limits.{Allowed}
use Rattle.gj_rules.specs.RecordFindings.{AreAllFindings}
use Rattle.gj_rules.specs.RecordsStand.{framing_of as framing_under}
use Rattle.gj_rules.specs.declared.records.framing.Framing.{Framing}
use Rattle.gj_rules.specs.declared.sequence.verdict.SeqVerdict.{SeqVerdict}
use Rattle.geolint_c.specs.Finding.{IsWhole}
use Rattle.geolint_c.proofs.records.RecordHandle.finish.Goals as goal

pub returns-in-Some : goal.returns-in-Some
returns-in-Some c =
    let self = c.args.self.now in
    record {
      whole = λ framing limits bytes found r s.
          let j = rw c.in-Some.is at s.1 in
          let h = c.end-whole.ensures.told bytes [] found j.stands j.last_of in
          let all = found ++ h.have.more in
          record {
            more = h.have.more;
            findings = subst (λ (f : Framing). AreAllFindings f limits bytes all) j.framed
                (subst (λ (l : Allowed). AreAllFindings (framing_under c.in-Some.records) l bytes all) j.under h.have.findings);
            whole = subst (λ (v : SeqVerdict). IsWhole v c.whole_of.result) h.have.whole c.whole_of.ensures;
            last_of = h.have.heard;
            one_or_none = h.one_or_none;
          };
      last = λ r. refl;
      waits = λ e r. (let f : false ≡ true = sym c.if-self-2.false ∙ r in cc);
      ended = λ e. (let f : false ≡ true = sym c.if-self.false ∙ e in cc);
    }
