-- What the linter takes is what the handle takes.
use Rattle.std.proofs.Common.{◌≡◌, ◌&&◌, Bool, true, false, not, if◌then◌else◌, refl, sym, subst, ◌∙◌}
use Rattle.geolint_c.specs.Features.{tells_more}
use Rattle.geolint_c.proofs.features.FeatureHandle.feed.Goals as goal

pub returns-in-Some : goal.returns-in-Some
returns-in-Some c =
    let self = c.args.self.now in
    let takes = c.take.ensures in
    let new = c.take.new.linter in
    record {
      within = takes.within;
      stands = λ limits bytes s. (s.0, takes.judges limits bytes (rw c.in-Some.is at s.1));
      answer = λ limits bytes s r. takes.answer limits bytes (rw c.in-Some.is at s.1);
      ready = λ e. subst (λ (b : Bool). c.take.result.ready ≡ (if (not b && tells_more new self.pulled) then 1 else 0)) (sym e) takes.ready;
      all = λ e r. takes.all (subst (λ (b : Bool). (not b && tells_more new self.pulled) ≡ false) e r);
      pulled = refl;
      waits = λ r. (let f : false ≡ true = sym c.if-is_ready.false ∙ (c.is_ready.ensures.value ∙ r) in cc);
      ended = λ e. (let f : false ≡ true = sym c.if-self.false ∙ e in cc);
    }
