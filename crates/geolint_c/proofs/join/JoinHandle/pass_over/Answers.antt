-- The sum that the numbers say is passed over.
use Rattle.std.proofs.Common.{◌≡◌, false, true, inl, inr, Some, refl, sym, ap, subst, ◌∙◌, arith}
use Rattle.gj_json.specs.Limits.{Allowed}
use Rattle.gj_rules.specs.FeatureFindings.{warnings_found}
use Rattle.gj_join.specs.Joiner.{limits_of}
use Rattle.gj_join.specs.Runs.{IsSumOf, StandsAfterFeature}
use Rattle.gj_join.specs.declared.sum.FeatureSum.{FeatureSum}
use Rattle.geolint_c.specs.declared.join.JoinHandle.{JoinHandle}
use Rattle.geolint_c.proofs.join.JoinHandle.pass_over.Goals as goal

pub returns-then-pass_over : goal.returns-then-pass_over
returns-then-pass_over c =
    let joiner = c.in-Some.joiner in
    let passed = c.pass_over.ensures in
    record {
      stands = λ limits bytes run sum t s says is.
          let j = rw c.in-Some.is at s.1 in
          let same : c.sum_said.result ≡ sum = c.sum_said.ensures.said sum (warnings_found is.found) says is.warnings in
          let here = subst (λ (l : Allowed). IsSumOf l.depth run sum) (sym j.1) is in
          let joins = passed.joins bytes run c.if-pass_over.true j.0 (subst (λ (x : FeatureSum). IsSumOf (limits_of joiner).depth run x) (sym same) here) in
          (s.0, (joins, passed.limits ∙ j.1));
      taken = λ limits bytes s fine ended begins some room. refl;
      other = inl refl;
      ended = λ e. (let f : true ≡ false = sym e ∙ c.if-not-self.true in cc);
    }

pub returns-else-pass_over : goal.returns-else-pass_over
returns-else-pass_over c =
    let self = c.args.self.now in
    let joiner = c.in-Some.joiner in
    let said = c.sum_said.ensures in
    let unchanged = ap Some (c.pass_over.ensures.same c.if-pass_over.false) ∙ sym c.in-Some.is in
    record {
      stands = λ limits bytes run sum t. (let f : 0 ≡ 1 = t in cc);
      taken = λ limits bytes s fine ended begins some room.
          let j = rw c.in-Some.is at s.1 in
          let t = c.pass_over.ensures.taken bytes j.0 (rw c.in-Some.is at fine)
          (subst (λ (l : Allowed). StandsAfterFeature l.depth bytes) (sym j.1) ended) (said.begin ∙ begins)
          (omega (arith, said.begin, said.end, some)) (omega (arith, said.end, ap (λ (l : Allowed). l.bytes) j.1, room)) in
          (let f : false ≡ true = sym c.if-pass_over.false ∙ t in cc);
      other = inr (refl, λ i. record { joiner = unchanged i; ended = self.ended });
      ended = λ e. (let f : true ≡ false = sym e ∙ c.if-not-self.true in cc);
    }
