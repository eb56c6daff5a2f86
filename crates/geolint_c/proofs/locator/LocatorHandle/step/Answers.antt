-- The step is that of the path to which the bytes lead.
use Rattle.std.proofs.Common.{◌≡◌, List, slice_get, Some, None, refl, sym, subst, ◌∙◌}
use Rattle.gj_json.specs.declared.path.PathStep.{PathStep}
use Rattle.geolint_c.specs.Locator.{Shows}
use Rattle.geolint_c.proofs.locator.LocatorHandle.step.Goals as goal

pub returns-in-Some : goal.returns-in-Some
returns-in-Some c = record {
  step = λ limits bytes s.
      let stands = rw c.in-Some.is at s in
      rw c.in-Some.is (λ text rest t. subst (λ (steps : List PathStep). Shows (slice_get steps c.args.i) c.step_in.result)
      (c.path.ensures.path bytes rest text stands.0 t) c.step_in.ensures);
  none = λ e. (let f : None ≡ Some c.in-Some.locator = sym e ∙ c.in-Some.is in cc);
  unchanged = refl;
}
