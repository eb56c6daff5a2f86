-- What the linter says of its own limits is what the handle says of those that it was begun under.
use Rattle.std.proofs.Common.{refl, subst, inr, rules}
use Rattle.gj_json.specs.Limits.{Allowed}
use Rattle.gj_rules.specs.Verdict.{NeverValid}
use Rattle.geolint_c.proofs.handle.Handle.doomed.Goals as goal

pub returns-in-Some : goal.returns-in-Some
returns-in-Some c = record {
  sound = λ limits bytes stands.
      let fed = rw c.in-Some.is at stands.1 in
      inr (refl, subst (λ (l : Allowed). NeverValid l bytes) fed.1 (c.if-doomed.ensures.sound bytes fed.0 refl));
  refused = λ fault e r. refl;
  early = λ limits bytes stands r begin. refl;
  ended = search rules;
  unchanged = refl;
}
