-- The offset of a handle is that of its linter.
use Rattle.std.proofs.Common.{◌≡◌, true, false, refl, sym, ◌∙◌}
use Rattle.geolint_c.proofs.features.FeatureHandle.offset.Goals as goal

pub returns-in-Some : goal.returns-in-Some
returns-in-Some c = record {
  taken = λ limits bytes s e. c.offset.ensures.taken bytes (rw c.in-Some.is at s.1).stands (rw c.in-Some.is at e);
  refused = λ limits bytes fault s e. c.offset.ensures.refused bytes fault (rw c.in-Some.is at s.1).stands (rw c.in-Some.is at e);
  ended = λ e. (let f : true ≡ false = sym e ∙ c.if-not-self.true in cc);
  unchanged = refl;
}
