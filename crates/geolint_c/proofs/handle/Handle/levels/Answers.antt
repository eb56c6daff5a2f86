-- What the linter says of the bytes that it was fed is what the handle says of them.
use Rattle.std.proofs.Common.{refl, rules}
use Rattle.geolint_c.proofs.handle.Handle.levels.Goals as goal

pub returns-in-Some : goal.returns-in-Some
returns-in-Some c = record {
  open_there = λ limits bytes stands. rw c.in-Some.is (λ text rest is. c.levels.ensures.open bytes rest text (rw c.in-Some.is at stands.1).0 is);
  ended = search rules;
  unchanged = refl;
}
