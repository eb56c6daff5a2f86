-- What was taken up to the place.
use Rattle.std.proofs.Common.{ℕ, ◌-◌, ◌≤◌, List, ◌++◌, length, take}
use Rattle.gj_json.specs.Limits.{Allowed}
use Rattle.gj_rules.specs.FeatureLinter.{refusal_of}
use Rattle.geolint_c.specs.Features.{Judges}
use Rattle.geolint_c.specs.Handle.{AnswersBy, status_of}
use Rattle.geolint_c.proofs.features.take.Given as goal

abbrev pub invariant-loop-at : goal.invariant-loop-at
invariant-loop-at l = record {
  within : l.at ≤ length l.piece;
  judges : (limits : Allowed) (bytes : List ℕ) → Judges l.fn.linter l.pulled limits bytes → Judges l.linter l.pulled limits (bytes ++ take l.at l.piece);
  answer : (limits : Allowed) (bytes : List ℕ) → Judges l.fn.linter l.pulled limits bytes
      → AnswersBy limits (bytes ++ take l.at l.piece) (status_of l.shown) (refusal_of l.linter);
}

abbrev pub decreases-loop-at : goal.decreases-loop-at
decreases-loop-at l = length l.piece - l.at
