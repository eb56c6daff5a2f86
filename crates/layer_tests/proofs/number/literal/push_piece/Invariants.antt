use Rattle.std.proofs.Common.{ℕ, List}
use Rattle.gj_number.specs.Literal.{StandsFor}
use Rattle.layer_tests.proofs.number.literal.push_piece.Given as goal

abbrev pub invariant-loop : goal.invariant-loop
invariant-loop l = ((bytes : List ℕ) → StandsFor l.fn.literal bytes → (more : List ℕ) × StandsFor l.literal more)
