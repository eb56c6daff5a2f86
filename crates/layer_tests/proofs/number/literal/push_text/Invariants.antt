use Rattle.std.proofs.Common.{ℕ, List}
use Rattle.gj_number.specs.Literal.{StandsFor}
use Rattle.layer_tests.proofs.number.literal.push_text.Given as goal

abbrev pub invariant-loop-byte : goal.invariant-loop-byte
invariant-loop-byte l = ((bytes : List ℕ) → StandsFor l.fn.literal bytes → (more : List ℕ) × StandsFor l.literal more)
