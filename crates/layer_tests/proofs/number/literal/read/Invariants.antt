use Rattle.std.proofs.Common.{ℕ, List}
use Rattle.gj_number.specs.Literal.{StandsFor}
use Rattle.layer_tests.proofs.number.literal.read.Given as goal

abbrev pub invariant-loop-text : goal.invariant-loop-text
invariant-loop-text l = (bytes : List ℕ) × StandsFor l.literal bytes
