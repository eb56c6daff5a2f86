use Rattle.std.proofs.Common.{◌<◌, ℕ, List}
use Rattle.gj_hints.specs.Expected.{IsAfter, IsToldOf}
use Rattle.gj_hints.proofs.expected.tells_all.Given as goal

abbrev pub invariant-loop-byte : goal.invariant-loop-byte
invariant-loop-byte l = (bytes : List ℕ) → IsAfter l.reader bytes → (k : ℕ) → k < l.byte → IsToldOf bytes l.named k
