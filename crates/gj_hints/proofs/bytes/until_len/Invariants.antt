use Rattle.std.proofs.Common.{◌≡◌, ℕ, ◌<◌, true, get_or}
use Rattle.gj_hints.specs.Bytes.{is_before}
use Rattle.gj_hints.proofs.bytes.until_len.Given as goal

-- no byte so far is one of the set
abbrev pub invariant-loop-i : goal.invariant-loop-i
invariant-loop-i l = (k : ℕ) → k < l.i → is_before l.set (get_or l.bytes k 0) ≡ true
