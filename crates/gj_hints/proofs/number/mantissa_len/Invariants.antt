use Rattle.std.proofs.Common.{◌≡◌, ℕ, ◌<◌, true, get_or}
use Rattle.gj_hints.specs.Numbers.{is_in_mantissa}
use Rattle.gj_hints.proofs.number.mantissa_len.Given as goal

-- each byte so far is one
abbrev pub invariant-loop-i : goal.invariant-loop-i
invariant-loop-i l = (k : ℕ) → k < l.i → is_in_mantissa (get_or l.bytes k 0) ≡ true
