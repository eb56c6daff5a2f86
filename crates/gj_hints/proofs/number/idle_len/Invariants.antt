use Rattle.std.proofs.Common.{◌≡◌, ℕ, ◌<◌, true, get_or}
use Rattle.gj_hints.specs.Numbers.{is_idle}
use Rattle.gj_hints.proofs.number.idle_len.Given as goal

-- each byte so far is one
abbrev pub invariant-loop-i : goal.invariant-loop-i
invariant-loop-i l = (k : ℕ) → k < l.i → is_idle (get_or l.bytes k 0) ≡ true
