use Rattle.gj_number.proofs.Common.{IsDigit, length, take, ◌-◌, ◌≤◌}
use Rattle.std.proofs.Common.{All}
use Rattle.gj_number.proofs.lanes.digit_run.Given as goal

-- the bytes before this one are digits
abbrev pub invariant-loop-at : goal.invariant-loop-at
invariant-loop-at l = record {
  within : l.at ≤ length l.piece;
  digits : All IsDigit (take l.at l.piece);
}

abbrev pub decreases-loop-at : goal.decreases-loop-at
decreases-loop-at l = length l.piece - l.at
