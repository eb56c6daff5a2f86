use Rattle.gj_number.proofs.Common.{IsDigit, length, take, with_digit, ◌-◌, ◌≡◌, ◌≤◌}
use Rattle.std.proofs.Common.{fold, All}
use Rattle.gj_number.proofs.lanes.zero_run.Given as goal

-- the bytes before this one are zeros
abbrev pub invariant-loop-at : goal.invariant-loop-at
invariant-loop-at l = record {
  within : l.at ≤ length l.piece;
  digits : All IsDigit (take l.at l.piece);
  zeros : fold with_digit 0 (take l.at l.piece) ≡ 0;
}

abbrev pub decreases-loop-at : goal.decreases-loop-at
decreases-loop-at l = length l.piece - l.at
