use Rattle.gj_number.proofs.Common.{Some, Start, length, take, ◌-◌, ◌≡◌, ◌≤◌}
use Rattle.gj_number.specs.Internal.NumberMachine.{state_after}
use Rattle.gj_number.proofs.short.unsigned.any_run.Given as goal

abbrev pub invariant-loop-at : goal.invariant-loop-at
invariant-loop-at l = record {
  within : l.at ≤ length l.piece;
  reached : state_after (Some Start) (take l.at l.piece) ≡ Some l.state;
}

abbrev pub decreases-loop-at : goal.decreases-loop-at
decreases-loop-at l = length l.piece - l.at
