use Rattle.gj_json.proofs.Common.{NoneEnds, length, ◌-◌, ◌<◌}
use Rattle.gj_json.proofs.wide.end_of_wide.Given as goal

abbrev pub invariant-loop-at : goal.invariant-loop-at
invariant-loop-at l = record {
  behind : 0 < l.at;
  within : l.at < length l.piece;
  none : NoneEnds l.piece l.at;
}

abbrev pub decreases-loop-at : goal.decreases-loop-at
decreases-loop-at l = length l.piece - l.at
