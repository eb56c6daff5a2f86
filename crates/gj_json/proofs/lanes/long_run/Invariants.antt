use Rattle.gj_json.proofs.Common.{drop, length, prefix_len, ◌*◌, ◌+◌, ◌-◌, ◌≡◌, ◌≤◌}
use Rattle.gj_json.proofs.lanes.long_run.Given as goal

abbrev pub invariant-loop-index : goal.invariant-loop-index
invariant-loop-index g l = record {
  within : l.index ≤ length l.blocks;
  run : prefix_len g.K.Kind.is l.fn.piece ≡ l.index * 16 + prefix_len g.K.Kind.is (drop (l.index * 16) l.fn.piece);
}

abbrev pub decreases-loop-index : goal.decreases-loop-index
decreases-loop-index g l = length l.blocks - l.index
