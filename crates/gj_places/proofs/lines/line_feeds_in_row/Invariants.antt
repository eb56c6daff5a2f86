use Rattle.std.proofs.Common.{◌≡◌, ◌≤◌, ◌*◌, take}
use lib.Lanes.{sum_l, Each1}
use Rattle.gj_places.specs.Lines.{line_feeds}
use Rattle.gj_places.proofs.lines.line_feeds_in_row.Given as goal

abbrev pub invariant-loop-vector : goal.invariant-loop-vector
invariant-loop-vector l = record {
  counted : sum_l l.lanes ≡ line_feeds (take (l.vector-index * 16) l.row);
  at_most : Each1 (λ a. a ≤ l.vector-index) l.lanes;
}
