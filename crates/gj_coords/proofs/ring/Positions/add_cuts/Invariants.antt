use Rattle.gj_coords.proofs.Common.{AreCutPositions, Flat, take, ◌*◌}
use Rattle.std.proofs.Common.{◌≡◌, ◌≤◌, ◌-◌, List}
use Rattle.gj_coords.specs.Internal.AddedPositions.{positions_added}
use Rattle.gj_coords.specs.Internal.CutPositionGather.{HasLeast}
use Rattle.gj_coords.proofs.Walks.CutPositions.{with_cuts}
use Rattle.gj_coords.proofs.ring.Positions.add_cuts.Given as goal

abbrev pub invariant-loop-at : goal.invariant-loop-at
invariant-loop-at l = record {
  within : l.at ≤ l.most;
  least : HasLeast l.added.precise;
  few : l.added.precise.count ≤ 2 * l.at;
  added : (flats : List Flat) → AreCutPositions (take l.at l.positions) flats → with_cuts l.fn.self l.at l.added ≡ positions_added l.fn.self flats;
}

abbrev pub decreases-loop-at : goal.decreases-loop-at
decreases-loop-at l = l.most - l.at
