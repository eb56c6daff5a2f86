use Rattle.gj_coords.proofs.Common.{AreCutPositions, Flat, counted_noted, precise_noted, take, ◌*◌}
use Rattle.std.proofs.Common.{◌≡◌, ◌≤◌, ◌-◌, List}
use Rattle.gj_coords.specs.Internal.AddedPositions.{all_noted}
use Rattle.gj_coords.specs.Internal.CutPositionGather.{HasLeast}
use Rattle.gj_coords.proofs.cuts.warn_all.Given as goal

abbrev pub invariant-loop-at : goal.invariant-loop-at
invariant-loop-at l = record {
  within : l.at ≤ l.most;
  least : HasLeast l.precise;
  few : l.precise.count ≤ 2 * l.at;
  noted : (flats : List Flat) → AreCutPositions (take l.at l.positions) flats
      → precise_noted l.fn.warned (counted_noted l.precise) ≡ all_noted l.fn.warned flats;
}

abbrev pub decreases-loop-at : goal.decreases-loop-at
decreases-loop-at l = l.most - l.at
