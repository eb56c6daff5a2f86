use Rattle.gj_json.proofs.Common.{FeedsWithin, OfPrefix, length, ◌-◌, ◌≤◌}
use Rattle.gj_json.specs.Internal.OpenLevels.{levels_in}
use Rattle.gj_json.proofs.reader.Reader.take_within.Given as goal

abbrev pub invariant-loop-at : goal.invariant-loop-at
invariant-loop-at l = record {
  floor : l.floor ≤ length (levels_in l.self.levels);
  taken : OfPrefix (FeedsWithin l.floor l.fn.self l.self) l.piece l.at;
}

abbrev pub decreases-loop-at : goal.decreases-loop-at
decreases-loop-at l = length l.piece - l.at
