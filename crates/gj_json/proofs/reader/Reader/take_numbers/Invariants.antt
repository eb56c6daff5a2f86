use Rattle.gj_json.proofs.Common.{Array, FeedsAll, OfPrefix, Some, awaits, inner_of, length, true, ◌-◌, ◌≡◌}
use Rattle.gj_json.specs.Internal.OpenLevels.{levels_in}
use Rattle.gj_json.proofs.reader.Reader.take_numbers.Given as goal

abbrev pub invariant-loop-at : goal.invariant-loop-at
invariant-loop-at g l = record {
  taken : OfPrefix (FeedsAll (g.S.EventSink.heard l.fn.sink) (g.S.EventSink.heard l.sink) l.fn.self l.self) l.piece l.at;
  inner : inner_of (levels_in l.self.levels) ≡ Some Array;
  due : awaits l.self.mode ≡ true;
}

abbrev pub decreases-loop-at : goal.decreases-loop-at
decreases-loop-at g l = length l.piece - l.at
