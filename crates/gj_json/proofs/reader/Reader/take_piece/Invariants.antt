use Rattle.gj_json.proofs.Common.{FeedsAll, OfPrefix, length, ◌-◌}
use Rattle.gj_json.proofs.reader.Reader.take_piece.Given as goal

abbrev pub invariant-loop-at : goal.invariant-loop-at
invariant-loop-at g l = OfPrefix (FeedsAll (g.S.EventSink.heard l.fn.sink) (g.S.EventSink.heard l.sink) l.fn.self l.self) l.piece l.at

abbrev pub decreases-loop-at : goal.decreases-loop-at
decreases-loop-at g l = length l.piece - l.at
