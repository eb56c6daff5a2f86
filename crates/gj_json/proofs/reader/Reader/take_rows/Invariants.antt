use Rattle.gj_json.proofs.Common.{FeedsAll, OfPrefix, length, ◌-◌}
use Rattle.gj_json.proofs.reader.Reader.take_rows.Given as goal

abbrev pub invariant-loop-self : goal.invariant-loop-self
invariant-loop-self g l = OfPrefix (FeedsAll (g.S.EventSink.heard l.fn.sink) (g.S.EventSink.heard l.sink) l.fn.self l.self) l.piece l.at

abbrev pub decreases-loop-self : goal.decreases-loop-self
decreases-loop-self g l = length l.piece - l.at
