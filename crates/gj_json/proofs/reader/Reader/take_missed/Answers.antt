-- The innermost level has closed and its events are heard as missed, or nothing was taken and nothing is heard.
use Rattle.gj_json.proofs.Common.{arith, refl}
use Rattle.gj_json.proofs.Events.IgnoredEvents.{all_as}
use Rattle.gj_json.proofs.Readers.CallsInTurn.{feeds_nothing, of_prefix, prefix_as}
use Rattle.gj_json.proofs.reader.Reader.take_missed.Goals as goal
use Rattle.gj_json.proofs.reader.Reader.take_missed.Goals.{else-count-gt0-via-then-count-gt0+else-tell_closed, else-count-gt0-via-else-count-gt0}

pub returns-then-tell_closed : goal.returns-then-tell_closed
returns-then-tell_closed g c =
    prefix_as (c.take_innermost-count.ensures (omega (arith, c.if-count-gt0.true))) (λ given f.
    all_as {before = g.S.EventSink.heard c.args.sink.now} {after = g.S.EventSink.heard c.tell_closed.new.self} 1 0 c.args.self.now
    c.take_innermost-count.new.self given (λ events inner h l. c.if-tell_closed.ensures.heard refl events inner h l) f)

pub returns : goal.returns
returns g c = of_prefix (omega arith) (elim c.else-count-gt0.branch [
  | else-count-gt0-via-then-count-gt0+else-tell_closed w ↦ rw (w.sink-is, w.tell_closed.ensures.same w.if-tell_closed.false)
      (feeds_nothing {heard = g.S.EventSink.heard c.args.sink.now} c.args.self.now c.requires.takes.0)
  | else-count-gt0-via-else-count-gt0 w ↦ rw (w.sink-is) (feeds_nothing {heard = g.S.EventSink.heard c.args.sink.now} c.args.self.now c.requires.takes.0)
])
