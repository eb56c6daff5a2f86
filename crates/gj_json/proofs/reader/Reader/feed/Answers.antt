-- The piece up to what is allowed, and the byte after it.
use Rattle.gj_json.proofs.Common.{FeedsTo, arith, length, ◌-◌, ◌<◌}
use Rattle.gj_json.proofs.Readers.CallsInTurn
use Rattle.gj_json.proofs.reader.Reader.feed.Goals as goal

pub returns-in-Some-clause-stands : goal.returns-in-Some-clause-stands
returns-in-Some-clause-stands g c = λ bytes h. CallsInTurn.refused_stands c.args.self.now bytes c.args.piece.now c.in-Some.fault c.in-Some.is h

pub returns-in-Some-clause-answer : goal.returns-in-Some-clause-answer
returns-in-Some-clause-answer g c = λ bytes h.
    CallsInTurn.kept_answer c.args.self.now _ c.in-Some.fault c.in-Some.is
    (CallsInTurn.refused_stands c.args.self.now bytes c.args.piece.now c.in-Some.fault c.in-Some.is h)

pub returns-then-piece-room-clause-answer : goal.returns-then-piece-room-clause-answer
returns-then-piece-room-clause-answer g c = λ bytes h.
    CallsInTurn.by_answer (g.S.EventSink.heard c.args.sink.now)
    (g.S.EventSink.heard c.take_piece.new.sink) c.args.self.now c.take_piece.new.self c.args.piece.now bytes c.take_piece.result c.take_piece.ensures
    h

pub returns-then-piece-room-clause-heard : goal.returns-then-piece-room-clause-heard
returns-then-piece-room-clause-heard g c = λ bytes events live h k.
    CallsInTurn.heard_by (g.S.EventSink.heard c.args.sink.now)
    (g.S.EventSink.heard c.take_piece.new.sink) c.args.self.now c.take_piece.new.self c.args.piece.now bytes events c.take_piece.result live
    c.take_piece.ensures h k

full : (g : _) (c : goal.After-refuse g)
    → FeedsTo (g.S.EventSink.heard c.args.sink.now)
    (g.S.EventSink.heard c.take_piece-2.new.sink) c.args.self.now c.refuse.new.self c.args.piece.now c.refuse.result
full g c =
    let fed = rw (c.in-Ok.is) at c.take_piece-2.ensures in
    let room : c.bytes.result - c.args.self.now.offset < length c.args.piece.now = omega (arith, c.if-piece-room.false) in
    CallsInTurn.beyond c.args.piece.now (c.bytes.result - c.args.self.now.offset) room c.args.self.now c.take_piece-2.new.self c.refuse.new.self c.refuse.result
    fed
    (omega (arith, c.bytes.ensures.value, c.args.self.now.within)) c.refuse.ensures.refused

pub returns-in-Ok-clause-stands : goal.returns-in-Ok-clause-stands
returns-in-Ok-clause-stands g c = (full g c).feeds.stands

pub returns-in-Ok-clause-answer : goal.returns-in-Ok-clause-answer
returns-in-Ok-clause-answer g c = λ bytes h. CallsInTurn.to_answer c.args.self.now c.refuse.new.self c.args.piece.now bytes c.refuse.result (full g c) h

pub returns-in-Ok-clause-heard : goal.returns-in-Ok-clause-heard
returns-in-Ok-clause-heard g c =
    λ bytes events live h k. CallsInTurn.heard_to c.args.self.now c.refuse.new.self c.args.piece.now bytes events c.refuse.result live (full g c) h k

short : (g : _) (c : goal.In-Err g)
    → FeedsTo (g.S.EventSink.heard c.args.sink.now)
    (g.S.EventSink.heard c.take_piece-2.new.sink) c.args.self.now c.take_piece-2.new.self c.args.piece.now c.in-Err.fault
short g c =
    let fed = rw (c.in-Err.is) at c.take_piece-2.ensures in
    let room : c.bytes.result - c.args.self.now.offset < length c.args.piece.now = omega (arith, c.if-piece-room.false) in
    CallsInTurn.within_to c.args.piece.now (c.bytes.result - c.args.self.now.offset) room c.args.self.now c.take_piece-2.new.self c.in-Err.fault fed

pub returns-in-Err-clause-stands : goal.returns-in-Err-clause-stands
returns-in-Err-clause-stands g c = (short g c).feeds.stands

pub returns-in-Err-clause-answer : goal.returns-in-Err-clause-answer
returns-in-Err-clause-answer g c = λ bytes h. CallsInTurn.to_answer c.args.self.now c.take_piece-2.new.self c.args.piece.now bytes c.in-Err.fault (short g c) h

pub returns-in-Err-clause-heard : goal.returns-in-Err-clause-heard
returns-in-Err-clause-heard g c =
    λ bytes events live h k. CallsInTurn.heard_to c.args.self.now c.take_piece-2.new.self c.args.piece.now bytes events c.in-Err.fault live (short g c) h k

pub returns-then-piece-room-clause-on : goal.returns-then-piece-room-clause-on
returns-then-piece-room-clause-on g c =
    CallsInTurn.by_on (g.S.EventSink.heard c.args.sink.now)
    (g.S.EventSink.heard c.take_piece.new.sink) c.args.self.now c.take_piece.new.self c.args.piece.now c.take_piece.result c.take_piece.ensures

pub returns-in-Ok-clause-on : goal.returns-in-Ok-clause-on
returns-in-Ok-clause-on g c = (full g c).feeds.on

pub returns-in-Err-clause-on : goal.returns-in-Err-clause-on
returns-in-Err-clause-on g c = (short g c).feeds.on
