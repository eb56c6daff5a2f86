-- A whole Point whose coordinates stand before its type.
use Rattle.gj_json.proofs.Common.{ValueDone, arith, ◌+◌, ◌-◌}
use Rattle.gj_json.proofs.Pieces.LatePoints.{late_point_taken}
use Rattle.gj_json.proofs.Pieces.TakenTokens.{passed_lands}
use Rattle.gj_json.proofs.Readers.CallsInTurn.{of_prefix}
use Rattle.gj_json.proofs.reader.Reader.take_late_point.Goals as goal

pub returns : goal.returns
returns g c =
    let reader = c.args.self.now in
    let point = c.in-Some.point in
    rw (c.skip.ensures.count) (of_prefix (omega (arith, c.in-Some.ensures.within, c.in-Some.ensures.on))
    (late_point_taken reader c.skip.new.self c.args.piece.now point c.late_point.new.flat c.requires.takes.0 c.requires.due c.requires.takes.1
    (omega (arith, c.if-len-depth.false, c.len.ensures.value, c.depth.ensures.value)) c.in-Some.ensures.late
    (passed_lands (point.close - reader.offset + 1) ValueDone reader c.skip.new.self c.skip.ensures.passed) (λ events h. c.tell_late_point.ensures events h)))
