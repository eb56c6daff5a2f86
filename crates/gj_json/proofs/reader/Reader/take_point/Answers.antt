-- A whole Point, and what follows it.
use Rattle.gj_json.proofs.Common.{ValueDone, arith, ◌+◌}
use Rattle.gj_json.proofs.Pieces.TakenHeads.{point_taken}
use Rattle.gj_json.proofs.Pieces.TakenTokens.{passed_lands}
use Rattle.gj_json.proofs.Readers.CallsInTurn.{of_prefix, then_all}
use Rattle.gj_json.proofs.reader.Reader.take_point.Goals as goal

pub returns : goal.returns
returns g c =
    let reader = c.args.self.now in
    let mid = c.skip-taken.new.self in
    let piece = c.args.piece.now in
    let end = c.point_end-end.result in
    let found = c.point_end-end.ensures in
    then_all
    (rw (c.skip-taken.ensures.count) (of_prefix (let w = found.within (omega arith) in omega arith)
    (point_taken reader mid piece c.args.usual.now c.located_here.result c.point_end-end.new.flat end c.requires.takes.0 c.requires.due c.requires.takes.1
    (omega (arith, c.if-len-depth.false, c.len.ensures.value, c.depth.ensures.value)) c.requires.found c.located_here.ensures
    (found.within (omega arith)) (found.enclosed (omega arith))
    (passed_lands (end + 1) ValueDone reader mid c.skip-taken.ensures.passed) (λ events h. c.tell_point.ensures events h))))
    c.take_feature_end.ensures
