-- The name of properties and the bracket after it, and what is passed in their object.
use Rattle.gj_json.proofs.Common.{arith, refl}
use Rattle.gj_json.proofs.Pieces.TakenHeads.{opened_taken}
use Rattle.gj_json.proofs.Pieces.TakenTokens.{pushed_lands}
use Rattle.gj_json.proofs.Readers.CallsInTurn.{of_prefix, then_all}
use Rattle.gj_json.proofs.reader.Reader.take_properties.Goals as goal

pub returns : goal.returns
returns g c =
    let reader = c.args.self.now in
    let mid = c.skip.new.self in
    let piece = c.args.piece.now in
    let count = c.properties_run-count.result in
    then_all
    (of_prefix c.properties_run-count.ensures.within
    (opened_taken reader mid piece count c.requires.takes.0 c.requires.due c.requires.takes.1 c.properties_run-count.ensures.within
    (omega (arith, c.if-len-depth.false, c.len.ensures.value, c.depth.ensures.value)) (c.properties_run-count.ensures.opens (omega arith))
    (pushed_lands c.args.self.now c.skip.ensures.passed refl refl refl c.push.ensures)
    (λ events h. c.tell_head.ensures events h)))
    c.pass_ignored.ensures
