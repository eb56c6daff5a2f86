-- An opening bracket, and the type after it.
use Rattle.gj_json.proofs.Common.{arith, refl}
use Rattle.gj_json.proofs.Pieces.TakenHeads.{typed_taken}
use Rattle.gj_json.proofs.Pieces.TakenTokens.{pushed_lands}
use Rattle.gj_json.proofs.Readers.CallsInTurn.{of_prefix}
use Rattle.gj_json.proofs.reader.Reader.take_typed.Goals as goal

pub returns : goal.returns
returns g c =
    let typed = c.usual_typed-typed.result in
    rw (c.skip.ensures.count) (of_prefix c.usual_typed-typed.ensures.within
    (typed_taken c.args.self.now c.skip.new.self c.args.piece.now typed.count typed.name_at typed.word_at typed.word c.requires.takes.0 c.requires.due c.requires.takes.1
    c.usual_typed-typed.ensures.within
    (omega (arith, c.if-len-depth.false, c.len.ensures.value, c.depth.ensures.value)) (c.usual_typed-typed.ensures.usual (omega arith))
    (pushed_lands c.args.self.now c.skip.ensures.passed refl refl refl c.push.ensures)
    (λ events h. c.tell_head.ensures events h)))
