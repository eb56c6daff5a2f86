-- A usual string.
use Rattle.gj_json.proofs.Common.{arith}
use Rattle.gj_json.proofs.Pieces.TakenTokens.{as_string, text_taken}
use Rattle.gj_json.proofs.Readers.CallsInTurn.{of_prefix}
use Rattle.gj_json.proofs.reader.Reader.take_text.Goals as goal

pub returns-clause-taken : goal.returns-clause-taken
returns-clause-taken g c =
    let n = c.usual_text-usual.result.count in
    let usual = c.usual_text-usual.ensures.usual (omega arith) in
    rw (c.skip.ensures.count) (of_prefix c.usual_text-usual.ensures.within
    (text_taken c.args.self.now c.skip.new.self c.args.piece.now n c.requires.takes.0 c.requires.due c.requires.takes.1 c.usual_text-usual.ensures.within
    c.skip.ensures.passed (as_string usual.quoted) (λ events h. rw (usual.known_as) (c.tell.ensures events h))))
