-- A string of plain characters.
use Rattle.gj_json.proofs.Common.{arith}
use Rattle.gj_json.proofs.Pieces.TakenTokens.{as_string, text_taken}
use Rattle.gj_json.proofs.Readers.CallsInTurn.{of_prefix}
use Rattle.gj_json.proofs.reader.Reader.take_plain_text.Goals as goal

pub returns-clause-taken : goal.returns-clause-taken
returns-clause-taken g c =
    let n = c.plain_quoted_run-count.result in
    rw (c.skip.ensures.count) (of_prefix c.plain_quoted_run-count.ensures.within
    (text_taken c.args.self.now c.skip.new.self c.args.piece.now n c.requires.takes.0 c.requires.due c.requires.takes.1 c.plain_quoted_run-count.ensures.within
    c.skip.ensures.passed
    (as_string (c.plain_quoted_run-count.ensures.quoted (omega arith))) (λ events h. rw (← c.type_of.ensures) (c.tell.ensures events h))))
