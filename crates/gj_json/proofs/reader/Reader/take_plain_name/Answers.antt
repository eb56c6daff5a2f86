-- A name, and its colon.
use Rattle.gj_json.proofs.Common.{arith}
use Rattle.gj_json.proofs.Pieces.PieceRests.{more_within}
use Rattle.gj_json.proofs.Pieces.TakenTokens.{as_string, named_taken}
use Rattle.gj_json.proofs.Readers.CallsInTurn.{of_prefix}
use Rattle.gj_json.proofs.reader.Reader.take_plain_name.Goals as goal

pub returns-clause-taken : goal.returns-clause-taken
returns-clause-taken g c =
    let n = c.plain_quoted_run-name.result in
    rw (c.skip.ensures.count) (of_prefix
    (more_within c.args.piece.now n c.colon_run-colon.result c.plain_quoted_run-name.ensures.within c.colon_run-colon.ensures.within)
    (named_taken c.args.self.now c.skip.new.self c.args.piece.now n c.colon_run-colon.result c.requires.takes.0 c.requires.due c.requires.takes.1
    c.plain_quoted_run-name.ensures.within
    (as_string (c.plain_quoted_run-name.ensures.quoted (omega arith))) c.colon_run-colon.ensures.within
    (c.colon_run-colon.ensures.leads (omega arith)) c.skip.ensures.passed (λ events h. rw (← c.name_of.ensures) (c.tell.ensures events h))))
