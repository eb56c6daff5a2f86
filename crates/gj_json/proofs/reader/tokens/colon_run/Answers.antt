-- The colon, and the white space around it.
use Rattle.gj_json.proofs.Common.{arith}
use Rattle.gj_json.proofs.Grammar.SpelledTokens.{colon_cut}
use Rattle.gj_json.proofs.reader.tokens.colon_run.Goals as goal

pub returns-clause-leads : goal.returns-clause-leads
returns-clause-leads c = λ some.
    colon_cut c.args.piece.now c.white_run-white.result c.white_end.result c.white_run-white.ensures
    (omega (arith, c.if-white-piece.false)) c.if-piece-white-ne58.false c.white_end.ensures.on c.white_end.ensures.within c.white_end.ensures.white
