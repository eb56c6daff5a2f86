-- Plain characters and others, and the quotes around them.
use Rattle.gj_json.proofs.Common.{arith}
use Rattle.gj_json.proofs.Pieces.TokensInLevels.{quoted_is, more_quoted}
use Rattle.gj_json.proofs.tokens.quoted_run.Goals as goal

pub returns-then-piece-plain-eq34-clause-quoted : goal.returns-then-piece-plain-eq34-clause-quoted
returns-then-piece-plain-eq34-clause-quoted c =
    λ w. quoted_is c.args.piece.now c.plain_text_run-plain.result c.requires.some c.requires.quote c.plain_text_run-plain.ensures.characters
    (omega (arith, c.if-plain-piece.false, c.plain_text_run-plain.ensures.within)) c.if-piece-plain-eq34.true

pub returns-then-piece-end-eq34-clause-quoted : goal.returns-then-piece-end-eq34-clause-quoted
returns-then-piece-end-eq34-clause-quoted c = λ w.
    more_quoted c.args.piece.now c.plain_text_run-plain.result c.characters_run.result c.requires.some c.requires.quote
    c.plain_text_run-plain.ensures.characters c.characters_run.ensures.characters c.if-end-piece.true c.if-piece-end-eq34.true
