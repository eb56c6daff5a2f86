-- The quotes, and plain characters between them.
use Rattle.gj_json.proofs.Common.{ap, arith, is_unescaped_ascii, prefix_len, ◌∙◌}
use Rattle.gj_json.proofs.Pieces.PieceRests.{rest_of}
use Rattle.gj_json.proofs.Grammar.SpelledTokens.{quoted_cut}
use Rattle.gj_json.proofs.tokens.plain_quoted_run.Goals as goal

pub returns-then-piece-count-eq34-clause-quoted : goal.returns-then-piece-count-eq34-clause-quoted
returns-then-piece-count-eq34-clause-quoted c = λ some.
    quoted_cut c.args.piece.now c.run-count.result (omega (arith, c.if-count-piece.true)) c.requires.begins c.if-piece-count-eq34.true
    (c.run-count.ensures ∙ ap (λ xs. prefix_len is_unescaped_ascii xs) (rest_of c.args.piece.now 1))
