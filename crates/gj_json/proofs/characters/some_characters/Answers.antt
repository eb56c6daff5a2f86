-- One character, or a run of them.
use Rattle.gj_json.proofs.Common.{Plain, arith, is_unescaped_ascii, prefix_len-le-length, ◌++◌}
use Rattle.gj_json.proofs.Grammar.SpelledCharacters.{plain_characters}
use Rattle.gj_json.proofs.Pieces.QuietModes.{reads_more}
use Rattle.gj_json.proofs.Pieces.PieceRests.{more_within}
use Rattle.gj_json.proofs.characters.some_characters.Goals as goal

pub returns-then-piece-eq92-clause-within : goal.returns-then-piece-eq92-clause-within
returns-then-piece-eq92-clause-within c =
    more_within c.args.piece.now c.escapes_run-escaped.result c.run.result c.escapes_run-escaped.ensures.within
    (rw (c.run.ensures) (prefix_len-le-length is_unescaped_ascii _))

pub returns-then-piece-eq92-clause-characters : goal.returns-then-piece-eq92-clause-characters
returns-then-piece-eq92-clause-characters c =
    let before = c.escapes_run-escaped.ensures.characters in
    let more = plain_characters _ c.run.result c.run.ensures in
    (before.0 ++ more.0, reads_more Plain Plain Plain c.args.piece.now before.0 more.0 c.escapes_run-escaped.result c.run.result before.1 more.1)

pub returns-then-piece-lt128-clause-within : goal.returns-then-piece-lt128-clause-within
returns-then-piece-lt128-clause-within c = rw (c.run-then-piece-lt128.ensures) (prefix_len-le-length is_unescaped_ascii c.args.piece.now)

pub returns-then-piece-lt128-clause-characters : goal.returns-then-piece-lt128-clause-characters
returns-then-piece-lt128-clause-characters c = plain_characters c.args.piece.now c.run-then-piece-lt128.result c.run-then-piece-lt128.ensures

pub overflow_add-result : goal.overflow_add-result
overflow_add-result c =
    let all = more_within c.args.piece.now c.escapes_run-escaped.result c.run.result c.escapes_run-escaped.ensures.within
    (rw (c.run.ensures) (prefix_len-le-length is_unescaped_ascii _)) in
    record { fits = omega (arith, all) }
