-- What is found near the start, and what simdutf8 finds after it.
use Rattle.gj_json.proofs.Common.{AreCharacters, IsLongestUtf8, List, Plain, arith, plain_run_of, ℕ, ◌++◌}
use Rattle.std.proofs.Common.{take}
use Rattle.gj_json.proofs.Grammar.Utf8Characters.{front_utf8, front_unescaped, front_within, characters_read}
use Rattle.gj_json.proofs.Pieces.QuietModes.{reads_more}
use Rattle.gj_json.proofs.Pieces.PieceRests.{more_within}
use Rattle.gj_json.proofs.characters.unescaped_run.Goals as goal

whole_read : (rest : List ℕ) (count : ℕ) → IsLongestUtf8 (take (plain_run_of rest) rest) count → AreCharacters (take count rest)
whole_read rest count h =
    let utf8 = front_utf8 rest (plain_run_of rest) count (omega arith) h in
    (utf8.0, characters_read (take count rest) utf8 (front_unescaped rest (plain_run_of rest) count (omega arith) h))

pub overflow_add-near : goal.overflow_add-near
overflow_add-near c = record { fits = omega (arith, c.near_run-near.ensures.within) }

pub returns-clause-within : goal.returns-clause-within
returns-clause-within c =
    more_within c.args.piece.now c.near_run-near.result c.whole_characters.result c.near_run-near.ensures.within
    (front_within _ _ _ (omega arith) c.whole_characters.ensures)

pub returns-clause-characters : goal.returns-clause-characters
returns-clause-characters c =
    let before = c.near_run-near.ensures.characters in
    let more = whole_read _ c.whole_characters.result c.whole_characters.ensures in
    (before.0 ++ more.0, reads_more Plain Plain Plain c.args.piece.now before.0 more.0 c.near_run-near.result c.whole_characters.result before.1 more.1)
