-- The characters by what is seen at each byte.
use Rattle.gj_json.proofs.Common.{sym, ◌∙◌}
use Rattle.gj_json.proofs.Grammar.SpelledCharacters.{characters_read_at}
use Rattle.gj_json.proofs.Grammar.WideCharacterEnds.{all_whole, but_one_whole, but_two_whole}
use Rattle.gj_json.proofs.characters.wide_run.Goals as goal

pub returns-then-piece-clause-characters : goal.returns-then-piece-clause-characters
returns-then-piece-clause-characters c = characters_read_at c.args.piece.now c.wide_character.result c.wide_character.ensures.character

pub returns-then-not-is_tail-clause-characters : goal.returns-then-not-is_tail-clause-characters
returns-then-not-is_tail-clause-characters c =
    let first = c.begins_wide.ensures in
    let end = c.end_of_wide-end.ensures in
    all_whole c.args.piece.now c.end_of_wide-end.result end.within.0 end.within.1 (first.begins c.if-not-begins_wide.false)
    (first.goes_on c.if-not-begins_wide.false) end.none (sym c.is_tail.ensures ∙ c.if-not-is_tail.true)

pub returns-then-not-is_tail-2-clause-characters : goal.returns-then-not-is_tail-2-clause-characters
returns-then-not-is_tail-2-clause-characters c =
    let first = c.begins_wide.ensures in
    let end = c.end_of_wide-end.ensures in
    but_one_whole c.args.piece.now c.end_of_wide-end.result end.within.0 end.within.1 (first.begins c.if-not-begins_wide.false)
    (first.goes_on c.if-not-begins_wide.false) end.none (sym c.is_tail.ensures ∙ c.if-not-is_tail.false)
    (sym c.is_tail-else-not-is_tail.ensures ∙ c.if-not-is_tail-2.true)

pub returns-else-not-is_tail-2-clause-characters : goal.returns-else-not-is_tail-2-clause-characters
returns-else-not-is_tail-2-clause-characters c =
    let first = c.begins_wide.ensures in
    let end = c.end_of_wide-end.ensures in
    (but_two_whole c.args.piece.now c.end_of_wide-end.result end.within.0 end.within.1 (first.begins c.if-not-begins_wide.false)
    (first.goes_on c.if-not-begins_wide.false) end.none (sym c.is_tail.ensures ∙ c.if-not-is_tail.false)
    (sym c.is_tail-else-not-is_tail.ensures ∙ c.if-not-is_tail-2.false)).0
