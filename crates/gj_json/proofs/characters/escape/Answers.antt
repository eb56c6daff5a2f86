-- The bytes of an escape.
use Rattle.gj_json.proofs.Common.{arith, sym, ◌∙◌}
use Rattle.gj_json.proofs.Grammar.SpelledCharacters.{short_taken, unicode_taken}
use Rattle.gj_json.proofs.characters.escape.Goals as goal

pub returns-then-is_short-clause-character : goal.returns-then-is_short-clause-character
returns-then-is_short-clause-character c =
    λ some. short_taken c.args.piece.now (omega arith) c.requires.begins (λ e. omega arith) (sym c.is_short.ensures ∙ c.if-is_short.true)

pub returns-then-are_hexadecimal-clause-character : goal.returns-then-are_hexadecimal-clause-character
returns-then-are_hexadecimal-clause-character c = λ some.
    let h = c.are_hexadecimal.ensures in
    let all = c.if-are_hexadecimal.true in
    unicode_taken c.args.piece.now (omega arith) c.requires.begins (omega arith) (h.first all) (h.second all) (h.third all) (h.fourth all)
