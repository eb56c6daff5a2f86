-- A pair between brackets.
use Rattle.gj_json.proofs.Common.{refl, ◌+◌}
use Rattle.gj_json.proofs.Grammar.SpelledPairs.{pair_spelled}
use Rattle.gj_json.proofs.flats.read_flat.Goals as goal

pub returns-clause-flat : goal.returns-clause-flat
returns-clause-flat c =
    let piece = c.args.piece.now in
    let start = c.args.start in
    let numbers = c.pair_after_bracket.new in
    let pair = c.in-Some.pair in
    rw (c.drop_third.ensures)
    (pair_spelled piece start (record { value = numbers.first; place = start + 1 })
    (record { value = numbers.second; place = start + 1 + pair.second }) pair.comma pair.second pair.end c.requires.bracket refl refl c.in-Some.ensures)
