-- From the closing bracket back to the opening one.
use Rattle.gj_json.proofs.Common.{arith, option_to_list, [], ◌+◌, ◌∷◌}
use Rattle.gj_json.proofs.Grammar.SpelledFlats.{end_cut, more_cut, flat_cut}
use Rattle.gj_json.proofs.flats.read_any_flat.Goals as goal

pub returns-then-piece-second-eq93-clause-flat : goal.returns-then-piece-second-eq93-clause-flat
returns-then-piece-second-eq93-clause-flat c = λ some.
    let piece = c.args.piece.now in
    let start = c.args.start in
    let a = c.read_item-first in
    let b = c.read_item-second in
    let within = b.ensures.within (omega arith) in
    let on = a.ensures.on (omega arith) in
    let more_on = b.ensures.on (omega arith) in
    let closing = end_cut piece start b.result (omega arith) c.if-piece-second-eq93.true in
    let more = more_cut piece start b.new.number [] (start + b.result) a.result b.result (b.result + 1) c.if-piece-first-ne44.false more_on (omega arith)
    (omega arith) (b.ensures.item (omega arith)) closing in
    flat_cut piece start a.new.number (b.new.number ∷ []) (start + b.result) a.result (b.result + 1) c.requires.bracket on (omega arith) (omega arith)
    (a.ensures.item (omega arith)) more

pub returns-clause-flat : goal.returns-clause-flat
returns-clause-flat c = λ some.
    let piece = c.args.piece.now in
    let start = c.args.start in
    let a = c.read_item-first in
    let b = c.read_item-second in
    let t = c.read_third in
    let third = t.new.flat.third in
    let close = t.new.flat.close in
    let within = t.ensures.within in
    let on = a.ensures.on (omega arith) in
    let more_on = b.ensures.on (omega arith) in
    let last_on = t.ensures.on some in
    let more = more_cut piece start b.new.number (option_to_list third) close a.result b.result t.result c.if-piece-first-ne44.false more_on
    (omega arith) within (b.ensures.item (omega arith)) (t.ensures.third some) in
    rw (t.ensures.place, t.ensures.first, t.ensures.second)
    (flat_cut piece start a.new.number (b.new.number ∷ option_to_list third) close a.result t.result c.requires.bracket on (omega arith) within
    (a.ensures.item (omega arith)) more)
