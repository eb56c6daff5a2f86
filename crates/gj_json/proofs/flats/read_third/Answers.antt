-- A comma, a number and the closing bracket.
use Rattle.gj_json.proofs.Common.{arith, [], ◌+◌}
use Rattle.gj_json.proofs.Grammar.SpelledFlats.{end_cut, more_cut}
use Rattle.gj_json.proofs.flats.read_third.Goals as goal

pub returns-clause-third : goal.returns-clause-third
returns-clause-third c = λ some.
    let piece = c.args.piece.now in
    let start = c.args.start in
    let read = c.read_item-third in
    let last = read.result in
    let within = read.ensures.within (omega arith) in
    let on = read.ensures.on (omega arith) in
    let closing = end_cut piece start last (omega arith) c.if-piece-third-ne93.false in
    more_cut piece start read.new.number [] (start + last) c.args.at last (last + 1) c.if-piece-at-ne44.false on (omega arith) (omega arith)
    (read.ensures.item (omega arith)) closing
