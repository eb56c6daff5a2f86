-- The arrays in turn.
use Rattle.gj_coords.proofs.Common.{arith, nat_tests, rules}
use Rattle.gj_coords.proofs.Walks.AnswersOfWalks.{steady_in, steady_out, steady_all, none_end}
use Rattle.gj_coords.proofs.Walks.CutPositions.{all_after}
use Rattle.gj_coords.proofs.coordinates.Coordinates.take_cuts.Goals as goal

pub returns-clause-stands : goal.returns-clause-stands
returns-clause-stands c = λ flats are events stands.
    let s = c.args.self.now in
    let (floor, at, less) = c.is_steady_at.ensures (search rules) in
    let first = c.index-positions-0.result in
    let past = all_after floor first c.args.positions.now c.add_cuts.result flats (grind (arith, nat_tests)) (omega arith) c.requires.rising are in
    let k = steady_in s floor events at stands in
    let next = c.add_cuts.new.self in
    steady_out (record s { walk = next }) floor _ at (steady_all flats floor events s.walk next (c.add_cuts.ensures.steady floor flats are past k.1) k)

pub returns-clause-goes_on : goal.returns-clause-goes_on
returns-clause-goes_on c = λ flats are events stands.
    let s = c.args.self.now in
    let (floor, at, less) = c.is_steady_at.ensures (search rules) in
    let first = c.index-positions-0.result in
    let past = all_after floor first c.args.positions.now c.add_cuts.result flats (grind (arith, nat_tests)) (omega arith) c.requires.rising are in
    let k = steady_in s floor events at stands in
    none_end flats floor events s.walk c.add_cuts.new.self (c.add_cuts.ensures.steady floor flats are past k.1) k
