use Rattle.gj_rules.proofs.Common.{refl}
use Rattle.gj_rules.proofs.Texts.PositionsMore.{positions_told}
use Rattle.gj_rules.proofs.rules.FramedRules.feed_positions.Goals as goal

pub returns-clause-stands : goal.returns-clause-stands
returns-clause-stands g c = λ flats are.
    let old = c.args.self.now in
    positions_told old (record old { coordinates = c.take_cuts.new.self }) c.requires.skipped c.requires.mode c.requires.skipped c.requires.mode refl flats
    (c.take_cuts.ensures.stands flats are) (c.take_cuts.ensures.goes_on flats are)
