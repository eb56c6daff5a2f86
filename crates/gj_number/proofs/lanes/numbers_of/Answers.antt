use Rattle.gj_number.proofs.Common.{ap, get_or, ◌++◌, ◌∙◌}
use Rattle.gj_number.proofs.Shorts.SixteenLanes.{joined_at, eights_small, fours_joined}
use Rattle.gj_number.proofs.lanes.numbers_of.Goals as goal

pub sixteens_of-requires : goal.sixteens_of-requires
sixteens_of-requires c =
    eights_small c.args.first c.args.second _ _ c.fours_of.ensures c.fours_of-2.ensures c.fits-first.0 c.fits-second.0 c.requires.first c.requires.second

pub returns-clause-first : goal.returns-clause-first
returns-clause-first c =
    ap (λ rs. get_or rs 0 0) c.sixteens_of.ensures ∙ ap (λ fs. joined_at (fs ++ c.fours_of-2.result) 0) c.fours_of.ensures
    ∙ fours_joined c.args.first c.fours_of-2.result c.fits-first.0 c.requires.first
