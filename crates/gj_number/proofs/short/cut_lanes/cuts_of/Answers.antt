use Rattle.gj_number.proofs.Common.{ap, get_or, ◌++◌, ◌∙◌}
use Rattle.gj_number.specs.Internal.CutLanes.{by_parts}
use Rattle.gj_number.proofs.Shorts.CutLanes.{cut_at, cut_below, first_cut, second_cut, sevens_small}
use Rattle.gj_number.proofs.short.cut_lanes.cuts_of.Goals as goal

pub sevens_of-requires : goal.sevens_of-requires
sevens_of-requires c =
    sevens_small c.args.first c.args.second _ _ c.parts_of.ensures c.parts_of-2.ensures c.fits-first.0 c.fits-second.0 c.requires.first c.requires.second

pub returns-clause-first : goal.returns-clause-first
returns-clause-first c =
    ap (λ rs. get_or rs 0 0) c.sevens_of.ensures ∙ ap (λ fs. cut_at (fs ++ c.parts_of-2.result) 0) c.parts_of.ensures
    ∙ first_cut c.args.first c.parts_of-2.result c.fits-first.0 c.requires.first

pub returns-clause-second : goal.returns-clause-second
returns-clause-second c =
    ap (λ rs. get_or rs 1 0) c.sevens_of.ensures ∙ ap (λ fs. cut_at (fs ++ c.parts_of-2.result) 4) c.parts_of.ensures
    ∙ ap (λ gs. cut_at (by_parts c.args.first ++ gs) 4) c.parts_of-2.ensures
    ∙ second_cut c.args.first c.args.second c.fits-first.0 c.fits-second.0 c.requires.second

pub returns-clause-first_below : goal.returns-clause-first_below
returns-clause-first_below c = rw (returns-clause-first c) (cut_below c.args.first c.fits-first.0 c.requires.first)

pub returns-clause-second_below : goal.returns-clause-second_below
returns-clause-second_below c = rw (returns-clause-second c) (cut_below c.args.second c.fits-second.0 c.requires.second)
