use Rattle.gj_number.proofs.Common.{ap, arith, limited_cut, sym, ◌-◌, ◌∙◌}
use Rattle.gj_number.proofs.Shorts.CutNumbers.{limited_below}
use Rattle.gj_number.proofs.Shorts.ShortDecimals.{cut_raised, cut_lowered}
use Rattle.gj_number.proofs.short.Short.cut_magnitude.Goals as goal

pub returns-then-self-le-CUT_PLACES-clause-magnitude :
    goal.returns-then-self-le-CUT_PLACES-clause-magnitude
returns-then-self-le-CUT_PLACES-clause-magnitude c =
    let s = c.args.self in
    c.raised.ensures.magnitude ∙ ap limited_cut (sym (cut_raised s.negative s.digits s.places s.small c.if-self-le-CUT_PLACES.true))

pub returns-else-self-le-CUT_PLACES-clause-magnitude :
    goal.returns-else-self-le-CUT_PLACES-clause-magnitude
returns-else-self-le-CUT_PLACES-clause-magnitude c =
    let s = c.args.self in
    let e = cut_lowered s.negative s.digits s.places (s.places - 7) s.small (omega arith) in
    sym (limited_below c.without_last.result c.without_last.ensures.below) ∙ ap limited_cut (c.without_last.ensures.value ∙ sym e)
