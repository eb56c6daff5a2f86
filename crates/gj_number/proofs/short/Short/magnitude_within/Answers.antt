use Rattle.gj_number.proofs.Common.{ap, arith, limited_to, sym, ◌*◌, ◌-◌, ◌∙◌}
use Rattle.gj_number.proofs.Shorts.ShortDecimals.{cut_raised, cut_lowered}
use Rattle.gj_number.proofs.short.Short.magnitude_within.Goals as goal

pub returns-then-self-le-CUT_PLACES-clause-magnitude :
    goal.returns-then-self-le-CUT_PLACES-clause-magnitude
returns-then-self-le-CUT_PLACES-clause-magnitude c =
    let s = c.args.self in
    c.raised_within.ensures.magnitude
    ∙ ap (limited_to (c.args.most * 10000000)) (sym (cut_raised s.negative s.digits s.places s.small c.if-self-le-CUT_PLACES.true))

pub returns-else-self-le-CUT_PLACES-clause-magnitude :
    goal.returns-else-self-le-CUT_PLACES-clause-magnitude
returns-else-self-le-CUT_PLACES-clause-magnitude c =
    let s = c.args.self in
    c.lowered_within.ensures.magnitude
    ∙ ap (limited_to (c.args.most * 10000000)) (sym (cut_lowered s.negative s.digits s.places (s.places - 7) s.small (omega arith)))
