use Rattle.gj_number.proofs.Common.{SFits, Some, ap, rules, sym, to_z-of_z, w64, ◌∙◌}
use Rattle.gj_number.proofs.Shorts.ShortDecimals.{cut_some}
use Rattle.gj_number.proofs.short.Short.cut.Goals as goal

pub returns-in-Some : goal.returns-in-Some
returns-in-Some c =
    let s = c.args.self in
    let fits : SFits w64 c.with_sign.result = search rules in
    rw (to_z-of_z w64 c.with_sign.result fits)
    (ap Some c.with_sign.ensures ∙ cut_some s.negative s.digits s.places c.in-Some.magnitude s.small (sym c.cut_magnitude.ensures.magnitude ∙ c.in-Some.is))
