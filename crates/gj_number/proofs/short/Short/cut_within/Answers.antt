use Rattle.gj_number.proofs.Common.{SFits, Some, ap, arith, cut_of, cut_within, option_map, rules, signed, sym, to_z-of_z, ◌*◌, ◌∙◌, ◌≡◌}
use Rattle.std.proofs.Common.{w32}
use Rattle.gj_number.specs.Short.{exact_of}
use Rattle.gj_number.proofs.Shorts.ShortDecimals.{cut_within_is}
use Rattle.gj_number.proofs.short.Short.cut_within.Goals as goal

pub returns-in-Some : goal.returns-in-Some
returns-in-Some c =
    let s = c.args.self in
    let fits : SFits w32 c.small_with_sign.result = search rules in
    let e : option_map (signed s.negative) (Some c.in-Some.magnitude) ≡ cut_within (c.args.most * 10000000) (cut_of (exact_of s)) =
    ap (option_map (signed s.negative)) (sym c.in-Some.is ∙ c.magnitude_within.ensures.magnitude)
    ∙ cut_within_is s.negative s.digits s.places (c.args.most * 10000000) s.small (omega arith) in
    rw (to_z-of_z w32 c.small_with_sign.result fits) (ap Some c.small_with_sign.ensures ∙ e)
