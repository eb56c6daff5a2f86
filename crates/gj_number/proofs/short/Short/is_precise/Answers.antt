use Rattle.gj_number.proofs.Common.{arith, ◌*◌, ◌-◌, ◌/◌, ◌^◌}
use Rattle.gj_number.proofs.Shorts.ShortDecimals.{precise_is, not_precise, unequal_iff, differ_iff}
use Rattle.gj_number.proofs.short.Short.is_precise.Goals as goal

pub returns-then-self-le-CUT_PLACES : goal.returns-then-self-le-CUT_PLACES
returns-then-self-le-CUT_PLACES c = let s = c.args.self in differ_iff _ (not_precise s.negative s.digits s.places s.small c.if-self-le-CUT_PLACES.true)

pub returns : goal.returns
returns c =
    let s = c.args.self in
    let p = precise_is s.negative s.digits s.places (s.places - 7) s.small (omega arith) in
    let u = unequal_iff (s.digits / 10 ^ (s.places - 7) * 10 ^ (s.places - 7)) s.digits in
    rw (c.without_last.ensures.value, c.ten_to.ensures) ((λ t. p.0 (u.0 t)), (λ l. u.1 (p.1 l)))
