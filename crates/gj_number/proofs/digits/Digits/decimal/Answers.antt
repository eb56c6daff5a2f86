use Rattle.gj_number.proofs.Common.{SFits, Some, ap, arith, inl, inr, refl, rules, sym, to_z-of_z, ◌<◌, ◌∙◌, ◌≡◌, ◌≤◌, ◌⊎◌}
use Rattle.std.proofs.Common.{w16}
use Rattle.gj_number.proofs.Value.HeldDecimals.{decimal_limits, zero_held, far_not_held, power_not_held, decimal_held}
use Rattle.gj_number.proofs.Literals.LastDigits.{last_is}
use Rattle.gj_number.proofs.Value.HeldLimits.{exact_of}
use Rattle.gj_number.proofs.digits.Digits.decimal.Goals as goal

pub new-requires : goal.new-requires
new-requires c =
    let d = c.args.self.now in
    let x = c.args.exponent in
    let p = c.in-Some.power in
    let fits : SFits w16 p = search rules in
    let few : d.count ≤ 30 = omega (arith, c.if-self-gt-MOST_DIGITS.false) in
    rw (to_z-of_z w16 p fits)
    (decimal_limits c.args.negative x.negative d.all d.count d.pending d.places x.magnitude p few
    d.bounded (last_is d.all d.count c.if-self-eq0.false few d.stripped)
    (sym c.power.ensures ∙ c.in-Some.is))

pub returns-then-self-eq0 : goal.returns-then-self-eq0
returns-then-self-eq0 c most whole fraction written old small magnitude =
    let d = c.args.self.now in
    let x = c.args.exponent in
    ap Some c.zero.ensures
    ∙ zero_held c.args.negative x.negative d.all d.count d.pending d.places whole fraction x.magnitude old most written small magnitude c.if-self-eq0.true

pub returns-then-self-gt-MOST_DIGITS : goal.returns-then-self-gt-MOST_DIGITS
returns-then-self-gt-MOST_DIGITS c most whole fraction written old small magnitude =
    let d = c.args.self.now in
    let x = c.args.exponent in
    let far : (30 < d.count) ⊎ (1000 < x.magnitude) = elim c.then-self-gt-MOST_DIGITS.either [ inl many ↦ inl many | inr large ↦ inr large.1 ] in
    far_not_held c.args.negative x.negative
    d.all d.count d.pending d.places whole fraction x.magnitude old most written small magnitude c.if-self-eq0.false far

pub returns-in-None : goal.returns-in-None
returns-in-None c most whole fraction written old small magnitude =
    let d = c.args.self.now in
    let x = c.args.exponent in
    power_not_held c.args.negative x.negative d.all d.count d.pending d.places whole fraction x.magnitude old most written small magnitude
    c.if-self-eq0.false c.if-self-gt-MOST_DIGITS.false c.if-exponent-gt-EXPONENT_LIMIT.false (sym c.power.ensures ∙ c.in-None.is)

pub returns-in-Some : goal.returns-in-Some
returns-in-Some c most whole fraction written old small magnitude =
    let d = c.args.self.now in
    let x = c.args.exponent in
    let p = c.in-Some.power in
    let fits : SFits w16 p = search rules in
    let made : c.new.result ≡ exact_of c.args.negative d.all p = c.new.ensures ∙ (rw (to_z-of_z w16 p fits) refl) in
    ap Some made
    ∙ decimal_held c.args.negative x.negative d.all d.count d.pending d.places whole fraction x.magnitude old most written small magnitude p
    c.if-self-eq0.false c.if-self-gt-MOST_DIGITS.false c.if-exponent-gt-EXPONENT_LIMIT.false (sym c.power.ensures ∙ c.in-Some.is)
