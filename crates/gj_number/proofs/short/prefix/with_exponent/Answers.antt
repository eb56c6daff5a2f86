use Rattle.gj_number.proofs.Common.{Bool, StartsWithNumber, arith, refl, subst, sym, ◌+◌}
use Rattle.gj_number.specs.Short.{short_value}
use Rattle.gj_number.proofs.Shorts.NumberPrefixes.{spells_rest}
use Rattle.gj_number.proofs.Shorts.WrittenExponents.{exponent_front, few_written, plain_front}
use Rattle.gj_number.proofs.short.prefix.with_exponent.Goals as goal

pub moved-requires : goal.moved-requires
moved-requires c = few_written _ _ _ c.first_run-written.ensures.spells c.first_run-written.ensures.few

pub returns-else-may_stand-clause-number : goal.returns-else-may_stand-clause-number
returns-else-may_stand-clause-number c = λ some.
    let old = c.args.number.now in
    let room = c.requires.room in
    plain_front c.args.piece.now old.negative old.digits old.places c.args.end c.requires.plain old.small old.few (omega arith)
    (c.if-may_stand.ensures.class refl)

pub returns-clause-number : goal.returns-clause-number
returns-clause-number c = λ some.
    let piece = c.args.piece.now in
    let old = c.args.number.now in
    let sign = c.sign_of-sign in
    let written = c.first_run-written in
    let first = c.args.end + 1 + sign.result.count in
    let moved = c.in-Some.moved in
    let is = c.in-Some.ensures in
    let small = few_written _ _ _ written.ensures.spells written.ensures.few in
    let P : Bool → Type 0 = λ b. StartsWithNumber piece (short_value b moved.digits moved.places) (first + written.result.count) in
    subst P (sym is.sign)
    (exponent_front piece old.negative old.digits old.places c.args.end c.requires.plain sign.result.count first written.result.count written.result.value
    sign.result.negative (omega arith)
    (c.is_letter.ensures.0 c.if-not-is_letter.false) sign.ensures.few sign.ensures.sign refl (spells_rest piece first 0 _ _ written.ensures.spells)
    (omega arith)
    is.up moved.digits moved.places is.digits moved.small moved.few (omega arith) is.power (omega arith) (c.if-may_stand-2.ensures.class refl))
