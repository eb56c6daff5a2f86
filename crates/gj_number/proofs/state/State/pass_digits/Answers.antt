use Rattle.gj_number.proofs.Common.{recursion_from_All, IsDigit, refl, take}
use Rattle.gj_number.proofs.Shorts.WholeNumbers.{digits_stay}
use Rattle.gj_number.proofs.state.State.pass_digits.Goals as goal

pub returns-in-InNatural-clause-same : goal.returns-in-InNatural-clause-same
returns-in-InNatural-clause-same c =
    let digits = take c.digit_run.result c.args.piece.now in
    digits_stay c.args.self digits (rw (c.in-InNatural.is) refl) (recursion_from_All IsDigit digits c.digit_run.ensures.digits)

pub returns-in-InFraction-clause-same : goal.returns-in-InFraction-clause-same
returns-in-InFraction-clause-same c =
    let digits = take c.digit_run-in-InFraction.result c.args.piece.now in
    digits_stay c.args.self digits (rw (c.in-InFraction.is) refl) (recursion_from_All IsDigit digits c.digit_run-in-InFraction.ensures.digits)

pub returns-in-InExponent-clause-same : goal.returns-in-InExponent-clause-same
returns-in-InExponent-clause-same c =
    let digits = take c.digit_run-in-InExponent.result c.args.piece.now in
    digits_stay c.args.self digits (rw (c.in-InExponent.is) refl) (recursion_from_All IsDigit digits c.digit_run-in-InExponent.ensures.digits)
