use Rattle.gj_number.proofs.Common.{arith, refl, ◌+◌}
use Rattle.gj_number.proofs.Literals.DigitBounds.{kept_below}
use Rattle.gj_number.proofs.Literals.LastDigits.{last_of}
use Rattle.gj_number.proofs.digits.Digits.keep.Goals as goal

pub overflow_mul-self : goal.overflow_mul-self
overflow_mul-self c =
    let d = c.args.self.now in
    let fits = kept_below d.all d.count d.pending c.args.digit d.bounded c.requires.digit (omega arith) in
    rw (c.wide_ten_to.ensures) (omega (arith, fits.1))

pub overflow_add-self-2 : goal.overflow_add-self-2
overflow_add-self-2 c =
    let d = c.args.self.now in
    let fits = kept_below d.all d.count d.pending c.args.digit d.bounded c.requires.digit (omega arith) in
    rw (c.wide_ten_to.ensures) (omega (arith, fits.1))

pub invariant_of-self-clause-bounded : goal.invariant_of-self-clause-bounded
invariant_of-self-clause-bounded c =
    let d = c.args.self.now in
    let fits = kept_below d.all d.count d.pending c.args.digit d.bounded c.requires.digit (omega arith) in
    rw (c.wide_ten_to.ensures) fits.0

pub invariant_of-self-clause-stripped : goal.invariant_of-self-clause-stripped
invariant_of-self-clause-stripped c =
    let d = c.args.self.now in
    rw (c.wide_ten_to.ensures) (last_of _ (d.count + d.pending + 1) d.all d.pending c.args.digit c.requires.nonzero c.requires.digit refl)
