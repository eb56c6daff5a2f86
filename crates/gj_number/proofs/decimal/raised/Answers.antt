use Rattle.gj_number.proofs.Common.{arith, sym}
use Rattle.gj_number.proofs.Shorts.CutNumbers.{raised_far, raised_above, raised_small, limited_below}
use Rattle.gj_number.proofs.decimal.raised.Goals as goal
use Rattle.gj_number.proofs.decimal.raised.Goals.{then-up-ge-CUT_DIGITS-via-then-up-ge-CUT_DIGITS}
use Rattle.gj_number.proofs.decimal.raised.Goals.{then-up-ge-CUT_DIGITS-via-else-up-ge-CUT_DIGITS+then-digits-ten_to}

pub returns-then-up-ge-CUT_DIGITS-clause-magnitude : goal.returns-then-up-ge-CUT_DIGITS-clause-magnitude
returns-then-up-ge-CUT_DIGITS-clause-magnitude c = elim c.then-up-ge-CUT_DIGITS.branch [
  | then-up-ge-CUT_DIGITS-via-then-up-ge-CUT_DIGITS w ↦ sym (raised_far c.args.digits c.args.up (omega arith) w.if-up-ge-CUT_DIGITS.true)
  | then-up-ge-CUT_DIGITS-via-else-up-ge-CUT_DIGITS+then-digits-ten_to w ↦
      sym (raised_above c.args.digits c.args.up w.if-up-ge-CUT_DIGITS.false (rw w.ten_to.ensures at w.if-digits-ten_to.true))
]

pub overflow_mul-result : goal.overflow_mul-result
overflow_mul-result c =
    let small = raised_small c.args.digits c.args.up c.if-up-ge-CUT_DIGITS.false (rw c.ten_to.ensures at c.if-digits-ten_to.false) in
    rw c.ten_to-2.ensures (omega arith)

pub returns-clause-magnitude : goal.returns-clause-magnitude
returns-clause-magnitude c =
    let small = raised_small c.args.digits c.args.up c.if-up-ge-CUT_DIGITS.false (rw c.ten_to.ensures at c.if-digits-ten_to.false) in
    rw c.ten_to-2.ensures (sym (limited_below _ small))

pub returns-clause-below : goal.returns-clause-below
returns-clause-below c =
    let small = raised_small c.args.digits c.args.up c.if-up-ge-CUT_DIGITS.false (rw c.ten_to.ensures at c.if-digits-ten_to.false) in
    rw c.ten_to-2.ensures small
