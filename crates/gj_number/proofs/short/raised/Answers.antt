use Rattle.gj_number.proofs.Common.{arith, sym}
use Rattle.gj_number.proofs.Shorts.CutNumbers.{raised_above, raised_small, limited_below}
use Rattle.gj_number.proofs.short.raised.Goals as goal

pub returns-then-digits-ten_to-clause-magnitude : goal.returns-then-digits-ten_to-clause-magnitude
returns-then-digits-ten_to-clause-magnitude c = sym (raised_above c.args.digits c.args.up (omega arith) (rw c.ten_to.ensures at c.if-digits-ten_to.true))

pub overflow_mul-result : goal.overflow_mul-result
overflow_mul-result c =
    let small = raised_small c.args.digits c.args.up (omega arith) (rw c.ten_to.ensures at c.if-digits-ten_to.false) in
    rw c.ten_to-2.ensures (omega arith)

pub returns : goal.returns
returns c =
    let small = raised_small c.args.digits c.args.up (omega arith) (rw c.ten_to.ensures at c.if-digits-ten_to.false) in
    record { magnitude = rw c.ten_to-2.ensures (sym (limited_below _ small)); below = rw c.ten_to-2.ensures small }
