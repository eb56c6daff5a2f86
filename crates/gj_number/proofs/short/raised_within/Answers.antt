use Rattle.gj_number.proofs.Common.{arith, sym, ◌*◌, ◌-◌, ◌^◌}
use Rattle.gj_number.proofs.Shorts.CutNumbers.{limited_at, limited_past, raised_at, raised_past}
use Rattle.gj_number.proofs.short.raised_within.Goals as goal

pub returns-then-digits-most-clause-magnitude : goal.returns-then-digits-most-clause-magnitude
returns-then-digits-most-clause-magnitude c =
    sym (limited_past (c.args.most * 10 ^ 7) (c.args.digits * 10 ^ (7 - c.args.places))
    (raised_past c.args.digits c.args.places c.args.most c.requires.places (rw c.ten_to.ensures at c.if-digits-most.true)))

pub overflow_mul-result : goal.overflow_mul-result
overflow_mul-result c =
    let w = raised_at c.args.digits c.args.places c.args.most c.requires.places (rw c.ten_to.ensures at c.if-digits-most.false) in
    let m = c.requires.most in
    rw c.ten_to-2.ensures (omega arith)

pub returns : goal.returns
returns c =
    let w = raised_at c.args.digits c.args.places c.args.most c.requires.places (rw c.ten_to.ensures at c.if-digits-most.false) in
    let m = c.requires.most in
    record {
      magnitude = rw c.ten_to-2.ensures (sym (limited_at (c.args.most * 10 ^ 7) (c.args.digits * 10 ^ (7 - c.args.places)) w));
      below = rw c.ten_to-2.ensures (omega arith);
    }
