use Rattle.gj_number.proofs.Common.{arith, sym}
use Rattle.gj_number.proofs.Shorts.CutNumbers.{lowered_far}
use Rattle.gj_number.proofs.Value.NormalForm.{ten_above_zero}
use Rattle.gj_number.proofs.decimal.lowered.Goals as goal

pub returns-then-down-ge30-clause-magnitude : goal.returns-then-down-ge30-clause-magnitude
returns-then-down-ge30-clause-magnitude c = sym (lowered_far c.args.digits c.args.down c.requires c.if-down-ge30.true)

pub nonzero_div-cut : goal.nonzero_div-cut
nonzero_div-cut c = let p = ten_above_zero c.args.down in omega (arith, c.wide_ten_to-divisor.ensures)
