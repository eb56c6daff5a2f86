use Rattle.gj_number.proofs.Common.{arith}
use Rattle.gj_number.proofs.Shorts.SixteenLanes.{leading_none, leading_some, leading_le}
use Rattle.gj_number.proofs.lanes.leading_digits.Goals as goal

pub returns-then-others-eq0-clause-count : goal.returns-then-others-eq0-clause-count
returns-then-others-eq0-clause-count c = leading_none c.args.lanes _ c.fits-lanes.0 c.from_ten-others.ensures c.if-others-eq0.true

pub returns-else-others-eq0 : goal.returns-else-others-eq0
returns-else-others-eq0 c =
    let e = leading_some c.args.lanes _ c.fits-lanes.0 c.from_ten-others.ensures c.if-others-eq0.false in
    let l = leading_le c.args.lanes c.fits-lanes.0 in
    record { count = e; few = omega arith }
