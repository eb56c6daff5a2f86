use Rattle.gj_number.proofs.Common.{arith, ◌*◌, ◌+◌, ◌-◌}
use Rattle.gj_number.proofs.Shorts.SixteenLanes.{pointed_ok, pointed_is}
use Rattle.gj_number.proofs.lanes.without_point.Goals as goal

pub swizzle : goal.swizzle
swizzle c = pointed_ok (256 * (c.args.natural - 1) + 16 * c.args.fraction) (omega arith)

pub returns : goal.returns
returns c = pointed_is c.args.lanes c.fits-lanes.0 c.args.natural c.args.fraction c.requires.some c.requires.few c.requires.within
