use Rattle.gj_number.proofs.Shorts.SixteenLanes.{others_ok, others_is}
use Rattle.gj_number.proofs.lanes.without_lane.Goals as goal

pub swizzle : goal.swizzle
swizzle c = others_ok c.args.at c.requires

pub returns : goal.returns
returns c = others_is c.args.lanes c.fits-lanes.0 c.args.at c.requires
