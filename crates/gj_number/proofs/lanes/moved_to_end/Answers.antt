use Rattle.gj_number.proofs.Shorts.SixteenLanes.{places_ok, moved_is}
use Rattle.gj_number.proofs.lanes.moved_to_end.Goals as goal

pub swizzle : goal.swizzle
swizzle c = places_ok c.args.count c.requires

pub returns : goal.returns
returns c = moved_is c.args.lanes c.fits-lanes.0 c.args.count c.requires
