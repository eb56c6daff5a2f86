use Rattle.gj_number.proofs.Shorts.SixteenLanes.{twos_are}
use Rattle.gj_number.proofs.lanes.twos_of.Goals as goal

pub returns : goal.returns
returns c = twos_are 8 c.args.digits c.fits-digits.0 c.requires
