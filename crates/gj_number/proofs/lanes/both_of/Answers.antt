use Rattle.gj_number.proofs.Shorts.SixteenLanes.{both_are}
use Rattle.gj_number.proofs.lanes.both_of.Goals as goal

pub returns : goal.returns
returns c = both_are c.args.twos c.fits-twos.0 c.requires
