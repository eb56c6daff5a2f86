use Rattle.gj_number.proofs.Shorts.CutLanes.{parts_small, parts_are}
use Rattle.gj_number.proofs.short.cut_lanes.parts_of.Goals as goal

pub dot4 : goal.dot4
dot4 c = (parts_small c.args.digits c.fits-digits.0 c.requires, tt)

pub returns : goal.returns
returns c = parts_are c.args.digits c.fits-digits.0
