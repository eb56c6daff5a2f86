use Rattle.gj_number.proofs.Shorts.CutLanes.{rests_off, rests_masked}
use Rattle.gj_number.proofs.short.cut_lanes.has_no_rest.Goals as goal

pub returns : goal.returns
returns c = (
  λ t. rests_off c.args.digits c.fits-digits.0 c.fits-digits.1 (c.are_zero.ensures.0 t),
  λ z. c.are_zero.ensures.1 (rests_masked c.args.digits c.fits-digits.0 z),
)
