use Rattle.gj_number.proofs.Common.{arith, nat_tests, refl}
use Rattle.gj_number.proofs.Shorts.CutLanes.{all_zero, zero_of_all}
use Rattle.gj_number.proofs.short.cut_lanes.are_zero.Goals as goal

pub returns : goal.returns
returns c = (
  λ t. (all_zero 0 c.args.lanes (grind (arith, nat_tests))).1,
  λ h. rw (zero_of_all c.args.lanes h) refl,
)
