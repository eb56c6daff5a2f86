-- The one place and the shift fit 33 bits.
use Rattle.std.proofs.Common.{◌≡◌, ℕ, arith}
use Rattle.gj_coords.proofs.Lists.ShiftedWarnings.{one_first}
use Rattle.layer_tests.proofs.coords.warnings.one_shifted.Goals as goal

pub shifted-requires : goal.shifted-requires
shifted-requires c = λ kind found e.
    let same : found ≡ c.args.place = one_first c.at.result c.args.kind kind c.args.place found c.at.ensures e in
    omega (arith, same, c.ranges.place, c.ranges.by)
