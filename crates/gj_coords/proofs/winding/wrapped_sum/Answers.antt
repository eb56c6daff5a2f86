use Rattle.gj_coords.proofs.Common.{FitsSigned, arith, ints}
use Rattle.std.specs.Int.{w128}
use Rattle.std.proofs.Common.{◌≡◌}
use Rattle.std.proofs.lemmas.Int.{wrapping_add_is}
use Rattle.gj_coords.proofs.winding.wrapped_sum.Goals as goal

pub returns : goal.returns
returns c =
    let term : FitsSigned w128 c.args.term = omega (arith, ints, c.ranges.term) in
    let same : c.from.result ≡ c.args.term = omega (arith, ints, c.from.ensures, c.ranges.term) in
    rw same (wrapping_add_is w128 c.args.area c.args.term c.ranges.area term)
