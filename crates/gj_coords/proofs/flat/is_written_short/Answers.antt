use Rattle.gj_coords.proofs.Common.{arith, nat_tests}
use Rattle.gj_coords.proofs.Walks.PreciseNumbers.{written_short}
use Rattle.std.proofs.Common.{◌≤◌}
use Rattle.gj_coords.proofs.flat.is_written_short.Goals as goal

pub returns-clause-short : goal.returns-clause-short
returns-clause-short c = λ h.
    let few : c.args.number.places ≤ 7 = grind (arith, nat_tests) in
    written_short c.args.number.negative c.args.number.digits c.args.number.places few
