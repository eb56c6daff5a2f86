use Rattle.gj_coords.proofs.Common.{arith, kept}
use Rattle.std.proofs.Common.{◌+◌, ◌≤◌, ◌^◌}
use Rattle.gj_coords.proofs.Lists.ShiftedWarnings.{within_reach}
use Rattle.gj_coords.proofs.warnings.Warnings.kept_shifted.Goals as goal

pub overflow_add-result : goal.overflow_add-result
overflow_add-result c =
    let reach : c.kept-noted.result.first + c.args.by ≤ 2 ^ 61 =
    within_reach (kept c.args.self.now c.args.kind) c.kept-noted.result c.args.by c.kept-noted.ensures c.requires c.if-noted-gt0.true in
    omega (arith, reach)
