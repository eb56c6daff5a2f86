-- Vector by vector.
use Rattle.gj_number.proofs.Common.{arith}
use Rattle.gj_number.proofs.Literals.RunsOfZeros.{zeros_on}
use Rattle.gj_number.proofs.lanes.zero_run.Goals as goal

pub loop-at-preserved : goal.loop-at-preserved
loop-at-preserved c =
    let found = c.first_digits-count in
    let next = zeros_on c.args.piece.now c.loop-at.at _ _ found.ensures.spells (omega arith)
    (omega arith) c.loop-at.invariant.digits c.loop-at.invariant.zeros in record {
      within = omega arith;
      digits = next.0;
      zeros = next.1;
    }
