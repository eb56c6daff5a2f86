use Rattle.std.proofs.Common.{arith, ◌∙◌, length-set}
use Rattle.geolint_report.proofs.TalliedNotes.{sums-more}
use Rattle.geolint_report.proofs.every.tally.sums.Goals as goal

pub loop-slot-preserved : goal.loop-slot-preserved
loop-slot-preserved c =
    let long = c.loop-slot.invariant.long in
    record {
      long = length-set c.loop-slot.sums c.loop-slot.slot c.saturating_add.result ∙ long;
      done = sums-more c.args.one.now c.args.other.now c.loop-slot.sums c.loop-slot.slot c.saturating_add.result
          (omega (arith, c.loop-slot-test.true, long)) c.loop-slot.invariant.done c.saturating_add.ensures;
    }
