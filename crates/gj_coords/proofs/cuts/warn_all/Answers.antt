-- One position more.
use Rattle.gj_coords.proofs.Common.{IsCutPosition, arith, subst, sym}
use Rattle.std.proofs.Common.{◌<◌, length}
use Rattle.gj_coords.proofs.Walks.CutPositions.{counts_more}
use Rattle.gj_coords.proofs.cuts.warn_all.Goals as goal

pub loop-at-preserved : goal.loop-at-preserved
loop-at-preserved c =
    let i = c.loop-at.invariant in
    let w = c.args.warned.now in
    let ps = c.args.positions.now in
    let element = c.index-positions-at in
    let one = c.counts.ensures in
    let less : c.loop-at.at < length ps = omega (arith, c.loop-at-test.true, c.at_once-most.ensures.few) in
    record {
      within = omega (arith, c.loop-at-test.true);
      least = one.least;
      few = omega (arith, one.few, i.few);
      noted = counts_more w ps element.result c.loop-at.at c.loop-at.precise c.counts.new.precise less
          (λ flat is. one.counted c.if-counts.true flat (subst (λ p. IsCutPosition p flat) (sym element.is) is)) i.noted;
    }
