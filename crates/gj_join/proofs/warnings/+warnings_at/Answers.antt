use Rattle.std.proofs.Common.{arith, ◌/◌, ◌++◌, replicate}
use Rattle.gj_coords.specs.Warnings.{warning_at}
use Rattle.gj_join.proofs.DoubledWarnings.{even_many, odd_many}
use Rattle.gj_join.proofs.warnings.+warnings_at.Goals as goal

pub returns-then-count-eq1 : goal.returns-then-count-eq1
returns-then-count-eq1 t c =
    let warning = warning_at c.args.place c.args.kind in
    let half = c.args.count / 2 in
    let both = c.join-even.ensures.stands (replicate half warning) (replicate half warning) c.warnings_at-half.ensures c.warnings_at-half.ensures in
    odd_many c.add.result warning half c.args.count (omega (arith, c.if-count-eq1.true))
    (c.add.ensures.stands (replicate half warning ++ replicate half warning) both)

pub returns-else-count-eq1 : goal.returns-else-count-eq1
returns-else-count-eq1 t c =
    let warning = warning_at c.args.place c.args.kind in
    let half = c.args.count / 2 in
    let both = c.join-even.ensures.stands (replicate half warning) (replicate half warning) c.warnings_at-half.ensures c.warnings_at-half.ensures in
    even_many c.join-even.result warning half c.args.count (omega (arith, c.if-count-eq1.false)) both
