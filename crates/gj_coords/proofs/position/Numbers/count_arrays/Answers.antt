-- One array more, and the end of the count.
use Rattle.gj_coords.proofs.Common.{IsCounted, ap, arith, arrays_counted, subst, sym, ◌∙◌}
use Rattle.std.proofs.Common.{◌<◌, ◌-◌}
use Rattle.gj_coords.proofs.Walks.SteadyLaws.{counted_still, counted_one, counted_enough}
use Rattle.gj_coords.proofs.position.Numbers.count_arrays.Goals as goal

pub loop-self-preserved : goal.loop-self-preserved
loop-self-preserved c = λ counted.
    let i = c.loop-self.invariant counted in
    let new = c.count_one.ensures in
    let some : 0 < c.loop-self.left = omega (arith, c.if-left-gt0.true) in (
      subst IsCounted (sym new) (counted_still c.loop-self.self i.0),
      ap (arrays_counted (c.loop-self.left - 1)) new ∙ counted_one c.loop-self.left c.loop-self.self some ∙ i.1,
    )

pub returns-after-loop-self : goal.returns-after-loop-self
returns-after-loop-self c = λ counted.
    let i = c.loop-self.invariant counted in
    counted_enough c.loop-self.left c.loop-self.self i.0 (sym c.is_open.ensures ∙ c.loop-self-test.false) ∙ i.1
