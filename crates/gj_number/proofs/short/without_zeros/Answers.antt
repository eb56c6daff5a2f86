use Rattle.gj_number.proofs.Literals.RunsOfDigits.{zero_off}
use Rattle.gj_number.proofs.short.without_zeros.Goals as goal

pub loop-digits-preserved : goal.loop-digits-preserved
loop-digits-preserved c =
    let i = c.loop-digits.invariant in
    let less = zero_off c.args.all c.loop-digits.digits c.loop-digits.zeros 18 i.some c.loop-digits-test.true i.all i.bounded in
    record { some = less.0; all = less.1; few = less.2; bounded = less.3 }
