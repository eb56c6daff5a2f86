use Rattle.gj_number.proofs.Shorts.ShortDecimals.{digits_iff, signs_iff, zeros_iff}
use Rattle.gj_number.proofs.short.Short.same.Goals as goal

pub returns-then-self-other-2 : goal.returns-then-self-other-2
returns-then-self-other-2 c = let a = c.args.self in let b =
    c.args.other in digits_iff a.negative b.negative a.digits b.digits a.places b.places a.small b.small c.if-self-other.false c.if-self-other-2.true

pub returns-then-self-other-3 : goal.returns-then-self-other-3
returns-then-self-other-3 c = let a = c.args.self in let b = c.args.other in
    rw (c.if-self-other-3.true)
    (signs_iff a.negative b.negative a.digits b.digits a.places b.places a.small b.small c.if-self-other.false c.if-self-other-2.false c.if-self-other-3.true)

pub returns-else-self-other-3 : goal.returns-else-self-other-3
returns-else-self-other-3 c = let a = c.args.self in let b = c.args.other in
    zeros_iff a.negative b.negative a.digits b.digits a.places b.places a.small b.small c.if-self-other.false c.if-self-other-2.false c.if-self-other-3.false
