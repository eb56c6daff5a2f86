use Rattle.gj_number.proofs.Literals.OneDigitMore.{keep_natural}
use Rattle.gj_number.proofs.digits.Digits.push_natural.Goals as goal

pub returns-then-digit-ne0 : goal.returns-then-digit-ne0
returns-then-digit-ne0 c whole old =
    let d = c.args.self.now in
    let n = c.keep.new.self in
    rw (c.keep.ensures.places)
    (keep_natural d.all d.count d.pending d.places whole c.args.digit
    n.all n.count n.pending c.if-digit-ne0.true c.requires c.keep.ensures.kept old)

pub returns-then-self-gt0 : goal.returns-then-self-gt0
returns-then-self-gt0 c whole old = rw (c.if-digit-ne0.false) (c.add_zero.ensures whole old)
