use Rattle.gj_number.proofs.Literals.DigitBounds.{kept_far}
use Rattle.gj_number.proofs.digits.Digits.mark_far.Goals as goal

pub invariant_of-self-clause-bounded : goal.invariant_of-self-clause-bounded
invariant_of-self-clause-bounded c = kept_far c.args.self.now.all c.args.self.now.count c.args.self.now.bounded c.args.self.now.count_bounded
