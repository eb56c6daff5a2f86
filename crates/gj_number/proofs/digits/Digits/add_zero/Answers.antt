use Rattle.gj_number.proofs.Common.{inr}
use Rattle.gj_number.proofs.Literals.OneDigitMore.{zero_natural, past_natural}
use Rattle.gj_number.proofs.digits.Digits.add_zero.Goals as goal

pub returns-then-self-lt-MOST_PLACES : goal.returns-then-self-lt-MOST_PLACES
returns-then-self-lt-MOST_PLACES c whole old =
    let d = c.args.self.now in zero_natural d.all d.count d.pending d.places whole c.requires old

pub returns-else-self-lt-MOST_PLACES : goal.returns-else-self-lt-MOST_PLACES
returns-else-self-lt-MOST_PLACES c whole old =
    let d = c.args.self.now in
    inr (inr (c.mark_far.ensures.far, past_natural d.all d.count d.pending d.places whole c.requires c.if-self-lt-MOST_PLACES.false old))
