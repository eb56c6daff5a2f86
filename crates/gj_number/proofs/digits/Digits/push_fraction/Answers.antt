use Rattle.gj_number.proofs.Common.{arith, inr, ◌+◌}
use Rattle.gj_number.proofs.Literals.OneDigitMore.{keep_fraction, zero_fraction, past_fraction}
use Rattle.gj_number.proofs.digits.Digits.push_fraction.Goals as goal

pub returns-then-digit-ne0 : goal.returns-then-digit-ne0
returns-then-digit-ne0 c whole fraction old =
    let d = c.args.self.now in
    let n = c.keep.new.self in
    rw (c.keep.ensures.places)
    (keep_fraction d.all d.count d.pending d.places whole fraction c.args.digit
    n.all n.count n.pending c.if-digit-ne0.true c.requires c.if-self-lt-MOST_PLACES.true c.keep.ensures.kept old)

pub returns-then-self-ne0 : goal.returns-then-self-ne0
returns-then-self-ne0 c whole fraction old =
    let d = c.args.self.now in
    rw (c.if-digit-ne0.false) (zero_fraction d.all d.count d.pending d.places whole fraction (d.pending + 1) (d.places + 1) old
    (λ none. absurd (c.if-self-ne0.true none)) (λ some. omega arith) (λ room. omega arith) (λ full. omega arith))

pub returns-then-digit-ne0-2 : goal.returns-then-digit-ne0-2
returns-then-digit-ne0-2 c whole fraction old =
    let d = c.args.self.now in
    inr (inr (
      c.mark_far.ensures.far,
      past_fraction
          d.all d.count d.pending d.places whole fraction c.args.digit c.if-digit-ne0-2.true c.requires c.if-self-lt-MOST_PLACES.false old,
    ))

pub returns-else-digit-ne0-2 : goal.returns-else-digit-ne0-2
returns-else-digit-ne0-2 c whole fraction old =
    let d = c.args.self.now in
    rw (c.if-digit-ne0-2.false) (zero_fraction d.all d.count d.pending d.places whole fraction d.pending d.places old
    (λ none. omega arith) (λ some. omega arith) (λ room. omega arith) (λ full. omega arith))
