use Rattle.gj_number.proofs.Common.{arith, subst, sym, ℕ, ◌%◌, ◌*◌, ◌+◌, ◌<◌, ◌^◌, ◌≢◌}
use Rattle.gj_number.proofs.Literals.DigitBounds.{scaled_below}
use Rattle.gj_number.proofs.Shorts.LongNumbers.{zeros_few, both_are, both_normal, both_below}
use Rattle.gj_number.proofs.prefix.joined_digits.Goals as goal

pub without_zeros-last-requires-clause-small : goal.without_zeros-last-requires-clause-small
without_zeros-last-requires-clause-small c =
    let f = c.requires.few in let s = scaled_below c.args.lower c.args.more 0 18 c.requires.lower (omega arith) in omega arith

pub overflow_sub-count : goal.overflow_sub-count
overflow_sub-count c =
    let r = c.requires in
    let w = c.without_zeros-last in
    let z = zeros_few c.args.upper c.args.lower c.args.more w.result.0 w.result.1 r.few r.upper r.lower w.ensures.all w.ensures.last in
    omega arith

pub returns-clause-all : goal.returns-clause-all
returns-clause-all c =
    let r = c.requires in
    let w = c.without_zeros-last in
    rw (c.ten_to.ensures) (both_are c.args.upper c.args.lower c.args.more w.result.0 w.result.1 r.few r.upper r.lower w.ensures.all w.ensures.last)

pub returns-clause-last : goal.returns-clause-last
returns-clause-last c =
    let r = c.requires in
    let w = c.without_zeros-last in
    let P : ℕ → Type 0 = λ t. (c.args.upper * t + w.result.0) % 10 ≢ 0 in
    subst P (sym c.ten_to.ensures) (both_normal c.args.upper c.args.lower c.args.more w.result.0 w.result.1 r.few r.upper r.lower w.ensures.all w.ensures.last)

pub returns-clause-below : goal.returns-clause-below
returns-clause-below c =
    let r = c.requires in
    let w = c.without_zeros-last in
    let P : ℕ → Type 0 = λ t. c.args.upper * t + w.result.0 < 10 ^ 30 in
    subst P (sym c.ten_to.ensures) (both_below c.args.upper c.args.lower c.args.more w.result.0 w.result.1 r.few r.upper r.lower w.ensures.all w.ensures.last)

pub returns-clause-zeros : goal.returns-clause-zeros
returns-clause-zeros c =
    let r = c.requires in
    let w = c.without_zeros-last in
    zeros_few c.args.upper c.args.lower c.args.more w.result.0 w.result.1 r.few r.upper r.lower w.ensures.all w.ensures.last
