use Rattle.std.proofs.Common.{rules, arith, sym}
use Rattle.std.proofs.lemmas.List.Sums.{prefix_len_is}
use Rattle.gj_hints.specs.Numbers.{is_in_mantissa}
use Rattle.gj_hints.proofs.number.mantissa_len.Goals as goal

pub returns-then-not-is_in_mantissa : goal.returns-then-not-is_in_mantissa
returns-then-not-is_in_mantissa c = sym (prefix_len_is is_in_mantissa c.args.bytes.now c.loop-i.i 0 (omega (arith, c.loop-i-test.true))
    c.loop-i.invariant (λ _. search rules))

pub returns : goal.returns
returns c =
    sym (prefix_len_is is_in_mantissa c.args.bytes.now _ 0 (omega arith) (λ k below. c.loop-i.invariant k (omega (arith, below, c.loop-i-test.false)))
    (λ less. absurd (omega (arith, less))))
