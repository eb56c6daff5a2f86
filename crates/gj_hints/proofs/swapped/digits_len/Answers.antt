use Rattle.std.proofs.Common.{rules, arith, sym}
use Rattle.std.proofs.lemmas.List.Sums.{prefix_len_is}
use Rattle.std.specs.Char.{is_ascii_digit}
use Rattle.gj_hints.proofs.swapped.digits_len.Goals as goal

pub returns-then-not-is_ascii_digit : goal.returns-then-not-is_ascii_digit
returns-then-not-is_ascii_digit c = record {
  value = sym (prefix_len_is is_ascii_digit c.args.bytes.now c.loop-i.i 0 (omega (arith, c.loop-i-test.true)) c.loop-i.invariant (λ _. search rules));
  within = omega (arith, c.loop-i-test.true);
}

pub returns : goal.returns
returns c = record {
  value = sym (prefix_len_is is_ascii_digit c.args.bytes.now _ 0 (omega arith)
      (λ k below. c.loop-i.invariant k (omega (arith, below, c.loop-i-test.false))) (λ less. absurd (omega (arith, less))));
  within = omega arith;
}
