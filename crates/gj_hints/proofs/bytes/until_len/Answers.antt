use Rattle.std.proofs.Common.{rules, arith, sym}
use Rattle.std.proofs.lemmas.List.Sums.{prefix_len_is}
use Rattle.gj_hints.specs.Bytes.{is_before}
use Rattle.gj_hints.proofs.bytes.until_len.Goals as goal

pub returns-then-not-is_before : goal.returns-then-not-is_before
returns-then-not-is_before c = record {
  value = sym (prefix_len_is (is_before c.args.set.now) c.args.bytes.now c.loop-i.i 0 (omega (arith, c.loop-i-test.true)) c.loop-i.invariant
      (λ _. search rules));
  within = omega (arith, c.loop-i-test.true);
}

pub returns : goal.returns
returns c = record {
  value = sym (prefix_len_is (is_before c.args.set.now) c.args.bytes.now _ 0 (omega arith)
      (λ k below. c.loop-i.invariant k (omega (arith, below, c.loop-i-test.false))) (λ less. absurd (omega (arith, less))));
  within = omega arith;
}
