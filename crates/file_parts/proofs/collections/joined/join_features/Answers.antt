use mir.Val.{bool_byte}
use Rattle.std.proofs.Common.{arith, ◌≡◌, ◌≤◌, ◌∙◌, ◌+◌, ap, sym, subst, refl, List, ℕ, Option, Bool, true, false}
use Rattle.std.specs.Prelude.{IfSome}
use Rattle.std.specs.List.{All}
use Rattle.gj_rules.specs.Verdict.{IsVerdict}
use Rattle.gj_rules.specs.declared.verdict.Verdict.{Verdict}
use Rattle.file_parts.specs.Sums.{IsTruePart}
use Rattle.file_parts.proofs.PlacesInTexts.{AtIn, at_run, in_start, in_part, in_refusal, in_whole}
use Rattle.file_parts.proofs.collections.joined.join_features.Goals.{in-Some+in_ok-feed_to+in-Open, in_default, in-Open-2, in-Refused-2}
use Rattle.file_parts.proofs.collections.joined.join_features.Goals as goal

one_at_most : (is : Bool) (n : ℕ) → n ≡ bool_byte is → n ≤ 1
one_at_most true n e = omega (arith, e)
one_at_most false n e = omega (arith, e)

pub loop-part-init : goal.loop-part-init
loop-part-init g c = record {
  text = refl;
  unfailed = refl;
  few = omega arith;
  at = in_start (g.S.Source.text c.args.source.now) c.args.limits c.args.parts.now c.new-joiner.result c.new-joiner.ensures.limits
      c.new-joiner.ensures.refusal c.new-joiner.ensures.joins;
}

pub returns-in-Refused-clause-verdict : goal.returns-in-Refused-clause-verdict
returns-in-Refused-clause-verdict g c =
    in_refusal (g.S.Source.text c.loop-part.source) c.args.limits c.args.parts.now c.loop-part.joiner c.feed_to.new.joiner
    (g.S.Source.text c.args.source.now) c.in-Some.sum.begin c.in-Refused.fault c.loop-part.invariant.text c.loop-part.invariant.at
    (rw c.in-Refused.is at c.in_ok-feed_to.ensures.fed)

pub loop-part-preserved : goal.loop-part-preserved
loop-part-preserved g c =
    let known = g.S.Source.text c.args.source.now in
    let limits = c.args.limits in
    let parts = c.args.parts.now in
    elim c.match-sum_of.branch [
      | in-Some+in_ok-feed_to+in-Open w ↦ record {
        few = omega (arith, w.passed-is, c.loop-part.invariant.few, one_at_most w.pass_over.result w.from-passed.result w.from-passed.ensures);
        text = ap g.S.Source.text w.source-is ∙ (w.in_ok-feed_to.ensures.text ∙ c.loop-part.invariant.text);
        unfailed = ap g.S.Source.failed_reads w.source-is ∙ (w.in_ok-feed_to.ensures.failed ∙ c.loop-part.invariant.unfailed);
        at = subst (AtIn known limits parts) (sym w.joiner-is)
            (in_part (g.S.Source.text c.loop-part.source) limits parts c.loop-part.joiner w.feed_to.new.joiner known w.pass_over.new.self
            c.loop-part.part-index _ w.in-Some.sum c.loop-part.invariant.text c.loop-part.invariant.at c.loop-part-test.true
            (sym c.sum_of.ensures ∙ w.in-Some.is) (rw w.in-Open.is at w.in_ok-feed_to.ensures.fed)
            (λ text n at is some. at_run limits text w.feed_to.new.joiner w.pass_over.new.self n w.in-Some.sum w.pass_over.result at is some
            w.pass_over.ensures.joins w.pass_over.ensures.only w.pass_over.ensures.same w.pass_over.ensures.limits w.pass_over.ensures.refusal));
      }
      | in_default w ↦ record {
        few = omega (arith, w.passed-is, c.loop-part.invariant.few);
        text = ap g.S.Source.text w.source-is ∙ c.loop-part.invariant.text;
        unfailed = ap g.S.Source.failed_reads w.source-is ∙ c.loop-part.invariant.unfailed;
        at = subst (AtIn known limits parts) (sym w.joiner-is) c.loop-part.invariant.at;
      }
    ]

pub returns-clause-verdict : goal.returns-clause-verdict
returns-clause-verdict g c =
    let known : Option (List ℕ) = g.S.Source.text c.args.source.now in
    let now = g.S.Source.text c.loop-part.source in
    let limits = c.args.limits in
    let parts = c.args.parts.now in
    let before = c.loop-part.invariant in
    elim c.match-branch-4.branch [
      | in-Open-2 w ↦ subst (λ (v : Verdict). IfSome known (λ text. All (IsTruePart limits text) parts → IsVerdict limits text v)) (sym w.verdict-is)
          (in_whole now limits parts c.loop-part.joiner c.feed_to-2.new.joiner known w.end-verdict.result before.text before.at
          (rw (w.in-Open-2.is, c.bytes.ensures.value) at c.in_ok-feed_to-2.ensures.fed) w.end-verdict.ensures)
      | in-Refused-2 w ↦ subst (λ (v : Verdict). IfSome known (λ text. All (IsTruePart limits text) parts → IsVerdict limits text v)) (sym w.verdict-is)
          (in_refusal now limits parts c.loop-part.joiner c.feed_to-2.new.joiner known (c.bytes.result + 1) w.in-Refused-2.fault before.text before.at
          (rw w.in-Refused-2.is at c.in_ok-feed_to-2.ensures.fed))
    ]
