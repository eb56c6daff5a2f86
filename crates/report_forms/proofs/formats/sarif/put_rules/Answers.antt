use Rattle.report_forms.proofs.Common.{arith, subst, ◌≡◌, ◌++◌, ℕ, length, take, flat_map}
use Rattle.geolint_report.specs.declared.texts.TheConstants.{ALL}
use Rattle.gj_coords.specs.declared.fault.Rule.TheVariants.{G1}
use Rattle.geolint_report.specs.declared.texts.Code.{Code}
use Rattle.report_forms.specs.Forms.Sarif.{rule_and_break, sarif_rules}
use Rattle.report_forms.proofs.JoinedElements.{one-more}
use Rattle.report_forms.proofs.formats.sarif.put_rules.Goals as goal

pub loop-code-preserved : goal.loop-code-preserved
loop-code-preserved c = record {
  done = one-more rule_and_break ALL c.loop-code.code-index (Code.Rule G1) _ _ _ c.loop-code-test.true c.loop-code.invariant.done
      c.in_ok-put_rule_and_break.ensures;
}

pub returns : goal.returns
unfolding sarif_rules
returns c =
    let end : c.loop-code.code-index ≡ length ALL = omega (arith, c.loop-code-test.false, c.loop-code.auto.code-index-end) in
    subst (λ (i : ℕ). c.loop-code.line.items ≡ c.args.line.now.items ++ flat_map rule_and_break (take i ALL)) end c.loop-code.invariant.done
