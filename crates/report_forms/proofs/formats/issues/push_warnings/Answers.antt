use Rattle.report_forms.proofs.Common.{arith, subst, ◌≡◌, ◌++◌, ℕ, length, take, flat_map, W1, kinds}
use Rattle.report_forms.specs.Forms.Issues.{issues_of_kind, issues_of_warnings}
use Rattle.report_forms.proofs.JoinedElements.{one-more}
use Rattle.report_forms.proofs.formats.issues.push_warnings.Goals as goal

pub loop-kind-preserved : goal.loop-kind-preserved
loop-kind-preserved c = record {
  done = one-more (issues_of_kind c.args.options.now.strictness c.args.warnings.now) kinds c.loop-kind.kind-index W1 _ _ _ c.loop-kind-test.true
      c.loop-kind.invariant.done c.in_ok-push_kind.ensures;
}

pub returns : goal.returns
unfolding issues_of_warnings
returns c =
    let part = issues_of_kind c.args.options.now.strictness c.args.warnings.now in
    let end : c.loop-kind.kind-index ≡ length kinds = omega (arith, c.loop-kind-test.false, c.loop-kind.auto.kind-index-end) in
    subst (λ (i : ℕ). c.loop-kind.issues.items ≡ c.args.issues.now.items ++ flat_map part (take i kinds)) end c.loop-kind.invariant.done
