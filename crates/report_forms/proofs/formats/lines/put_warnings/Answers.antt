use Rattle.report_forms.proofs.Common.{arith, subst, ◌≡◌, ◌++◌, ℕ, length, take, flat_map, W1}
use Rattle.report_forms.specs.Forms.Lines.{lines_kind, lines_warnings, shown_kinds}
use Rattle.report_forms.proofs.JoinedElements.{one-more}
use Rattle.report_forms.proofs.formats.lines.put_warnings.Goals as goal

pub loop-kind-preserved : goal.loop-kind-preserved
loop-kind-preserved c = record {
  done = one-more (lines_kind c.args.style c.args.report.now c.args.warnings.now) shown_kinds c.loop-kind.kind-index W1 _ _ _ c.loop-kind-test.true
      c.loop-kind.invariant.done
      c.in_ok-put_kind.ensures;
}

pub returns : goal.returns
unfolding lines_warnings
returns c =
    let line = lines_kind c.args.style c.args.report.now c.args.warnings.now in
    let end : c.loop-kind.kind-index ≡ length shown_kinds = omega (arith, c.loop-kind-test.false, c.loop-kind.auto.kind-index-end) in
    subst (λ (i : ℕ). c.loop-kind.line.items ≡ c.args.line.now.items ++ flat_map line (take i shown_kinds)) end c.loop-kind.invariant.done
