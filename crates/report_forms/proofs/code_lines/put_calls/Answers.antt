use Rattle.report_forms.proofs.Common.{arith, subst, ◌≡◌, ◌++◌, ℕ, length, take, flat_map}
use Rattle.geolint_report.specs.declared.texts.TheConstants.{ALL}
use Rattle.gj_coords.specs.declared.fault.Rule.TheVariants.{G1}
use Rattle.geolint_report.specs.declared.texts.Code.{Code}
use Rattle.geolint_report.proofs.CodeSlots.{slot-at}
use Rattle.report_forms.specs.CodeLines.{call_of, call_lines}
use Rattle.report_forms.proofs.JoinedElements.{one-more}
use Rattle.report_forms.proofs.code_lines.put_calls.Goals as goal

pub loop-code-preserved : goal.loop-code-preserved
loop-code-preserved c = record {
  done = λ of_files of_items are_files are_items.
      let i = c.loop-code.code-index in
      one-more (call_of of_files of_items) ALL i (Code.Rule G1) _ _ _ c.loop-code-test.true
      (c.loop-code.invariant.done of_files of_items are_files are_items)
      (c.in_ok-put_call.ensures (omega (arith, slot-at i (Code.Rule G1) c.loop-code-test.true, c.loop-code-test.true)) of_files of_items are_files are_items);
}

pub returns : goal.returns
unfolding call_lines
returns c = λ of_files of_items are_files are_items.
    let end : c.loop-code.code-index ≡ length ALL = omega (arith, c.loop-code-test.false, c.loop-code.auto.code-index-end) in
    subst (λ (i : ℕ). c.loop-code.line.items ≡ c.args.line.now.items ++ flat_map (call_of of_files of_items) (take i ALL)) end
    (c.loop-code.invariant.done of_files of_items are_files are_items)
