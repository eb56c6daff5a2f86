use Rattle.std.proofs.Common.{arith, [], ◌∙◌}
use Rattle.gj_coords.specs.declared.fault.Rule.TheVariants.{G1}
use Rattle.geolint_report.specs.declared.texts.Code.{Code}
use Rattle.geolint_report.specs.declared.texts.TheConstants.{ALL}
use Rattle.part_lines.specs.LineText.{code_items, count_items}
use Rattle.part_lines.proofs.WrittenItems.{array-put, wrote-all, wrote-next}
use Rattle.part_lines.proofs.writing.put_counts.Goals as goal

pub loop-code-preserved : goal.loop-code-preserved
loop-code-preserved c =
    wrote-next (code_items c.args.tally.now) ALL c.loop-code.code-index (Code.Rule G1) [] c.loop-code.items.items c.put_count.new.items.items
    c.loop-code-test.true c.loop-code.invariant c.in_ok-put_count.ensures

pub returns : goal.returns
unfolding count_items
returns c =
    array-put c.put_array.result c.args.out.now.items c.as_slice.result.now c.put_array.new.out.items (count_items c.args.tally.now)
    (c.as_slice.ensures.value
    ∙ wrote-all (code_items c.args.tally.now) ALL c.loop-code.code-index [] c.loop-code.items.items (omega (arith, c.loop-code-test.false)) c.loop-code.invariant)
    c.put_array.ensures
