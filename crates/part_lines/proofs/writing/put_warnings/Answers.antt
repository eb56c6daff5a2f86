use Rattle.part_lines.proofs.Common.{◌∙◌, [], arith, kinds, W1}
use Rattle.part_lines.specs.LineText.{kind_items, warning_items}
use Rattle.part_lines.proofs.WrittenItems.{wrote-next, wrote-all, array-put}
use Rattle.part_lines.proofs.writing.put_warnings.Goals as goal

pub loop-kind-preserved : goal.loop-kind-preserved
loop-kind-preserved c =
    wrote-next (kind_items c.args.begin c.args.warnings.now) kinds c.loop-kind.kind-index W1 [] c.loop-kind.items.items c.put_kind.new.items.items
    c.loop-kind-test.true c.loop-kind.invariant c.in_ok-put_kind.ensures

pub returns : goal.returns
unfolding warning_items
returns c =
    array-put c.put_array.result c.args.out.now.items c.as_slice.result.now c.put_array.new.out.items (warning_items c.args.begin c.args.warnings.now)
    (c.as_slice.ensures.value ∙ wrote-all (kind_items c.args.begin c.args.warnings.now) kinds c.loop-kind.kind-index [] c.loop-kind.items.items
    (omega (arith, c.loop-kind-test.false)) c.loop-kind.invariant)
    c.put_array.ensures
