use Rattle.part_lines.proofs.Common.{◌∙◌, [], arith, kinds, W1}
use Rattle.part_lines.specs.LineText.{chosen_kind, chosen_kinds}
use Rattle.part_lines.proofs.WrittenItems.{wrote-next, wrote-all, array-put}
use Rattle.part_lines.proofs.writing.put_kinds.Goals as goal

pub loop-kind-preserved : goal.loop-kind-preserved
loop-kind-preserved c =
    wrote-next (chosen_kind c.args.chosen.now) kinds c.loop-kind.kind-index W1 [] c.loop-kind.items.items c.put_chosen_kind.new.items.items
    c.loop-kind-test.true c.loop-kind.invariant c.in_ok-put_chosen_kind.ensures

pub returns : goal.returns
unfolding chosen_kinds
returns c =
    array-put c.put_array.result c.args.out.now.items c.as_slice.result.now c.put_array.new.out.items (chosen_kinds c.args.chosen.now)
    (c.as_slice.ensures.value ∙ wrote-all (chosen_kind c.args.chosen.now) kinds c.loop-kind.kind-index [] c.loop-kind.items.items
    (omega (arith, c.loop-kind-test.false)) c.loop-kind.invariant)
    c.put_array.ensures
