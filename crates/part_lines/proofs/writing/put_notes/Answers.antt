use Rattle.part_lines.proofs.Common.{◌∙◌, [], arith}
use Rattle.part_lines.specs.LineText.{one_note, note_items}
use Rattle.part_lines.proofs.WrittenItems.{wrote-next, wrote-all, array-put}
use Rattle.part_lines.proofs.writing.put_notes.Goals as goal

pub loop-note-preserved : goal.loop-note-preserved
loop-note-preserved c =
    wrote-next (one_note c.args.begin) c.args.notes.now c.loop-note.note-index _ [] c.loop-note.items.items c.put_next_note.new.items.items
    c.loop-note-test.true c.loop-note.invariant c.in_ok-put_next_note.ensures

pub returns : goal.returns
unfolding note_items
returns c =
    array-put c.put_array.result c.args.out.now.items c.as_slice.result.now c.put_array.new.out.items (note_items c.args.begin c.args.notes.now)
    (c.as_slice.ensures.value ∙ wrote-all (one_note c.args.begin) c.args.notes.now c.loop-note.note-index [] c.loop-note.items.items
    (omega (arith, c.loop-note-test.false)) c.loop-note.invariant)
    c.put_array.ensures
