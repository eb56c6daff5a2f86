use Rattle.part_lines.proofs.Common.{◌≡◌, take, flat_map}
use Rattle.part_lines.specs.LineText.{items_text, one_note}
use Rattle.part_lines.proofs.writing.put_notes.Given as goal

-- those before this one are there
abbrev pub invariant-loop-note : goal.invariant-loop-note
invariant-loop-note l = l.items.items ≡ items_text (flat_map (one_note l.begin) (take l.note-index l.notes))
