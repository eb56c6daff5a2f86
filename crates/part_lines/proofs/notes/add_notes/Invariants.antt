use Rattle.std.proofs.Common.{◌≡◌, ◌++◌, map, take}
use Rattle.file_parts.specs.JoinedNotes.{moved_note}
use Rattle.part_lines.proofs.notes.add_notes.Given as goal

abbrev pub invariant-loop-note : goal.invariant-loop-note
invariant-loop-note l = l.all.items ≡ l.fn.all.items ++ map (moved_note l.records l.begin) (take l.note-index l.fitting)
