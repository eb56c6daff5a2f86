use Rattle.part_lines.proofs.Common.{take, map, view, AreNotes}
use Rattle.part_lines.proofs.reading.read_each_note.Given as goal

-- those before this one
abbrev pub invariant-loop-one : goal.invariant-loop-one
invariant-loop-one l = AreNotes l.begin (take l.one-index (map view l.found)) l.notes.items
