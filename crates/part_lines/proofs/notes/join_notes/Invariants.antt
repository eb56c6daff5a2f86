use Rattle.part_lines.proofs.Common.{◌≡◌, ◌≤◌, ℕ, List, All, Framing}
use Rattle.std.proofs.Common.{vec_len}
use Rattle.gj_json.specs.Limits.{Allowed}
use Rattle.part_lines.specs.Internal.NotesSoFar.{AreNotesTo}
use Rattle.part_lines.specs.Lines.{IsListedLineOf}
use Rattle.part_lines.proofs.notes.join_notes.Given as goal

abbrev pub invariant-loop-place : goal.invariant-loop-place
invariant-loop-place l = record {
  room : vec_len l.all.notes.notes ≤ l.asked.room;
  notes : (framing : Framing) (limits : Allowed) (text : List ℕ) → l.asked.skipped ≡ 0 → All (IsListedLineOf framing limits text) l.lines
      → AreNotesTo framing limits l.asked text l.all;
}
