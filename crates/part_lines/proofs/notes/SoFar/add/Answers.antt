use Rattle.part_lines.proofs.Common.{arith, ◌+◌, ◌∙◌, ◌++◌, List, refl, ap, map, take, Note}
use Rattle.file_parts.specs.JoinedNotes.{moved_note}
use Rattle.part_lines.specs.Internal.NotesSoFar.{records_noted}
use Rattle.part_lines.proofs.JoinedNotes.{next-notes}
use Rattle.part_lines.proofs.notes.SoFar.add.Goals as goal

pub returns-clause-notes : goal.returns-clause-notes
returns-clause-notes c = λ framing limits text none lists is_part of_part before.
    let old = c.args.self.now in
    let listed = c.args.listed.now in
    next-notes framing limits c.args.asked text old _ c.args.part.now listed none lists (omega (arith, c.if-part.false)) c.if-part-self.false refl
    (record {
      notes = λ few. c.in_ok-add_notes.ensures.notes few
          ∙ ap (λ (l : List Note). take c.args.asked.room (old.notes.notes.items ++ map (moved_note old.records old.end) l)) c.as_slice.ensures.value;
      count = c.saturating_add-self.ensures;
      tally = c.add.ensures;
      records = c.in_ok-self.ensures.0 ∙ ap (λ (l : List Note). old.records + records_noted listed.notes.tally.items l) c.as_slice-2.ensures.value;
      small = c.in_ok-self.ensures.1;
    }) is_part of_part before
