use Rattle.std.proofs.Common.{refl}
use Rattle.part_lines.proofs.JoinedNotes.{no-notes}
use Rattle.part_lines.proofs.notes.SoFar.none.Goals as goal

pub returns-clause-notes : goal.returns-clause-notes
returns-clause-notes c = λ framing limits asked text.
    no-notes framing limits asked text _ refl refl c.new.ensures.items refl c.none.ensures.items c.none.ensures.notes c.none.ensures.total
