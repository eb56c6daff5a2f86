use Rattle.file_parts.proofs.Common.{List, ℕ, subst, Option, IfSome, CheckedPart}
use Rattle.file_parts.specs.Checked.{AreNotesOfPart}
use Rattle.file_parts.proofs.NotesOfParts.{notes-of-part}
use Rattle.file_parts.proofs.PartBounds.{known_part}
use Rattle.file_parts.proofs.checked.check_part.Goals as goal

pub returns-in-Ok-found-clause-part : goal.returns-in-Ok-found-clause-part
returns-in-Ok-found-clause-part g c =
    let bounds = c.in-Ok.bounds in
    known_part (g.S.Source.text c.args.source) (g.S.Source.text c.find_bounds.new.source) c.args.framing c.args.limits c.args.share.number c.args.share.parts
    c.args.size (record { begin = bounds.begin; end = bounds.end; verdict = c.in-Ok-found.verdict }) c.in-Ok.ensures.text bounds.ordered
    c.in-Ok.ensures.bytes (rw c.in-Ok-found.is at c.check_bytes-found.ensures.verdict)

pub returns-in-Ok-found-clause-notes : goal.returns-in-Ok-found-clause-notes
returns-in-Ok-found-clause-notes g c =
    let bounds = c.in-Ok.bounds in
    let found = c.in-Ok-found in
    let part : CheckedPart = record { begin = bounds.begin; end = bounds.end; verdict = found.verdict } in
    subst (λ (o : Option (List ℕ)). IfSome o (λ text. AreNotesOfPart c.args.framing c.args.limits c.args.asked text part found.notes)) c.in-Ok.ensures.text
    (notes-of-part (g.S.Source.text c.find_bounds.new.source) c.args.framing c.args.limits c.args.asked part found.notes
    (rw found.is at c.check_bytes-found.ensures.notes) (rw found.is at c.check_bytes-found.ensures.none))
