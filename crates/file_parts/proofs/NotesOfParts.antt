-- What is told of the records of a part.
use Rattle.file_parts.proofs.Common.{◌≡◌, ◌<◌, ℕ, List, Option, IfSome, Allowed, limits_after, Framing, bytes_between, CheckedPart}
use Rattle.std.proofs.Common.{Some, None}
use Rattle.geolint_report.specs.declared.every.listing.Asked.{Asked}
use Rattle.geolint_report.specs.declared.every.listing.Notes.{Notes}
use Rattle.file_parts.specs.Checked.{AreNotesIf, AreNoNotes, AreNotesOfPart}

-- those of its bytes, and none where it has none
pub notes-of-part : (known : Option (List ℕ)) (framing : Framing) (limits : Allowed) (asked : Option Asked) (part : CheckedPart) (told : Option Notes)
    → IfSome known (λ text. part.begin < part.end
    → AreNotesIf framing (limits_after limits part.begin) asked (bytes_between part.begin part.end text) told)
    → (part.begin ≡ part.end → AreNoNotes asked told) → IfSome known (λ text. AreNotesOfPart framing limits asked text part told)
notes-of-part None framing limits asked part told some empty = tt
notes-of-part (Some text) framing limits asked part told some empty = record { some = some; empty = empty }
