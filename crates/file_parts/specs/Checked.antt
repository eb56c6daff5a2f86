-- What was found of the bytes of one part.
use Rattle.std.specs.Prelude.{◌≡◌, ◌⊎◌, ℕ, suc, ◌+◌, ◌≤◌, ◌<◌, List, [], length, get_or, Option, Some, None, IfSome, IsSome}
use Rattle.std.specs.Io.Iter.{u64_saturate}
use Rattle.std.specs.IoError.{error_kind}
use Rattle.std.below.std_io.specs.declared.io.error.Error.{Error}
use Rattle.std.below.std_io.specs.declared.io.kind.ErrorKind.TheVariants.{OutOfMemory, UnexpectedEof}
use Rattle.gj_json.specs.Limits.{Allowed}
use Rattle.gj_join.specs.Joined.{IsVerdictOf, NumbersFit}
use Rattle.gj_join.specs.Parts.{limits_after}
use Rattle.gj_rules.specs.declared.records.framing.Framing.{Framing}
use Rattle.gj_rules.specs.declared.records.framing.Framing.TheVariants.{Sequence, Lines}
use Rattle.gj_rules.specs.declared.sequence.verdict.SeqVerdict.{SeqVerdict}
use Rattle.geolint_report.specs.Every.{AreNotesIn}
use Rattle.geolint_report.specs.Tallies.{Tallies}
use Rattle.geolint_report.specs.declared.every.listing.Asked.{Asked}
use Rattle.geolint_report.specs.declared.every.listing.Notes.{Notes}
use Rattle.geolint_report.specs.declared.judge.Reading.{Reading}
use Rattle.file_parts.specs.Cuts.{MayBeCut, bytes_between}
use Rattle.file_parts.specs.Ranges.{ArePart}
use Rattle.file_parts.specs.declared.checked.CheckedPart.{CheckedPart}

-- a part that has bytes begins with the text or at a cut, and the verdict is that of its bytes under what the limit leaves to them
pub record IsVerdictOfBytes (framing : Framing) (limits : Allowed) (text : List ℕ) (part : CheckedPart) : Type 0 where
  pub within : part.end ≤ length text
  pub cut : (part.begin ≡ 0) ⊎ MayBeCut framing limits text part.begin
  pub verdict : IsVerdictOf framing (limits_after limits part.begin) (bytes_between part.begin part.end text) part.verdict

-- a true part of the text
pub record IsPartOf (framing : Framing) (limits : Allowed) (text : List ℕ) (part : CheckedPart) : Type 0 where
  pub ordered : part.begin ≤ part.end
  pub right : part.begin < part.end → IsVerdictOfBytes framing limits text part

-- the bytes of all parts of the text, in their order
abbrev pub AreAllParts : Framing → Allowed → List ℕ → List CheckedPart → Type 0
AreAllParts framing limits text parts = (k : ℕ) (none : CheckedPart) → k < length parts
    → ArePart framing limits text (suc k) (length parts) (get_or parts k none).begin (get_or parts k none).end

-- how many records a verdict counts, or the number of the one that is not valid
abbrev pub records_in : SeqVerdict → ℕ
records_in (SeqVerdict.Valid records warnings) = records
records_in (SeqVerdict.Record number verdict) = number

-- no more records than these, and no place of a joined verdict that is too great
pub record HasAtMost (most : ℕ) (part : CheckedPart) : Type 0 where
  pub records : records_in part.verdict ≤ most
  pub places : NumbersFit 0 part.begin part.verdict

-- how such an input is read
abbrev pub reading_of : Framing → Reading
reading_of Sequence = Reading.Sequence
reading_of Lines = Reading.Lines

-- ---- what is reported of the records of a part

abbrev pub AreNotesIf : Framing → Allowed → Option Asked → List ℕ → Option Notes → Type 0
AreNotesIf framing limits (Some asked) text (Some told) = AreNotesIn (Some framing) asked told.notes.items told.count told.tally limits text
AreNotesIf framing limits (Some asked) text None = ⊥
AreNotesIf framing limits None text told = told ≡ None

-- the same, where the reader tells its bytes
abbrev pub AreNotesBefore : Framing → Allowed → Option Asked → Option (List ℕ) → Option Notes → Type 0
AreNotesBefore framing limits asked had told = IfSome had (λ text. AreNotesIf framing limits asked text told)

-- nothing is reported, and nothing is counted
abbrev pub AreNoNotes : Option Asked → Option Notes → Type 0
AreNoNotes (Some asked) (Some told) = (told.notes.items ≡ []) × (told.count ≡ 0) × (told.tally.items ≡ 0) × Tallies told.tally []
AreNoNotes (Some asked) None = ⊥
AreNoNotes None told = told ≡ None

-- those of its bytes, and none of a part that has no byte
pub record AreNotesOfPart (framing : Framing) (limits : Allowed) (asked : Option Asked) (text : List ℕ) (part : CheckedPart) (told : Option Notes)
    : Type 0 where
  pub some : part.begin < part.end → AreNotesIf framing (limits_after limits part.begin) asked (bytes_between part.begin part.end text) told
  pub empty : part.begin ≡ part.end → AreNoNotes asked told

-- ---- why a part is not checked

-- the bytes end before this place, as far as the source tells them
abbrev pub EndsBefore : Option (List ℕ) → (place : ℕ) → Error → Type 0
EndsBefore known place error = (error_kind error ≡ UnexpectedEof) × IfSome known (λ text. length text < place)

-- given how many reads had failed before: one more failed, or there was no memory for the notes that are asked for
abbrev pub IsFailure : Option Asked → (old new : ℕ) → Error → Type 0
IsFailure asked old new error = (new ≡ u64_saturate (old + 1)) ⊎ (IsSome asked × (error_kind error ≡ OutOfMemory))
