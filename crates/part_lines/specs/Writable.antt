-- Which lines are read as they are written: those of a part that was checked.
use Rattle.std.specs.Prelude.{◌≡◌, ℕ, ◌+◌, ◌<◌, ◌^◌, List, [], ◌∷◌, get_or, Option, Some, None}
use Rattle.gj_coords.specs.Internal.KeptWarnings.{first_in}
use Rattle.gj_coords.specs.Warnings.{Warning}
use Rattle.gj_coords.specs.WarningsStand.{StandsFor}
use Rattle.gj_coords.specs.declared.kind.Kind.{Kind}
use Rattle.gj_coords.specs.declared.warnings.Warnings.{Warnings}
use Rattle.gj_json.specs.Limits.{IsAllowed, most}
use Rattle.gj_rules.specs.declared.sequence.verdict.SeqVerdict.{SeqVerdict}
use Rattle.gj_rules.specs.declared.verdict.Verdict.{Verdict}
use Rattle.geolint_report.specs.declared.every.listing.Item.{Item}
use Rattle.geolint_report.specs.declared.every.listing.Note.{Note}
use Rattle.part_lines.specs.Lines.{line_base}
use Rattle.part_lines.specs.declared.line.Listed.{Listed}
use Rattle.part_lines.specs.declared.line.PartLine.{PartLine}

-- it fits into 64 bits, as each number of a line does
abbrev pub Fits : ℕ → Type 0
Fits number = number < 2 ^ 64

-- the warnings are those of some text, and their places count from the start of the file
pub record AreWritableWarnings (begin : ℕ) (warnings : Warnings) : Type 0 where
  pub list : List Warning
  pub stands : StandsFor warnings list
  pub fit : (kind : Kind) (place : ℕ) → first_in kind warnings ≡ Some place → Fits (place + begin)

abbrev pub IsWritableVerdict : ℕ → SeqVerdict → Type 0
IsWritableVerdict begin (SeqVerdict.Valid records warnings) = Fits records × AreWritableWarnings begin warnings
IsWritableVerdict begin (SeqVerdict.Record number (Verdict.Broken fault)) = Fits number × Fits (fault.place + begin)
IsWritableVerdict begin (SeqVerdict.Record number (Verdict.NotJson fault)) = Fits number × Fits (fault.place + begin)
IsWritableVerdict begin (SeqVerdict.Record number (Verdict.Valid warnings)) = ⊥

pub record IsWritableNote (begin : ℕ) (note : Note) : Type 0 where
  pub number : ℕ
  pub item : note.item ≡ Item.Record number
  pub number_fits : Fits number
  pub place_fits : Fits (note.told.place + begin)

abbrev pub AreWritableNotes : ℕ → List Note → Type 0
AreWritableNotes begin [] = Unit {0}
AreWritableNotes begin (note ∷ notes) = IsWritableNote begin note × AreWritableNotes begin notes

pub record IsWritableListed (begin : ℕ) (listed : Listed) : Type 0 where
  pub skipped : listed.asked.skipped ≡ 0
  pub room : Fits listed.asked.room
  pub items : Fits listed.notes.tally.items
  pub broken : Fits listed.notes.tally.broken
  pub counts : (slot : ℕ) → Fits (get_or listed.notes.tally.counts slot 0)
  pub count : Fits listed.notes.count
  pub notes : AreWritableNotes begin listed.notes.notes.items

abbrev pub IsWritableIf : ℕ → Option Listed → Type 0
IsWritableIf begin (Some listed) = IsWritableListed begin listed
IsWritableIf begin None = Unit {0}

pub record IsWritable (line : PartLine) : Type 0 where
  pub number : Fits line.share.number
  pub parts : Fits line.share.parts
  pub size : Fits line.file.size
  pub limits : IsAllowed line.settings.limits.depth line.settings.limits.bytes
  pub depth : line.settings.limits.depth ≡ most.depth
  pub begin : Fits line.checked.begin
  pub end : Fits line.checked.end
  pub verdict : IsWritableVerdict (line_base line) line.checked.verdict
  pub listed : IsWritableIf (line_base line) line.listed
