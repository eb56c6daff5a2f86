-- Lines that say what was found of the parts of a file.
use Rattle.std.specs.Prelude.{◌≡◌, ℕ, suc, ◌<◌, ◌≤◌, List, length, get_or, map, codes, Bool, true, false, Option, Some, None}
use Rattle.std.specs.List.{All}
use Rattle.std.specs.String.{string_bytes}
use Rattle.gj_json.specs.Limits.{Allowed}
use Rattle.gj_rules.specs.declared.records.framing.Framing.{Framing}
use Rattle.gj_rules.specs.declared.records.framing.Framing.TheVariants.{Sequence, Lines}
use Rattle.file_parts.specs.Checked.{IsPartOf, AreNotesOfPart}
use Rattle.file_parts.specs.Ranges.{ArePart}
use Rattle.file_parts.specs.declared.checked.CheckedPart.{CheckedPart}
use Rattle.part_lines.specs.declared.joining.Refusal.{Refusal}
use Rattle.part_lines.specs.declared.joining.Refusal.TheVariants.{Memory, TooMany}
use Rattle.part_lines.specs.declared.line.Listed.{Listed}
use Rattle.part_lines.specs.declared.line.PartLine.{PartLine}

abbrev pub part_number : PartLine → ℕ
part_number line = line.share.number

-- the line of a true part of the text, of the length that the line says
pub record IsLineOf (framing : Framing) (limits : Allowed) (text : List ℕ) (line : PartLine) : Type 0 where
  pub size : length text ≡ line.file.size
  pub framed : line.settings.framing ≡ Some framing
  pub part : IsPartOf framing limits text line.checked

-- and what it lists are the notes on the records of that part
pub record IsListedLineOf (framing : Framing) (limits : Allowed) (text : List ℕ) (line : PartLine) : Type 0 where
  pub line_of : IsLineOf framing limits text line
  pub notes_of : (listed : Listed) → line.listed ≡ Some listed → AreNotesOfPart framing limits (Some listed.asked) text line.checked (Some listed.notes)

-- of the same file, as it was, checked in the same way, and one of as many parts
pub record IsLike (first line : PartLine) : Type 0 where
  pub path : string_bytes line.file.path ≡ string_bytes first.file.path
  pub size : line.file.size ≡ first.file.size
  pub modified : string_bytes line.file.modified ≡ string_bytes first.file.modified
  pub settings : line.settings ≡ first.settings
  pub parts : line.share.parts ≡ first.share.parts

-- ---- the lines of all parts

-- each number from 1 to how many there are is there once
pub record AreAllNumbers (numbers : List ℕ) : Type 0 where
  pub there : (number : ℕ) → 0 < number → number ≤ length numbers → (i : ℕ) × (i < length numbers) × (get_or numbers i 0 ≡ number)
  pub once : (i j : ℕ) → i < j → j < length numbers → get_or numbers i 0 ≡ get_or numbers j 0 → ⊥

-- of so many parts of the text, with the bytes of the part of its number
pub record HasBytesOf (framing : Framing) (limits : Allowed) (text : List ℕ) (parts : ℕ) (line : PartLine) : Type 0 where
  pub size : length text ≡ line.file.size
  pub parts_are : line.share.parts ≡ parts
  pub bytes : ArePart framing limits text line.share.number parts line.checked.begin line.checked.end

-- one of each part, in any order, all made in the same way
pub record AreAllLines (framing : Framing) (limits : Allowed) (text : List ℕ) (lines : List PartLine) : Type 0 where
  pub some : 0 < length lines
  pub alike : (none : PartLine) → All (IsLike (get_or lines 0 none)) lines
  pub numbers : AreAllNumbers (map part_number lines)
  pub each : All (HasBytesOf framing limits text (length lines)) lines

-- the part is that of a line of this number
pub record IsPartIn (lines : List PartLine) (number : ℕ) (part : CheckedPart) : Type 0 where
  pub index : ℕ
  pub line : PartLine
  pub within : index < length lines
  pub is : get_or lines index line ≡ line
  pub of : line.share.number ≡ number
  pub has : part ≡ line.checked

-- those of the first so many numbers, each from the line of its number
pub record ArePartsTo (lines : List PartLine) (count : ℕ) (parts : List CheckedPart) : Type 0 where
  pub long : length parts ≡ count
  pub each : (k : ℕ) (none : CheckedPart) → k < count → IsPartIn lines (suc k) (get_or parts k none)

-- a number is too great, or there is no memory
abbrev pub IsLack : Refusal → Type 0
IsLack TooMany = Unit {0}
IsLack Memory = Unit {0}
IsLack _ = ⊥

-- ---- words of a line

-- how the records of the file are separated; or it is one FeatureCollection
abbrev pub framing_word : Option Framing → List ℕ
framing_word (Some Sequence) = codes "seq"
framing_word (Some Lines) = codes "ndjson"
framing_word None = codes "features"

-- from where the places of a part count that begins there: records are read by themselves, and features where they stand in the file
abbrev pub base_of : Option Framing → ℕ → ℕ
base_of (Some framing) begin = begin
base_of None begin = 0

abbrev pub line_base : PartLine → ℕ
line_base line = base_of line.settings.framing line.checked.begin

-- whether the warnings of records without a fault are listed
abbrev pub every_word : Bool → List ℕ
every_word false = codes "faults"
every_word true = codes "warnings"
