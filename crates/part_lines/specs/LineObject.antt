-- What a line says: the members of its object, and what is read of each.
use Rattle.std.specs.Prelude.{◌≡◌, ℕ, ◌+◌, ◌<◌, ◌^◌, Bool, List, [], ◌∷◌, ◌++◌, Option, Some, None, option_and_then, codes, string_bytes, replicate}
use Rattle.std.specs.List.{All}
use Rattle.gj_coords.specs.Warnings.{Warning, warning_at}
use Rattle.gj_coords.specs.WarningsStand.{StandsFor}
use Rattle.gj_coords.specs.declared.kind.Kind.{Kind}
use Rattle.gj_coords.specs.declared.warnings.Warnings.{Warnings}
use Rattle.gj_json.specs.Limits.{IsAllowed, most}
use Rattle.gj_rules.specs.declared.records.framing.Framing.{Framing}
use Rattle.gj_rules.specs.declared.sequence.verdict.SeqVerdict.{SeqVerdict}
use Rattle.gj_rules.specs.declared.verdict.Verdict.{Verdict}
use Rattle.geolint_report.specs.Texts.{code_name}
use Rattle.geolint_report.specs.declared.every.listing.Item.{Item}
use Rattle.geolint_report.specs.declared.every.listing.Note.{Note}
use Rattle.geolint_report.specs.declared.texts.Code.{Code}
use Rattle.file_parts.specs.declared.checked.CheckedPart.{CheckedPart}
use Rattle.file_parts.specs.declared.ranges.Share.{Share}
use Rattle.serde_json.specs.Data.{Data, Items}
use Rattle.serde_json.specs.Find.{get, as_number, as_u64, as_str, as_bool, as_array}
use Rattle.serde_json.specs.View.{items_of}
use Rattle.part_lines.specs.Lines.{every_word, framing_word, base_of, line_base}
use Rattle.part_lines.specs.declared.line.FileState.{FileState}
use Rattle.part_lines.specs.declared.line.Listed.{Listed}
use Rattle.part_lines.specs.declared.line.PartLine.{PartLine}
use Rattle.part_lines.specs.declared.line.Settings.{Settings}

-- the member of that name, where it is a whole number
abbrev pub number_in : List ℕ → Data → Option ℕ
number_in name it = option_and_then as_u64 (option_and_then as_number (get name it))

-- where it is a string
abbrev pub text_in : List ℕ → Data → Option (List ℕ)
text_in name it = option_and_then as_str (get name it)

-- where it is `true` or `false`
abbrev pub truth_in : List ℕ → Data → Option Bool
truth_in name it = option_and_then as_bool (get name it)

-- where it is an array
abbrev pub array_in : List ℕ → Data → Option Items
array_in name it = option_and_then as_array (get name it)

pub record IsFileIn (it : Data) (file : FileState) : Type 0 where
  pub path : text_in (codes "path") it ≡ Some (string_bytes file.path)
  pub size : number_in (codes "size") it ≡ Some file.size
  pub modified : text_in (codes "modified") it ≡ Some (string_bytes file.modified)

-- it is the name of a kind of warning
abbrev pub IsKindName : Data → Type 0
IsKindName it = (kind : Kind) × (as_str it ≡ Some (code_name (Code.Kind kind)))

-- some kinds: no clause says which, since `Kinds::insert` has none
abbrev pub AreKindsIn : List ℕ → Data → Type 0
AreKindsIn name it = (items : List Data) × (array_in name it ≡ Some (items_of items)) × All IsKindName items

pub record IsSettingsIn (it : Data) (settings : Settings) : Type 0 where
  pub framing : text_in (codes "framing") it ≡ Some (framing_word settings.framing)
  pub max_bytes : number_in (codes "max_bytes") it ≡ Some settings.limits.bytes
  pub limits : IsAllowed settings.limits.depth settings.limits.bytes
  pub depth : settings.limits.depth ≡ most.depth
  pub strict : truth_in (codes "strict") it ≡ Some settings.strictness.strict
  pub allow : AreKindsIn (codes "allow") it
  pub deny : AreKindsIn (codes "deny") it

pub record IsShareIn (it : Data) (share : Share) : Type 0 where
  pub part : number_in (codes "part") it ≡ Some share.number
  pub parts : number_in (codes "parts") it ≡ Some share.parts

-- ---- the verdict, whose places count from the start of the file

abbrev pub IsPlaceIn : Data → ℕ → ℕ → Type 0
IsPlaceIn it begin place = number_in (codes "at") it ≡ Some (place + begin)

-- of a record that is not valid
abbrev pub IsRecordIn : Data → ℕ → Verdict → Type 0
IsRecordIn it begin (Verdict.Broken fault) = (text_in (codes "fault") it ≡ Some (code_name (Code.Rule fault.rule))) × IsPlaceIn it begin fault.place
IsRecordIn it begin (Verdict.NotJson fault) = (text_in (codes "fault") it ≡ Some (code_name (Code.Cause fault.cause))) × IsPlaceIn it begin fault.place
IsRecordIn it begin (Verdict.Valid warnings) = ⊥

-- so many warnings of a kind, at this place
pub record IsWarningIn (it : Data) (begin : ℕ) (kind : Kind) (many place : ℕ) : Type 0 where
  pub name : text_in (codes "kind") it ≡ Some (code_name (Code.Kind kind))
  pub count : number_in (codes "count") it ≡ Some many
  pub fits : many < 2 ^ 32
  pub at : IsPlaceIn it begin place

-- those of each item, one after another
abbrev pub AreWarnings : ℕ → List Data → List Warning → Type 0
AreWarnings begin [] warnings = warnings ≡ []
AreWarnings begin (it ∷ more) warnings =
    (kind : Kind) × (count : ℕ) × (place : ℕ) × (rest : List Warning) × IsWarningIn it begin kind count place
    × (warnings ≡ replicate count (warning_at place kind) ++ rest) × AreWarnings begin more rest

abbrev pub AreWarningsOf : ℕ → List Data → Warnings → Type 0
AreWarningsOf begin items all = (warnings : List Warning) × AreWarnings begin items warnings × StandsFor all warnings

abbrev pub AreWarningsIn : Data → ℕ → Warnings → Type 0
AreWarningsIn it begin all = (items : List Data) × (array_in (codes "warnings") it ≡ Some (items_of items)) × AreWarningsOf begin items all

abbrev pub IsVerdictIn : Data → ℕ → SeqVerdict → Type 0
IsVerdictIn it begin (SeqVerdict.Valid records warnings) = (number_in (codes "records") it ≡ Some records) × AreWarningsIn it begin warnings
IsVerdictIn it begin (SeqVerdict.Record number verdict) =
    (number_in (codes "records") it ≡ None) × (number_in (codes "record") it ≡ Some number) × IsRecordIn it begin verdict

pub record IsCheckedIn (it : Data) (framing : Option Framing) (part : CheckedPart) : Type 0 where
  pub begin : number_in (codes "begin") it ≡ Some part.begin
  pub end : number_in (codes "end") it ≡ Some part.end
  pub verdict : IsVerdictIn it (base_of framing part.begin) part.verdict

-- ---- the notes on records

pub record IsNoteIn (it : Data) (begin : ℕ) (note : Note) (before : ℕ) : Type 0 where
  pub number : number_in (codes "record") it ≡ Some before
  pub item : note.item ≡ Item.Record before
  pub code : text_in (codes "code") it ≡ Some (code_name note.told.code)
  pub at : IsPlaceIn it begin note.told.place

-- one of each item, in their order
abbrev pub AreNotes : ℕ → List Data → List Note → Type 0
AreNotes begin [] notes = notes ≡ []
AreNotes begin (it ∷ more) notes =
    (note : Note) × (number : ℕ) × (rest : List Note) × IsNoteIn it begin note number × (notes ≡ note ∷ rest) × AreNotes begin more rest

abbrev pub AreNotesIn : Data → ℕ → List Note → Type 0
AreNotesIn it begin notes = (items : List Data) × (array_in (codes "listed") it ≡ Some (items_of items)) × AreNotes begin items notes

-- but for the count of each code
pub record IsListedIn (it : Data) (begin : ℕ) (listed : Listed) : Type 0 where
  pub every : text_in (codes "every") it ≡ Some (every_word listed.asked.with_warnings)
  pub most : number_in (codes "most") it ≡ Some listed.asked.room
  pub skipped : listed.asked.skipped ≡ 0
  pub items : number_in (codes "items") it ≡ Some listed.notes.tally.items
  pub broken : number_in (codes "items_broken") it ≡ Some listed.notes.tally.broken
  pub count : number_in (codes "findings") it ≡ Some listed.notes.count
  pub notes : AreNotesIn it begin listed.notes.notes.items

abbrev pub IsListedIf : Data → ℕ → Option Listed → Type 0
IsListedIf it begin (Some listed) = IsListedIn it begin listed
IsListedIf it begin None = get (codes "every") it ≡ None

-- ---- the line

pub record IsLineIn (it : Data) (line : PartLine) : Type 0 where
  pub version : number_in (codes "geolint_part") it ≡ Some 2
  pub file : IsFileIn it line.file
  pub settings : IsSettingsIn it line.settings
  pub share : IsShareIn it line.share
  pub checked : IsCheckedIn it line.settings.framing line.checked
  pub listed : IsListedIf it (line_base line) line.listed
