-- The text of a line: one object of JSON with no space, whose members stand in this order and whose last one is a checksum, and LF.
use Rattle.std.specs.Prelude.{ℕ, ◌+◌, List, [], ◌∷◌, ◌++◌, Option, Some, None, codes, string_bytes, get_or, nat_lt, if◌then◌else◌}
use Rattle.std.specs.Io.Iter.{u64_saturate}
use Rattle.std.specs.List.{flat_map}
use Rattle.json.specs.Print.{quoted}
use Rattle.serde_json.specs.Data.{Data, number, unsigned, boolean, string, array, object, Members, no_members, member}
use Rattle.serde_json.specs.View.{items_of}
use Rattle.serde_json.specs.Written.{compact_text}
use Rattle.gj_coords.specs.Internal.KeptWarnings.{first_in, count_in}
use Rattle.gj_coords.specs.Warnings.{kinds}
use Rattle.gj_coords.specs.declared.kind.Kind.{Kind}
use Rattle.gj_coords.specs.declared.warnings.Warnings.{Warnings}
use Rattle.gj_rules.specs.declared.sequence.verdict.SeqVerdict.{SeqVerdict}
use Rattle.gj_rules.specs.declared.verdict.Verdict.{Verdict}
use Rattle.geolint_report.specs.Items.{item_number}
use Rattle.geolint_report.specs.Slots.{slot_of}
use Rattle.geolint_report.specs.Texts.{code_name}
use Rattle.geolint_report.specs.declared.every.listing.Note.{Note}
use Rattle.geolint_report.specs.declared.every.tally.Tally.{Tally}
use Rattle.geolint_report.specs.declared.texts.Code.{Code}
use Rattle.geolint_report.specs.declared.texts.TheConstants.{ALL}
use Rattle.report_forms.specs.Passing.{contains}
use Rattle.report_forms.specs.declared.options.Kinds.{Kinds}
use Rattle.part_lines.specs.Lines.{every_word, framing_word, line_base}
use Rattle.part_lines.specs.Sealed.{sealed}
use Rattle.part_lines.specs.declared.line.FileState.{FileState}
use Rattle.part_lines.specs.declared.line.Listed.{Listed}
use Rattle.part_lines.specs.declared.line.PartLine.{PartLine}
use Rattle.part_lines.specs.declared.line.Settings.{Settings}

-- ---- values and members

abbrev pub num : ℕ → Data
num n = number (unsigned n)

abbrev pub name_of : Code → Data
name_of code = string (code_name code)

-- a place in the part, as it stands in the line: from the start of the file
abbrev pub place_in_file : ℕ → ℕ → Data
place_in_file begin place = num (u64_saturate (place + begin))

-- the name of a member, and its value
abbrev pub Named : Type 0
Named = List ℕ × Data

abbrev pub members_of : List Named → Members
members_of [] = no_members
members_of (m ∷ ms) = member m.0 m.1 (members_of ms)

abbrev pub object_of : List Named → Data
object_of ms = object (members_of ms)

abbrev pub array_of : List Data → Data
array_of ds = array (items_of ds)

-- the items of an array, with a comma before each
abbrev pub items_text : List Data → List ℕ
items_text = flat_map (λ d. codes "," ++ compact_text d)

-- members that stand after another one, with a comma before each
abbrev pub more_text : List Named → List ℕ
more_text = flat_map (λ m. codes "," ++ (quoted m.0 ++ (codes ":" ++ compact_text m.1)))

-- ---- the file, and how it was checked

unfoldable pub file_members : FileState → List Named
file_members file = (codes "path", string (string_bytes file.path)) ∷ (codes "size", num file.size) ∷ (codes "modified", string (string_bytes file.modified)) ∷ []

-- the kind where it is among them
abbrev pub chosen_kind : Kinds → Kind → List Data
chosen_kind chosen kind = if contains chosen kind then name_of (Code.Kind kind) ∷ [] else []

unfoldable pub chosen_kinds : Kinds → List Data
chosen_kinds chosen = flat_map (chosen_kind chosen) kinds

unfoldable pub settings_members : Settings → List Named
settings_members settings =
    (codes "framing", string (framing_word settings.framing)) ∷ (codes "max_bytes", num settings.limits.bytes) ∷ (codes "strict", boolean settings.strictness.strict)
    ∷ (codes "allow", array_of (chosen_kinds settings.strictness.allowed)) ∷ (codes "deny", array_of (chosen_kinds settings.strictness.denied)) ∷ []

-- ---- the verdict

unfoldable pub warning_members : ℕ → Kind → ℕ → ℕ → List Named
warning_members begin kind count place = (codes "kind", name_of (Code.Kind kind)) ∷ (codes "count", num count) ∷ (codes "at", place_in_file begin place) ∷ []

abbrev pub warning_if : ℕ → Kind → ℕ → Option ℕ → List Data
warning_if begin kind count (Some place) = object_of (warning_members begin kind count place) ∷ []
warning_if begin kind count None = []

-- the kind where there is a warning of it
abbrev pub kind_items : ℕ → Warnings → Kind → List Data
kind_items begin warnings kind = warning_if begin kind (count_in kind warnings) (first_in kind warnings)

unfoldable pub warning_items : ℕ → Warnings → List Data
warning_items begin warnings = flat_map (kind_items begin warnings) kinds

unfoldable pub valid_members : ℕ → ℕ → Warnings → List Named
valid_members begin records warnings = (codes "records", num records) ∷ (codes "warnings", array_of (warning_items begin warnings)) ∷ []

unfoldable pub fault_members : ℕ → Code → ℕ → List Named
fault_members begin code place = (codes "fault", name_of code) ∷ (codes "at", place_in_file begin place) ∷ []

-- of a record that is not valid
abbrev pub record_members : ℕ → Verdict → List Named
record_members begin (Verdict.Broken fault) = fault_members begin (Code.Rule fault.rule) fault.place
record_members begin (Verdict.NotJson fault) = fault_members begin (Code.Cause fault.cause) fault.place
record_members begin (Verdict.Valid warnings) = []

abbrev pub verdict_members : ℕ → SeqVerdict → List Named
verdict_members begin (SeqVerdict.Valid records warnings) = valid_members begin records warnings
verdict_members begin (SeqVerdict.Record n verdict) = (codes "record", num n) ∷ record_members begin verdict

-- ---- the notes on records

unfoldable pub count_members : Code → ℕ → List Named
count_members code count = (codes "code", name_of code) ∷ (codes "count", num count) ∷ []

abbrev pub count_if : Code → ℕ → List Data
count_if code count = if nat_lt 0 count then object_of (count_members code count) ∷ [] else []

-- the code where it is reported of some record
abbrev pub code_items : Tally → Code → List Data
code_items tally code = count_if code (get_or tally.counts (slot_of code) 0)

-- of all codes
unfoldable pub count_items : Tally → List Data
count_items tally = flat_map (code_items tally) ALL

unfoldable pub tally_members : Tally → List Named
tally_members tally = (codes "items", num tally.items) ∷ (codes "items_broken", num tally.broken) ∷ (codes "counts", array_of (count_items tally)) ∷ []

unfoldable pub note_members : ℕ → Note → List Named
note_members begin note =
    (codes "record", num (item_number note.item)) ∷ (codes "code", name_of note.told.code) ∷ (codes "at", place_in_file begin note.told.place) ∷ []

abbrev pub one_note : ℕ → Note → List Data
one_note begin note = object_of (note_members begin note) ∷ []

unfoldable pub note_items : ℕ → List Note → List Data
note_items begin notes = flat_map (one_note begin) notes

unfoldable pub listed_members : ℕ → Listed → List Named
listed_members begin listed =
    (codes "every", string (every_word listed.asked.with_warnings)) ∷ (codes "most", num listed.asked.room)
    ∷ (tally_members listed.notes.tally
    ++ ((codes "findings", num listed.notes.count) ∷ (codes "listed", array_of (note_items begin listed.notes.notes.items)) ∷ []))

abbrev pub listed_members_if : ℕ → Option Listed → List Named
listed_members_if begin (Some listed) = listed_members begin listed
listed_members_if begin None = []

-- ---- the line

-- those before the verdict, after the version
unfoldable pub head_members : PartLine → List Named
head_members line =
    (codes "part", num line.share.number) ∷ (codes "parts", num line.share.parts) ∷ (file_members line.file ++ (settings_members line.settings
    ++ ((codes "begin", num line.checked.begin) ∷ (codes "end", num line.checked.end) ∷ [])))

-- with a verdict, and notes or none
abbrev pub members_with : PartLine → ℕ → SeqVerdict → Option Listed → List Named
members_with line begin verdict listed = head_members line ++ (verdict_members begin verdict ++ listed_members_if begin listed)

-- up to its checksum
unfoldable pub body_text : PartLine → List ℕ
body_text line = codes "{\"geolint_part\":2" ++ more_text (members_with line (line_base line) line.checked.verdict line.listed)

abbrev pub line_text : PartLine → List ℕ
line_text line = sealed (body_text line) ++ codes "\n"
