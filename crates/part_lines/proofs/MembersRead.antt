-- The object of a written line is read.
use Rattle.part_lines.proofs.Common.{arith, ◌<◌, ◌+◌, ℕ, ap, sym, subst, Bool, true, false, Some, List, [], ◌∷◌, ◌++◌, get_or}
use Rattle.part_lines.proofs.Common.{kinds, Kind, Warnings, Code, Note, PartLine, code_name}
use Rattle.std.proofs.Common.{None, Option}
use Rattle.std.specs.Prelude.{◌^◌, ◌≡◌, nat_lt, if◌then◌else◌, string_bytes}
use Rattle.std.specs.Io.Iter.{u64_saturate}
use Rattle.gj_coords.proofs.Lists.ListsStoodFor.{kept_of}
use Rattle.gj_coords.specs.Internal.KeptWarnings.{first_in, count_in}
use Rattle.gj_coords.specs.Warnings.{Warning, count_of}
use Rattle.gj_coords.specs.WarningsStand.{StandsFor}
use Rattle.gj_coords.specs.declared.kind_warnings.KindWarnings.{KindWarnings}
use Rattle.geolint_report.specs.Items.{item_number}
use Rattle.geolint_report.specs.Slots.{slot_of}
use Rattle.geolint_report.specs.declared.every.tally.Tally.{Tally}
use Rattle.geolint_report.specs.declared.texts.TheConstants.{ALL}
use Rattle.gj_rules.specs.declared.sequence.verdict.SeqVerdict.{SeqVerdict}
use Rattle.gj_rules.specs.declared.verdict.Verdict.{Verdict}
use Rattle.report_forms.specs.Passing.{contains}
use Rattle.report_forms.specs.declared.options.Kinds.{Kinds}
use Rattle.part_lines.specs.Lines.{every_word, framing_word, line_base}
use Rattle.part_lines.specs.LineText.{object_of, place_in_file, name_of, file_members, chosen_kind, chosen_kinds, settings_members, warning_members, warning_if}
use Rattle.part_lines.specs.LineText.{kind_items, warning_items, valid_members, fault_members, verdict_members, count_members, code_items}
use Rattle.part_lines.specs.LineText.{count_items, tally_members, note_members, note_items, listed_members}
use Rattle.part_lines.specs.LineText.{listed_members_if, head_members}
use Rattle.part_lines.specs.Writable.{Fits, IsWritableVerdict, AreWritableNotes, IsWritableIf, IsWritable}
use Rattle.part_lines.specs.declared.line.Listed.{Listed}
use Rattle.part_lines.proofs.ReadTexts.{IsReadable, AreReadable, AreNamed, reads-number, reads-string, reads-boolean, reads-flat, named-append}
use Rattle.part_lines.proofs.ReadTexts.{reads-array, reads-object}
use Rattle.part_lines.proofs.WrittenItems.{line-members}

place-read : (levels begin place : ℕ) → IsReadable levels (place_in_file begin place)
place-read levels begin place = reads-number levels (u64_saturate (place + begin)) (omega arith)

-- ---- how the file was checked

chosen-read : (b : Bool) (kind : Kind) → AreReadable 1 (if b then name_of (Code.Kind kind) ∷ [] else [])
chosen-read true kind = (reads-string 1 (code_name (Code.Kind kind)), tt)
chosen-read false kind = tt

all-chosen-read : (chosen : Kinds) → AreReadable 1 (chosen_kinds chosen)
unfolding chosen_kinds
all-chosen-read chosen = reads-flat 1 (chosen_kind chosen) (λ kind. chosen-read (contains chosen kind) kind) kinds

head-read : (line : PartLine) → IsWritable line → AreNamed 2 (head_members line)
unfolding head_members file_members settings_members
head-read line fits = (
  reads-number 2 line.share.number fits.number,
  (
    reads-number 2 line.share.parts fits.parts,
    (
      reads-string 2 (string_bytes line.file.path),
      (
        reads-number 2 line.file.size fits.size,
        (
          reads-string 2 (string_bytes line.file.modified),
          (
            reads-string 2 (framing_word line.settings.framing),
            (
              reads-number 2 line.settings.limits.bytes (omega (arith, fits.limits.most_bytes)),
              (
                reads-boolean 2 line.settings.strictness.strict,
                (
                  reads-array 1 (chosen_kinds line.settings.strictness.allowed) (all-chosen-read line.settings.strictness.allowed),
                  (
                    reads-array 1 (chosen_kinds line.settings.strictness.denied) (all-chosen-read line.settings.strictness.denied),
                    (reads-number 2 line.checked.begin fits.begin, (reads-number 2 line.checked.end fits.end, tt)),
                  ),
                ),
              ),
            ),
          ),
        ),
      ),
    ),
  ),
)

-- ---- the verdict

kind-read : (begin : ℕ) (kind : Kind) (count : ℕ) (first : Option ℕ) → Fits count → AreReadable 1 (warning_if begin kind count first)
unfolding warning_members
kind-read begin kind count (Some place) small = (
  reads-object 0 (warning_members begin kind count place)
      (reads-string 0 (code_name (Code.Kind kind)), (reads-number 0 count small, (place-read 0 begin place, tt))),
  tt,
)
kind-read begin kind count None small = tt

pub few : (kind : Kind) (warnings : Warnings) (list : List Warning) → StandsFor warnings list → count_in kind warnings < 2 ^ 32
few kind warnings list stands =
    let is : count_in kind warnings ≡ count_of kind list = ap (λ (k : KindWarnings). k.count) (kept_of warnings kind list stands) in
    omega (arith, is)

all-warnings-read : (begin : ℕ) (warnings : Warnings) → ((kind : Kind) → Fits (count_in kind warnings)) → AreReadable 1 (warning_items begin warnings)
unfolding warning_items
all-warnings-read begin warnings counts =
    reads-flat 1 (kind_items begin warnings) (λ kind. kind-read begin kind (count_in kind warnings) (first_in kind warnings) (counts kind)) kinds

verdict-read : (begin : ℕ) (verdict : SeqVerdict) → IsWritableVerdict begin verdict → AreNamed 2 (verdict_members begin verdict)
unfolding valid_members fault_members
verdict-read begin (SeqVerdict.Valid records warnings) fits = (
  reads-number 2 records fits.0,
  (
    reads-array 1 (warning_items begin warnings)
        (all-warnings-read begin warnings (λ kind. omega (arith, few kind warnings fits.1.list fits.1.stands))),
    tt,
  ),
)
verdict-read begin (SeqVerdict.Record n (Verdict.Broken fault)) fits =
    (reads-number 2 n fits.0, (reads-string 2 (code_name (Code.Rule fault.rule)), (place-read 2 begin fault.place, tt)))
verdict-read begin (SeqVerdict.Record n (Verdict.NotJson fault)) fits =
    (reads-number 2 n fits.0, (reads-string 2 (code_name (Code.Cause fault.cause)), (place-read 2 begin fault.place, tt)))
verdict-read begin (SeqVerdict.Record n (Verdict.Valid warnings)) fits = absurd fits

-- ---- the notes on records

count-read : (b : Bool) (code : Code) (count : ℕ) → Fits count → AreReadable 1 (if b then object_of (count_members code count) ∷ [] else [])
unfolding count_members
count-read true code count small =
    (reads-object 0 (count_members code count) (reads-string 0 (code_name code), (reads-number 0 count small, tt)), tt)
count-read false code count small = tt

counts-read : (tally : Tally) → ((slot : ℕ) → Fits (get_or tally.counts slot 0)) → AreReadable 1 (count_items tally)
unfolding count_items
counts-read tally small =
    reads-flat 1 (code_items tally)
    (λ code. count-read (nat_lt 0 (get_or tally.counts (slot_of code) 0)) code (get_or tally.counts (slot_of code) 0) (small (slot_of code))) ALL

notes-read : (begin : ℕ) (notes : List Note) → AreWritableNotes begin notes → AreReadable 1 (note_items begin notes)
unfolding note_items note_members
notes-read begin [] all = tt
notes-read begin (note ∷ notes) all = (
  reads-object 0 (note_members begin note) (
    reads-number 0 (item_number note.item) (subst Fits (sym (ap item_number all.0.item)) all.0.number_fits),
    (reads-string 0 (code_name note.told.code), (place-read 0 begin note.told.place, tt)),
  ),
  notes-read begin notes all.1,
)

listed-read : (begin : ℕ) (listed : Option Listed) → IsWritableIf begin listed → AreNamed 2 (listed_members_if begin listed)
unfolding listed_members tally_members
listed-read begin (Some listed) fits = (
  reads-string 2 (every_word listed.asked.with_warnings),
  (
    reads-number 2 listed.asked.room fits.room,
    (
      reads-number 2 listed.notes.tally.items fits.items,
      (
        reads-number 2 listed.notes.tally.broken fits.broken,
        (
          reads-array 1 (count_items listed.notes.tally) (counts-read listed.notes.tally fits.counts),
          (
            reads-number 2 listed.notes.count fits.count,
            (reads-array 1 (note_items begin listed.notes.notes.items) (notes-read begin listed.notes.notes.items fits.notes), tt),
          ),
        ),
      ),
    ),
  ),
)
listed-read begin None fits = tt

-- ---- the line

pub object-read : (line : PartLine) → IsWritable line → IsReadable 3 (object_of (line-members line))
object-read line fits =
    let base = line_base line in
    let verdict = verdict_members base line.checked.verdict in
    let listed = listed_members_if base line.listed in
    reads-object 2 (line-members line) (
      reads-number 2 2 (omega arith),
      named-append 2 (head_members line) (verdict ++ listed) (head-read line fits)
          (named-append 2 verdict listed (verdict-read base line.checked.verdict fits.verdict) (listed-read base line.listed fits.listed)),
    )
