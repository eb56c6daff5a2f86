-- What is reported of the features or the records of a file that was read: which notes, and where their places stand.
use Rattle.std.specs.Prelude.{◌≡◌, ◌≤◌, ◌^◌, ℕ, zero, suc, ◌+◌, ◌-◌, List, [], ◌∷◌, ◌++◌, length, Bool, true, false, min, nat_eq, if◌then◌else◌, Option}
use Rattle.std.specs.Prelude.{Some, None, IfSome, ⊤}
use Rattle.std.specs.Io.Iter.{u64_saturate}
use Rattle.gj_json.specs.Limits.{Allowed}
use Rattle.gj_rules.specs.declared.records.framing.Framing.{Framing}
use Rattle.report_forms.specs.declared.every.Entry.{Entry}
use Rattle.geolint_report.specs.declared.every.listing.Asked.{Asked}
use Rattle.geolint_report.specs.declared.every.cursor.Mark.{Mark}
use Rattle.geolint_report.specs.declared.every.listing.Note.{Note}
use Rattle.geolint_report.specs.declared.every.tally.Tally.{Tally}
use Rattle.geolint_report.specs.declared.judge.Finding.{Finding}
use Rattle.geolint_report.specs.declared.judge.Reading.{Reading}
use Rattle.report_forms.specs.declared.options.Every.{Every}
use Rattle.report_forms.specs.declared.options.Options.{Options}
use Rattle.geolint_report.specs.Every.{AreNotesBy, is_no_text}
use Rattle.geolint_report.specs.Further.{AreNextBy}
use Rattle.geolint_report.specs.Marks.{IsMarkBy}
use Rattle.geolint_report.specs.Judged.{Finds, framing_in}
use Rattle.geolint_files.specs.Run.{FeatureLine, feature_line, others_line, ToldFile, judged, listed}
use Rattle.geolint_files.specs.Told.{reading_of, shows, HasSites, IsFoundOnce, IsToldOnce, IsToldTwice}

-- ---- what is asked

-- how many are reported at most: 0 asks for all
abbrev pub most_of : ℕ → ℕ
most_of most = if nat_eq most 0 then 2 ^ 64 - 1 else most

-- how many of them are held at once
abbrev pub room_of : ℕ → ℕ
room_of most = min (most_of most) 65536

abbrev pub asked_with : Bool → ℕ → Asked
asked_with with_warnings most = record { with_warnings = with_warnings; skipped = 0; room = room_of most }

abbrev pub asked_by : Every → ℕ → Option Asked
asked_by Every.Nothing most = None
asked_by Every.Faults most = Some (asked_with false most)
asked_by Every.Warnings most = Some (asked_with true most)

abbrev pub asked_in : Options → Option Asked
asked_in options = asked_by options.every options.most

-- what is asked of the features or the records of a file that is read so: of none where only yes or no is asked
abbrev pub asked_when : Reading → Option Asked → Option Asked
asked_when Reading.Quick asked = None
asked_when reading asked = asked

abbrev pub asked_for : Options → List ℕ → Option Asked
asked_for options name = asked_when (reading_of options name) (asked_in options)

-- ---- the lines of notes

abbrev pub IsEntryOf : (Entry → Type 0) → List ℕ → Note → FeatureLine → Type 0
IsEntryOf Right name note (feature_line entry) = (entry.name.now ≡ name) × (entry.note ≡ note) × Right entry
IsEntryOf Right name note (others_line told count) = ⊥

-- as many, each in its turn
abbrev pub AreEntriesOf : (Entry → Type 0) → List ℕ → List Note → List FeatureLine → Type 0
AreEntriesOf Right name [] [] = ⊤
AreEntriesOf Right name (note ∷ more) (line ∷ lines) = IsEntryOf Right name note line × AreEntriesOf Right name more lines
AreEntriesOf Right name _ _ = ⊥

abbrev pub others_of : List ℕ → ℕ → List FeatureLine
others_of name zero = []
others_of name (suc count) = others_line name (suc count) ∷ []

-- of so many notes these are reported, and after them how many others there are
pub record AreLinesOf (Right : Entry → Type 0) (name : List ℕ) (notes : List Note) (count : ℕ) (lines : List FeatureLine) : Type 0 where
  pub entries : List FeatureLine
  pub are : AreEntriesOf Right name notes entries
  pub all : lines ≡ entries ++ others_of name (count - length notes)

-- the lines of the features or the records of a source that had these bytes, and what is counted of them
abbrev pub AreListed : (Entry → Type 0) → Option Framing → Asked → Allowed → List ℕ → Option (List ℕ) → List FeatureLine → Tally → Type 0
AreListed Right framing asked limits name had lines tally =
    (notes : List Note) × (count : ℕ) × AreNotesBy framing asked notes count tally limits had × AreLinesOf Right name notes count lines

-- ---- a source that is read once

-- this is said of the place, and nothing of an `id`
abbrev pub IsMarkedBy : (Note → Option Mark → Type 0) → Entry → Type 0
IsMarkedBy Says entry = Says entry.note entry.mark × (entry.id.now ≡ [])

abbrev pub IsNoMark : Note → Option Mark → Type 0
IsNoMark note mark = mark ≡ None

-- nothing is known of the place
abbrev pub IsUnplaced : Entry → Type 0
IsUnplaced = IsMarkedBy IsNoMark

-- the line and the column, where they are said, are those of the place in these bytes, and no path is said
abbrev pub IsSpotBy : Option (List ℕ) → Note → Option Mark → Type 0
IsSpotBy had note None = ⊤
IsSpotBy had note (Some mark) = IsMarkBy None had note.told.place mark × (mark.path ≡ None)

-- What is reported of a source that had these bytes: of the places of its notes at most the lines and columns.
-- Of a text that is refused no feature is reported.
abbrev pub IsListedOnce : (Finding → Bool) → Reading → Asked → Allowed → List ℕ → Option (List ℕ) → (failed now_failed : ℕ) → ToldFile → Type 0
IsListedOnce Shows reading asked limits name had failed now_failed (listed report lines tally) =
    (is_no_text report.finding ≡ false) × (report.name.now ≡ name) × (now_failed ≡ failed) × IsFoundOnce Shows reading limits had report
    × AreListed (IsMarkedBy (IsSpotBy had)) (framing_in reading) asked limits name had lines tally
IsListedOnce Shows reading asked limits name had failed now_failed (judged report) =
    (is_no_text report.finding ≡ true) × IsToldOnce Shows reading limits name had failed now_failed (judged report)
IsListedOnce Shows reading asked limits name had failed now_failed file = IsToldOnce Shows reading limits name had failed now_failed file

-- where its features are asked for, and where they are not
abbrev pub IsOnceBy : Option Asked → (Finding → Bool) → Reading → Allowed → List ℕ → Option (List ℕ) → (failed now_failed : ℕ) → ToldFile → Type 0
IsOnceBy (Some asked) Shows reading = IsListedOnce Shows reading asked
IsOnceBy None Shows reading = IsToldOnce Shows reading

-- what is reported of a source of this name, whose text may be shown
abbrev pub IsOnce : Options → Bool → List ℕ → Option (List ℕ) → (failed now_failed : ℕ) → ToldFile → Type 0
IsOnce options is_shown name = IsOnceBy (asked_for options name) (shows is_shown options.format) (reading_of options name) options.limits name

-- ---- a source that is read again

-- what is reported of the place of a note is right
abbrev pub IsPlaced : Option Framing → Option (List ℕ) → Entry → Type 0
IsPlaced framing text entry = IfSome entry.mark (λ mark. IsMarkBy framing text entry.note.told.place mark)

-- after so many, of so many at most
abbrev pub asked_after : Asked → ℕ → ℕ → Asked
asked_after asked most told = record asked { skipped = told; room = min asked.room (most - told) }

-- each piece of a further reading gave the notes that follow those before it, of which there are so many before the first
abbrev pub AreFurther : Option Framing → Asked → ℕ → Allowed → Option (List ℕ) → ℕ → List (List Note) → Type 0
AreFurther framing asked most limits text before [] = ⊤
AreFurther framing asked most limits text before (notes ∷ more) =
    AreNextBy framing (asked_after asked most (u64_saturate before)) limits text notes
    × AreFurther framing asked most limits text (before + length notes) more

abbrev pub joined : List (List Note) → List Note
joined [] = []
joined (notes ∷ more) = notes ++ joined more

-- the lines of the notes that the first reading held, and where more are asked for of those that a further reading of these bytes gave; and
-- after them how many others there are
abbrev pub ArePlacedLines : Reading → Asked → ℕ → Allowed → List ℕ → Option (List ℕ) → List Note → ℕ → List FeatureLine → Type 0
ArePlacedLines reading asked most limits name text notes count lines =
    (further : List (List Note)) × AreFurther (framing_in reading) asked (most_of most) limits text (length notes) further
    × (most_of most ≤ asked.room → further ≡ []) × AreLinesOf (IsPlaced (framing_in reading) text) name (notes ++ joined further) count lines

-- `text` are the bytes of the source from the first one on
abbrev pub IsListedTwice : Reading → Asked → ℕ → Allowed → List ℕ → Option (List ℕ) → Option (List ℕ) → (failed now_failed : ℕ) → ToldFile → Type 0
IsListedTwice reading asked most limits name had text failed now_failed (listed report lines tally) =
    (is_no_text report.finding ≡ false) × (report.name.now ≡ name) × ((left : Option (List ℕ)) × Finds reading limits had left report.finding)
    × ((middle : ℕ) × HasSites reading limits text failed middle report)
    × ((notes : List Note) × (count : ℕ) × AreNotesBy (framing_in reading) asked notes count tally limits had
    × ArePlacedLines reading asked most limits name text notes count lines)
IsListedTwice reading asked most limits name had text failed now_failed (judged report) =
    (is_no_text report.finding ≡ true) × IsToldTwice reading limits name had text failed now_failed (judged report)
IsListedTwice reading asked most limits name had text failed now_failed file = IsToldTwice reading limits name had text failed now_failed file

abbrev pub IsTwiceBy : Option Asked → ℕ → Reading → Allowed → List ℕ → Option (List ℕ) → Option (List ℕ) → (failed now_failed : ℕ) → ToldFile → Type 0
IsTwiceBy (Some asked) most reading = IsListedTwice reading asked most
IsTwiceBy None most reading = IsToldTwice reading

abbrev pub IsTwice : Options → List ℕ → Option (List ℕ) → Option (List ℕ) → (failed now_failed : ℕ) → ToldFile → Type 0
IsTwice options name = IsTwiceBy (asked_for options name) options.most (reading_of options name) options.limits name
