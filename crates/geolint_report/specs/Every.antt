-- What is noted of the features of a text, or of the records of a file: the fault of each, or of one without a fault its kinds of warning.
use Rattle.std.specs.Prelude.{◌≡◌, ℕ, ◌+◌, ◌<◌, ◌≤◌, Bool, true, false, List, [], ◌∷◌, ◌++◌, length, take, drop, Option, Some, None, Result, MatchResult, ⊤}
use Rattle.std.specs.Io.Iter.{u64_saturate}
use Rattle.std.specs.List.{flat_map}
use Rattle.gj_coords.specs.declared.fault.Fault.{Fault}
use Rattle.gj_coords.specs.declared.kind.Kind.{Kind}
use Rattle.gj_coords.specs.declared.warnings.Warnings.{Warnings}
use Rattle.gj_coords.specs.Warnings.{kinds}
use Rattle.gj_json.specs.declared.fault.JsonFault.{JsonFault}
use Rattle.gj_json.specs.Limits.{Allowed}
use Rattle.gj_json.specs.Refusal.{IsAdmitted}
use Rattle.gj_json.specs.Tree.{Text}
use Rattle.gj_rules.specs.declared.feature.Feature.{Feature}
use Rattle.gj_rules.specs.declared.records.framing.Framing.{Framing}
use Rattle.gj_rules.specs.declared.records.record.Record.{Record}
use Rattle.gj_rules.specs.declared.verdict.Verdict.{Verdict}
use Rattle.gj_rules.specs.declared.verdict.Verdict.TheVariants.{Valid, Broken, NotJson}
use Rattle.gj_rules.specs.FeatureFindings.{feature_findings}
use Rattle.gj_rules.specs.FeaturesTold.{TellFindings}
use Rattle.gj_rules.specs.RecordFindings.{AreAllFindings}
use Rattle.geolint_report.specs.declared.every.listing.Asked.{Asked}
use Rattle.geolint_report.specs.declared.every.listing.Item.{Item}
use Rattle.geolint_report.specs.declared.every.listing.Listing.{Listing}
use Rattle.geolint_report.specs.declared.every.listing.Note.{Note}
use Rattle.geolint_report.specs.declared.every.tally.Tally.{Tally}
use Rattle.geolint_report.specs.declared.judge.Finding.{Finding}
use Rattle.geolint_report.specs.declared.report.Told.{Told}
use Rattle.geolint_report.specs.declared.texts.Code.{Code}
use Rattle.geolint_report.specs.Report.{warning_of}
use Rattle.geolint_report.specs.Tallies.{Tallies}

-- ---- the notes

abbrev pub note_of : Item → Told → Note
note_of item told = record { item = item; told = told }

abbrev pub fault_note : Item → Fault → Note
fault_note item fault = note_of item (record { code = Code.Rule fault.rule; place = fault.place })

abbrev pub refusal_note : Item → JsonFault → Note
refusal_note item fault = note_of item (record { code = Code.Cause fault.cause; place = fault.place })

abbrev pub notes_if : Item → Option (Told × ℕ) → List Note
notes_if item (Some warning) = note_of item warning.0 ∷ []
notes_if item None = []

-- of a kind of warning, its first place in the feature or the record
abbrev pub kind_notes : Item → Warnings → Kind → List Note
kind_notes item warnings kind = notes_if item (warning_of kind warnings)

abbrev pub warning_notes : Bool → Item → Warnings → List Note
warning_notes true item warnings = flat_map (kind_notes item warnings) kinds
warning_notes false item warnings = []

-- ---- those of features

abbrev pub item_of : Feature → Item
item_of feature = Item.Feature feature.index feature.id

abbrev pub notes_by : Bool → Feature → Option Fault → List Note
notes_by with_warnings feature (Some fault) = fault_note (item_of feature) fault ∷ []
notes_by with_warnings feature None = warning_notes with_warnings (item_of feature) feature.warnings

abbrev pub feature_notes : Bool → Feature → List Note
feature_notes with_warnings feature = notes_by with_warnings feature feature.fault

-- of all features, in order
unfoldable pub notes_of : Bool → List Feature → List Note
notes_of with_warnings features = flat_map (feature_notes with_warnings) features

-- ---- those of records

-- what is wrong in a record of this number; of one that is valid its kinds of warning
abbrev pub record_notes_by : Bool → Item → Verdict → List Note
record_notes_by with_warnings item (Valid warnings) = warning_notes with_warnings item warnings
record_notes_by with_warnings item (Broken fault) = fault_note item fault ∷ []
record_notes_by with_warnings item (NotJson fault) = refusal_note item fault ∷ []

abbrev pub record_notes : Bool → Record → List Note
record_notes with_warnings found = record_notes_by with_warnings (Item.Record found.number) found.verdict

-- of all records, in order
unfoldable pub notes_of_records : Bool → List Record → List Note
notes_of_records with_warnings records = flat_map (record_notes with_warnings) records

-- ---- what is kept of the notes

pub record Keeps (listing : Listing) (all : List Note) : Type 0 where
  pub count : listing.count ≡ u64_saturate (length all)
  pub tally : Tallies listing.tally all
  pub notes : listing.has_failed ≡ false → listing.notes.items ≡ take listing.asked.room (drop listing.asked.skipped all)

-- and it counted so many features or records
pub record KeepsOf (listing : Listing) (all : List Note) (items : ℕ) : Type 0 where
  pub keeps : Keeps listing all
  pub items_are : listing.tally.items ≡ u64_saturate items

abbrev pub KeepsNotes : Listing → List Feature → Type 0
KeepsNotes listing features = KeepsOf listing (notes_of listing.asked.with_warnings features) (length features)

abbrev pub KeepsRecords : Listing → List Record → Type 0
KeepsRecords listing records = KeepsOf listing (notes_of_records listing.asked.with_warnings records) (length records)

-- the features of each text that these bytes are were reported to it
abbrev pub Lists : Allowed → List ℕ → Listing → Type 0
Lists limits bytes listing = (text : Text) → IsAdmitted limits text bytes → TellFindings (KeepsNotes listing) (feature_findings text)

-- what is found in the records of these bytes was reported to it
abbrev pub ListsRecords : Framing → Allowed → List ℕ → Listing → Type 0
ListsRecords framing limits bytes listing = (found : List Record) × AreAllFindings framing limits bytes found × KeepsRecords listing found

-- the features of a text, or the records where the bytes are separated into some
abbrev pub ListsIn : Option Framing → Allowed → List ℕ → Listing → Type 0
ListsIn None limits bytes listing = Lists limits bytes listing
ListsIn (Some framing) limits bytes listing = ListsRecords framing limits bytes listing

-- as above, where the reader tells its bytes
abbrev pub ListsBy : Option Framing → Allowed → Option (List ℕ) → Listing → Type 0
ListsBy framing limits None listing = ⊤
ListsBy framing limits (Some bytes) listing = ListsIn framing limits bytes listing

-- what is no JSON text
abbrev pub is_no_text : Finding → Bool
is_no_text (Finding.Text (NotJson fault)) = true
is_no_text finding = false

-- of what is no JSON text nothing is said
abbrev pub ListsFor : Option Framing → Finding → Allowed → Option (List ℕ) → Listing → Type 0
ListsFor framing (Finding.Text (NotJson fault)) limits had listing = ⊤
ListsFor framing finding limits had listing = ListsBy framing limits had listing

-- ---- what is reported of a file: the first notes, or those after so many, how many there are, and what is counted

pub record AreFirst (asked : Asked) (notes : List Note) (count : ℕ) (all : List Note) : Type 0 where
  pub first : notes ≡ take asked.room (drop asked.skipped all)
  pub count_is : count ≡ u64_saturate (length all)

-- of so many features or records, all of whose notes these are
pub record AreNotesAll (asked : Asked) (notes : List Note) (count : ℕ) (tally : Tally) (all : List Note) (items : ℕ) : Type 0 where
  pub are_first : AreFirst asked notes count all
  pub tallied : Tallies tally all
  pub items_are : tally.items ≡ u64_saturate items

abbrev pub AreFirstNotes : Asked → List Note → ℕ → Tally → List Feature → Type 0
AreFirstNotes asked notes count tally features = AreNotesAll asked notes count tally (notes_of asked.with_warnings features) (length features)

-- on the features of a text
abbrev pub AreNotesOf : Asked → List Note → ℕ → Tally → Allowed → List ℕ → Type 0
AreNotesOf asked notes count tally limits bytes =
    (text : Text) → IsAdmitted limits text bytes → TellFindings (AreFirstNotes asked notes count tally) (feature_findings text)

-- on the records of these bytes
abbrev pub AreNotesOfRecords : Framing → Asked → List Note → ℕ → Tally → Allowed → List ℕ → Type 0
AreNotesOfRecords framing asked notes count tally limits bytes =
    (found : List Record) × AreAllFindings framing limits bytes found
    × AreNotesAll asked notes count tally (notes_of_records asked.with_warnings found) (length found)

abbrev pub AreNotesIn : Option Framing → Asked → List Note → ℕ → Tally → Allowed → List ℕ → Type 0
AreNotesIn None asked notes count tally limits bytes = AreNotesOf asked notes count tally limits bytes
AreNotesIn (Some framing) asked notes count tally limits bytes = AreNotesOfRecords framing asked notes count tally limits bytes

-- as above, where the reader tells its bytes
abbrev pub AreNotesBy : Option Framing → Asked → List Note → ℕ → Tally → Allowed → Option (List ℕ) → Type 0
AreNotesBy framing asked notes count tally limits None = ⊤
AreNotesBy framing asked notes count tally limits (Some bytes) = AreNotesIn framing asked notes count tally limits bytes

-- ---- reads from a place

-- a read from a place gave the bytes there, and none only where none is there or there is no room
pub record GaveFrom (text : List ℕ) (place count : ℕ) (piece : List ℕ) : Type 0 where
  pub given : drop place text ≡ take count piece ++ drop (place + count) text
  pub none : count ≡ 0 → 0 < length piece → length text ≤ place

abbrev pub GaveBy : Option (List ℕ) → ℕ → ℕ → List ℕ → Type 0
GaveBy None place count piece = ⊤
GaveBy (Some text) place count piece = GaveFrom text place count piece

abbrev pub GivesFrom : {E : Type 0} → Option (List ℕ) → ℕ → Result ℕ E → List ℕ → Type 0
GivesFrom text place answer piece = MatchResult answer (λ count. GaveBy text place count piece) (λ _. ⊤)
