-- What a further reading has reached.
use Rattle.std.specs.Prelude.{◌≡◌, ℕ, Bool, true, false, List, take, Option, Some, None, ⊤}
use Rattle.gj_json.specs.Limits.{Allowed}
use Rattle.gj_json.specs.Refusal.{IsAdmitted}
use Rattle.gj_json.specs.Tree.{Text}
use Rattle.gj_rules.specs.declared.records.Records.{Records}
use Rattle.gj_rules.specs.declared.records.framing.Framing.{Framing}
use Rattle.gj_rules.specs.declared.records.record.Record.{Record}
use Rattle.gj_rules.specs.FeatureFindings.{findings_by}
use Rattle.gj_rules.specs.FeatureLinter.{StandsFor as LinterStandsFor, limits_of as linter_limits, sink_of}
use Rattle.gj_rules.specs.FeaturesTold.{TellFindings}
use Rattle.gj_rules.specs.RecordFindings.{AreFindingsSoFar}
use Rattle.gj_rules.specs.RecordsStand.{StandsFor as RecordsStandFor, limits_of as records_limits, framing_of}
use Rattle.geolint_report.specs.declared.every.further.Further.{Further}
use Rattle.geolint_report.specs.declared.every.further.Reader.{Reader}
use Rattle.geolint_report.specs.declared.every.further.Reader.TheVariants.{OfText, OfRecords}
use Rattle.geolint_report.specs.declared.every.listing.Listing.{Listing}
use Rattle.geolint_report.specs.Every.{KeepsNotes, KeepsRecords}
use Rattle.geolint_report.specs.Further.{AreFirstFindings}

-- what was found up to some byte was reported to the listing
abbrev pub ListsFirst : Option Framing → Allowed → List ℕ → Listing → Type 0
ListsFirst None limits bytes listing =
    (n : ℕ) × ((text : Text) → IsAdmitted limits text bytes → TellFindings (KeepsNotes listing) (findings_by n text))
ListsFirst (Some framing) limits bytes listing = (found : List Record) × AreFirstFindings framing limits bytes found × KeepsRecords listing found

-- the records were fed these bytes, and have reported this to the listing
pub record AreReported (framing : Framing) (limits : Allowed) (bytes : List ℕ) (records : Records) (listing : Listing) (found : List Record) : Type 0 where
  pub stands : RecordsStandFor records bytes found
  pub framing_is : framing_of records ≡ framing
  pub limits_are : records_limits records ≡ limits
  pub findings : AreFindingsSoFar framing limits bytes found
  pub keeps : KeepsRecords listing found

abbrev pub RecordsStandIn : Bool → Framing → Allowed → List ℕ → ℕ → Records → Listing → Type 0
RecordsStandIn false framing limits text offset records listing =
    (found : List Record) × AreReported framing limits (take offset text) records listing found
RecordsStandIn true framing limits text offset records listing = ListsFirst (Some framing) limits text listing

abbrev pub ReaderStandsIn : Option Framing → Allowed → List ℕ → ℕ → Bool → Reader → Type 0
ReaderStandsIn None limits text offset has_ended (OfText linter) =
    LinterStandsFor KeepsNotes linter (take offset text) × (linter_limits linter ≡ limits)
ReaderStandsIn (Some framing) limits text offset has_ended (OfRecords records listing) = RecordsStandIn has_ended framing limits text offset records listing
ReaderStandsIn _ limits text offset has_ended _ = ⊥

-- it has read the first bytes of this text
abbrev pub StandsIn : Option Framing → Allowed → List ℕ → Further → Type 0
StandsIn framing limits text further = ReaderStandsIn framing limits text further.offset further.has_ended further.reader

abbrev pub StandsBy : Option Framing → Allowed → Option (List ℕ) → Further → Type 0
StandsBy framing limits None further = ⊤
StandsBy framing limits (Some text) further = StandsIn framing limits text further

abbrev pub listing_by : Reader → Listing
listing_by (OfText linter) = sink_of linter
listing_by (OfRecords records listing) = listing

abbrev pub listing_of : Further → Listing
listing_of further = listing_by further.reader
