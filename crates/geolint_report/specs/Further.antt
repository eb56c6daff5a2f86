-- What a further reading of a file reports.
use Rattle.std.specs.Prelude.{◌≡◌, ◌⊎◌, ℕ, List, take, drop, Option, Some, None, ⊤}
use Rattle.gj_json.specs.Limits.{Allowed}
use Rattle.gj_json.specs.Refusal.{IsAdmitted}
use Rattle.gj_json.specs.Tree.{Text}
use Rattle.gj_rules.specs.declared.records.framing.Framing.{Framing}
use Rattle.gj_rules.specs.declared.records.record.Record.{Record}
use Rattle.gj_rules.specs.FeatureFindings.{findings_by}
use Rattle.gj_rules.specs.FeaturesTold.{TellFindings}
use Rattle.gj_rules.specs.RecordFindings.{AreAllFindings, AreFindingsSoFar}
use Rattle.geolint_report.specs.declared.every.listing.Asked.{Asked}
use Rattle.geolint_report.specs.declared.every.listing.Note.{Note}
use Rattle.geolint_report.specs.Every.{notes_of, notes_of_records}

-- of all these notes those that are asked for
abbrev pub AreAsked : Asked → List Note → List Note → Type 0
AreAsked asked all notes = notes ≡ take asked.room (drop asked.skipped all)

-- of the features that are complete in the first n bytes of a text: they are its first (`features_so_far` of gj_rules)
abbrev pub AreNextOf : Asked → Allowed → List ℕ → List Note → Type 0
AreNextOf asked limits bytes notes = (n : ℕ) × ((text : Text) → IsAdmitted limits text bytes
    → TellFindings (λ features. AreAsked asked (notes_of asked.with_warnings features) notes) (findings_by n text))

-- what is found in all records of these bytes, or in those that have ended in the first n bytes
abbrev pub AreFirstFindings : Framing → Allowed → List ℕ → List Record → Type 0
AreFirstFindings framing limits bytes found =
    AreAllFindings framing limits bytes found ⊎ ((n : ℕ) × AreFindingsSoFar framing limits (take n bytes) found)

abbrev pub AreNextOfRecords : Framing → Asked → Allowed → List ℕ → List Note → Type 0
AreNextOfRecords framing asked limits bytes notes =
    (found : List Record) × AreFirstFindings framing limits bytes found × AreAsked asked (notes_of_records asked.with_warnings found) notes

abbrev pub AreNextIn : Option Framing → Asked → Allowed → List ℕ → List Note → Type 0
AreNextIn None asked limits bytes notes = AreNextOf asked limits bytes notes
AreNextIn (Some framing) asked limits bytes notes = AreNextOfRecords framing asked limits bytes notes

-- as above, where the source tells its bytes
abbrev pub AreNextBy : Option Framing → Asked → Allowed → Option (List ℕ) → List Note → Type 0
AreNextBy framing asked limits None notes = ⊤
AreNextBy framing asked limits (Some bytes) notes = AreNextIn framing asked limits bytes notes
