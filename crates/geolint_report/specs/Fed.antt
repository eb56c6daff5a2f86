-- What the bytes that were fed leave open, and what they decide.
use Rattle.std.specs.Prelude.{◌≡◌, ◌≤◌, ℕ, List, ◌++◌, length}
use Rattle.gj_json.specs.Limits.{Allowed}
use Rattle.gj_json.specs.Refusal.{IsRefusal}
use Rattle.gj_json.specs.Text.{IsViableWithin}
use Rattle.gj_json.specs.declared.fault.JsonFault.{JsonFault}
use Rattle.gj_rules.specs.declared.records.framing.Framing.TheVariants.{Lines}
use Rattle.gj_rules.specs.declared.records.record.Record.{Record}
use Rattle.gj_rules.specs.declared.records.Records.{Records}
use Rattle.gj_rules.specs.declared.sequence.verdict.SeqVerdict.{SeqVerdict}
use Rattle.gj_rules.specs.Doomed.{BeginNoGeoJson}
use Rattle.gj_rules.specs.RecordFindings.{IsWholeVerdict}
use Rattle.gj_rules.specs.RecordsStand.{StandsFor as RecordsStandFor, framing_of}
use Rattle.gj_rules.specs.SequenceStands.{IsSettled}

-- no byte of these is refused
abbrev pub ShowNoRefusal : Allowed → List ℕ → Type 0
ShowNoRefusal limits bytes = IsViableWithin limits.depth bytes × (length bytes ≤ limits.bytes)

-- one of them is
abbrev pub IsRefused : Allowed → List ℕ → Type 0
IsRefused limits bytes = (fault : JsonFault) × ((more : List ℕ) → IsRefusal limits (bytes ++ more) fault)

-- nothing in these bytes shows that the input is not valid: neither a refusal nor what the members of the text's object are
abbrev pub ShowNoFault : Allowed → List ℕ → Type 0
ShowNoFault limits bytes = IsViableWithin limits.depth bytes × (length bytes ≤ limits.bytes) × (BeginNoGeoJson limits.depth bytes → ⊥)

-- one of them decides that a record of a sequence is not valid
abbrev pub IsDecidedSequence : Allowed → List ℕ → Type 0
IsDecidedSequence limits bytes = (place : ℕ) × (verdict : SeqVerdict) × IsSettled limits bytes place verdict

-- ---- newline-delimited texts

abbrev pub AreLines : Records → List ℕ → Type 0
AreLines lines bytes = ((found : List Record) × RecordsStandFor lines bytes found) × (framing_of lines ≡ Lines)

abbrev pub FitWithin : Allowed → List ℕ → Type 0
FitWithin limits bytes = length bytes ≤ limits.bytes

-- one of the lines decides what they are
abbrev pub AreDecidedLines : Allowed → List ℕ → Type 0
AreDecidedLines limits bytes = (verdict : SeqVerdict) × ((more : List ℕ) → IsWholeVerdict Lines limits (bytes ++ more) verdict)
