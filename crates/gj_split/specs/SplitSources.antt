-- What two writers hold of a source that was split to its end, and what it is as a whole.
use Rattle.std.specs.Prelude.{◌≡◌, ◌↔◌, ℕ, ◌<◌, List, length, Option, Some, None, Result, Ok, Err, IsTrue}
use Rattle.gj_json.specs.Limits.{Allowed}
use Rattle.gj_json.specs.Refusal.{IsAdmitted}
use Rattle.gj_json.specs.Tree.{Text}
use Rattle.gj_rules.specs.declared.records.framing.Framing.{Framing}
use Rattle.gj_rules.specs.declared.records.record.Record.{Record}
use Rattle.gj_rules.specs.declared.sequence.verdict.SeqVerdict.{SeqVerdict}
use Rattle.gj_rules.specs.declared.verdict.Verdict.{Verdict}
use Rattle.gj_rules.specs.RecordFindings.{AreAllFindings, IsWholeVerdict}
use Rattle.gj_rules.specs.Verdict.{IsVerdict}
use Rattle.gj_split.specs.Holding.{AreHeld}
use Rattle.gj_split.specs.RecordSplit.{split_records}
use Rattle.gj_split.specs.Split.{split_of}
use Rattle.gj_split.specs.declared.records.Input.{Input}
use Rattle.gj_split.specs.declared.splitter.Counts.{Counts}
use Rattle.gj_split.specs.declared.files.source.Whole.{Whole}

-- the features of a text, or the records of an input with this framing
abbrev pub IsSplit : Option Framing → Allowed → List ℕ → Option (List ℕ) → Option (List ℕ) → Counts → Type 0
IsSplit None limits bytes valid broken counts = (text : Text) → IsAdmitted limits text bytes → AreHeld (split_of bytes text) valid broken counts
IsSplit (Some framing) limits bytes valid broken counts =
    (found : List Record) → AreAllFindings framing limits bytes found → AreHeld (split_records bytes found) valid broken counts

-- its verdict, and of records whether they are cut off by the limit
abbrev pub IsWhole : Option Framing → Allowed → List ℕ → Whole → Type 0
IsWhole None limits bytes (Whole.Text verdict) = IsVerdict limits bytes verdict
IsWhole None limits bytes (Whole.Records input) = ⊥
IsWhole (Some framing) limits bytes (Whole.Text verdict) = ⊥
IsWhole (Some framing) limits bytes (Whole.Records input) =
    IsWholeVerdict framing limits bytes input.verdict × (IsTrue input.is_cut ↔ (limits.bytes < length bytes))

abbrev pub as_text : {E : Type 0} → Result Verdict E → Result Whole E
as_text (Ok verdict) = Ok (Whole.Text verdict)
as_text (Err error) = Err error

abbrev pub as_records : {E : Type 0} → Result Input E → Result Whole E
as_records (Ok input) = Ok (Whole.Records input)
as_records (Err error) = Err error

-- a sequence is valid, and has as many records as are counted for the first part
abbrev pub HasAllValid : SeqVerdict → Counts → Type 0
HasAllValid (SeqVerdict.Valid records warnings) counts = records ≡ counts.valid
HasAllValid (SeqVerdict.Record number verdict) counts = ⊥
