-- What the first reading of a file finds, of which `Is` says what is right under given limits.
use Rattle.std.specs.Prelude.{◌≡◌, ◌+◌, ℕ, List, [], ◌++◌, Option, Some, None, Result, MatchResult, ⊤}
use Rattle.std.specs.Io.Iter.{u64_saturate}
use Rattle.gj_json.specs.Limits.{Allowed}
use Rattle.gj_coords.specs.declared.warnings.Warnings.{Warnings}
use Rattle.gj_rules.specs.declared.records.framing.Framing.{Framing}
use Rattle.gj_rules.specs.declared.sequence.verdict.SeqVerdict.{SeqVerdict}
use Rattle.gj_rules.specs.declared.verdict.Verdict.{Verdict}
use Rattle.gj_rules.specs.declared.verdict.Verdict.TheVariants.{Valid}
use Rattle.gj_rules.specs.RecordFindings.{IsWholeVerdict}
use Rattle.gj_rules.specs.Sequence.{IsSequenceVerdict}
use Rattle.gj_rules.specs.Verdict.{IsVerdict, NeverValid}
use Rattle.geolint_report.specs.declared.judge.Finding.{Finding}
use Rattle.geolint_report.specs.declared.judge.Reading.{Reading}

-- a reader had all these bytes, and when it was left it had the rest
pub record IsJudged {V : Type 0} (Is : Allowed → List ℕ → V → Type 0) (limits : Allowed) (all rest : List ℕ) (verdict : V) : Type 0 where
  pub read : List ℕ
  pub split : all ≡ read ++ rest
  pub of_read : Is limits read verdict
  -- where it was left before its end, no byte after those that were read changes the verdict
  pub lasting : (rest ≡ [] → ⊥) → (more : List ℕ) → Is limits (read ++ more) verdict
  pub of_all : Is limits all verdict

-- as above, where the reader tells its bytes
abbrev pub JudgesBy : {V : Type 0} → (Allowed → List ℕ → V → Type 0) → Allowed → Option (List ℕ) → Option (List ℕ) → V → Type 0
JudgesBy Is limits None new verdict = ⊤
JudgesBy Is limits (Some all) None verdict = ⊥
JudgesBy Is limits (Some all) (Some rest) verdict = IsJudged Is limits all rest verdict

-- a text
abbrev pub JudgesRead : Allowed → Option (List ℕ) → Option (List ℕ) → Verdict → Type 0
JudgesRead = JudgesBy IsVerdict

-- a text sequence
abbrev pub JudgesSequence : Allowed → Option (List ℕ) → Option (List ℕ) → SeqVerdict → Type 0
JudgesSequence = JudgesBy IsSequenceVerdict

-- all that is found in its records, however they are separated
abbrev pub JudgesRecords : Framing → Allowed → Option (List ℕ) → Option (List ℕ) → SeqVerdict → Type 0
JudgesRecords framing = JudgesBy (IsWholeVerdict framing)

-- newline-delimited texts
abbrev pub JudgesLines : Allowed → Option (List ℕ) → Option (List ℕ) → SeqVerdict → Type 0
JudgesLines = JudgesRecords Framing.Lines

-- ---- where only yes or no is asked

-- what is kept of a verdict: of a valid text its warnings
abbrev pub valid_in : Verdict → Option Warnings
valid_in (Valid warnings) = Some warnings
valid_in _ = None

-- a reader had all these bytes, and when it was left it had the rest: they are no valid text
pub record IsNotValid (limits : Allowed) (all rest : List ℕ) : Type 0 where
  pub read : List ℕ
  pub split : all ≡ read ++ rest
  -- where it was left before its end, no bytes after those that were read make them one
  pub lasting : (rest ≡ [] → ⊥) → NeverValid limits read
  pub of_all : (warnings : Warnings) → IsVerdict limits all (Valid warnings) → ⊥

-- a valid text was read to its end
abbrev pub IsQuick : Allowed → List ℕ → List ℕ → Option Warnings → Type 0
IsQuick limits all rest (Some warnings) = (rest ≡ []) × IsVerdict limits all (Valid warnings)
IsQuick limits all rest None = IsNotValid limits all rest

-- as above, where the reader tells its bytes
abbrev pub JudgesQuickly : Allowed → Option (List ℕ) → Option (List ℕ) → Option Warnings → Type 0
JudgesQuickly limits None new valid = ⊤
JudgesQuickly limits (Some all) None valid = ⊥
JudgesQuickly limits (Some all) (Some rest) valid = IsQuick limits all rest valid

-- ---- what is found, by how the file is read

abbrev pub Finds : Reading → Allowed → Option (List ℕ) → Option (List ℕ) → Finding → Type 0
Finds Reading.Text limits old new (Finding.Text verdict) = JudgesRead limits old new verdict
Finds Reading.Quick limits old new (Finding.Text (Valid warnings)) = JudgesQuickly limits old new (Some warnings)
Finds Reading.Quick limits old new Finding.NotValid = JudgesQuickly limits old new None
Finds Reading.Sequence limits old new (Finding.Sequence verdict) = JudgesSequence limits old new verdict
Finds Reading.Lines limits old new (Finding.Sequence verdict) = JudgesLines limits old new verdict
Finds reading limits old new finding = ⊥

-- how the texts of what is read are separated, where it has records
abbrev pub framing_in : Reading → Option Framing
framing_in Reading.Sequence = Some Framing.Sequence
framing_in Reading.Lines = Some Framing.Lines
framing_in reading = None

-- ---- reads that fail

-- what a call does to a count of failed reads, of which its error is one
abbrev pub CountsFailure : {T E : Type 0} → ℕ → ℕ → Result T E → Type 0
CountsFailure old new answer = MatchResult answer (λ _. new ≡ old) (λ _. new ≡ u64_saturate (old + 1))
