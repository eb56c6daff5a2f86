-- What an input of records is as a whole, given what two parts of it are.
use Rattle.std.specs.Prelude.{◌≡◌, ℕ, zero, suc, ◌+◌, ◌≤◌, ◌<◌, ◌^◌, List, [], ◌∷◌, ◌++◌, length, map, Some}
use Rattle.gj_json.specs.Limits.{Allowed}
use Rattle.gj_coords.specs.Internal.KeptWarnings.{first_in, joined, shifted}
use Rattle.gj_coords.specs.Warnings.{shifted_by}
use Rattle.gj_coords.specs.declared.kind.Kind.{Kind}
use Rattle.gj_coords.specs.declared.warnings.Warnings.{Warnings}
use Rattle.gj_rules.specs.RecordFindings.{IsWholeVerdict}
use Rattle.gj_rules.specs.Sequence.{IsSequenceVerdict, SequenceJudgement, all_valid, failing, shifted_verdict}
use Rattle.gj_rules.specs.SequenceJudgement.{shifted_judgement}
use Rattle.gj_rules.specs.declared.records.framing.Framing.{Framing}
use Rattle.gj_rules.specs.declared.records.framing.Framing.TheVariants.{Sequence, Lines}
use Rattle.gj_rules.specs.declared.records.record.Record.{Record}
use Rattle.gj_rules.specs.declared.sequence.verdict.SeqVerdict.{SeqVerdict}
use Rattle.gj_rules.specs.declared.verdict.Verdict.{Verdict}
use Rattle.gj_rules.specs.declared.verdict.Verdict.TheVariants.{Valid, Broken, NotJson}

-- a text sequence, or newline-delimited texts
abbrev pub IsVerdictOf : Framing → Allowed → List ℕ → SeqVerdict → Type 0
IsVerdictOf Sequence = IsSequenceVerdict
IsVerdictOf Lines = IsWholeVerdict Lines

-- the first part has so many bytes
abbrev pub joined_verdict : ℕ → SeqVerdict → SeqVerdict → SeqVerdict
joined_verdict end (SeqVerdict.Valid records warnings) (SeqVerdict.Valid more others) = SeqVerdict.Valid (records + more) (joined warnings (shifted others end))
joined_verdict end (SeqVerdict.Valid records warnings) (SeqVerdict.Record number verdict) = SeqVerdict.Record (records + number) (shifted_verdict end verdict)
joined_verdict end (SeqVerdict.Record number verdict) second = SeqVerdict.Record number verdict

-- the same of a sequence, with lists of all warnings
abbrev pub joined_judgement : ℕ → SequenceJudgement → SequenceJudgement → SequenceJudgement
joined_judgement end (all_valid records warnings) (all_valid more others) = all_valid (records + more) (warnings ++ map (shifted_by end) others)
joined_judgement end (all_valid records warnings) (failing number judgement) = failing (records + number) (shifted_judgement end judgement)
joined_judgement end (failing number judgement) second = failing number judgement

-- ---- what is found in each record

-- after so many records, and so many bytes further on
abbrev pub moved_finding : (count by : ℕ) → Record → Record
moved_finding count by found = record {
  number = found.number + count;
  place = found.place + by;
  end = found.end + by;
  verdict = shifted_verdict by found.verdict;
}

-- the bytes before the first record of a sequence have the number 0, and are none
abbrev pub one_if_numbered : ℕ → ℕ
one_if_numbered zero = 0
one_if_numbered (suc n) = 1

-- how many records are among these
abbrev pub records_among : List Record → ℕ
records_among [] = 0
records_among (found ∷ more) = one_if_numbered found.number + length more

-- those of both parts: the numbers of the second count on, and its places begin where the first ends
abbrev pub joined_findings : (end : ℕ) → List Record → List Record → List Record
joined_findings end found more = found ++ map (moved_finding (records_among found) end) more

-- ---- what fits into 64 bits

abbrev pub greatest_place : ℕ
greatest_place = 2 ^ 61

abbrev pub WarningsFit : ℕ → Warnings → Type 0
WarningsFit end warnings = (kind : Kind) (place : ℕ) → first_in kind warnings ≡ Some place → place + end ≤ greatest_place

abbrev pub PlacesFit : ℕ → Verdict → Type 0
PlacesFit end (Valid warnings) = WarningsFit end warnings
PlacesFit end (Broken fault) = fault.place + end ≤ greatest_place
PlacesFit end (NotJson fault) = fault.place + end ≤ greatest_place

-- so many records came before
abbrev pub NumbersFit : ℕ → ℕ → SeqVerdict → Type 0
NumbersFit records end (SeqVerdict.Valid more warnings) = (records + more < 2 ^ 64) × WarningsFit end warnings
NumbersFit records end (SeqVerdict.Record number verdict) = (records + number < 2 ^ 64) × PlacesFit end verdict

abbrev pub Fit : ℕ → SeqVerdict → SeqVerdict → Type 0
Fit end (SeqVerdict.Valid records warnings) second = NumbersFit records end second
Fit end (SeqVerdict.Record number verdict) second = Unit {0}
