-- What the reading of a sequence gives, its report, and what a run over it does.
use Rattle.std.specs.Prelude.{◌≡◌, ℕ, Bool, List, ◌++◌, length, Option, None, Result, Ok, Err, codes}
use Rattle.std.specs.Fmt.{decimal}
use Rattle.std.specs.Io.KnownBytes.{Appends, Consumes, Keeps}
use Rattle.gj_json.specs.Limits.{Allowed}
use Rattle.gj_rules.specs.Sequence.{SequenceJudgement, all_valid, failing}
use Rattle.gj_rules.specs.SequenceJudgement.{IsSequenceJudgement}
use Rattle.gj_rules.specs.Verdict.{valid}
use Rattle.geolint.specs.declared.fault.RunFault.{RunFault}
use Rattle.geolint.specs.declared.fault.RunFault.TheVariants.{Read, Write}
use Rattle.geolint.specs.declared.options.Options.{Options}
use Rattle.geolint.specs.declared.options.Outcome.{Outcome}
use Rattle.geolint.specs.declared.options.Outcome.TheVariants.{Fail}
use Rattle.geolint.specs.Judged.{JudgesBy}
use Rattle.geolint.specs.Report.{report, warning_lines}
use Rattle.geolint.specs.Run.{outcome_of}
use Rattle.geolint.specs.Written.{IsFrontOut}

-- ---- the reading

-- what was read of a sequence is this, as are all the bytes of the reader
abbrev pub JudgesSequence : Allowed → Option (List ℕ) → Option (List ℕ) → SequenceJudgement → Type 0
JudgesSequence = JudgesBy IsSequenceJudgement

-- ---- the report

abbrev pub record_line : ℕ → List ℕ
record_line number = codes "record " ++ (decimal number ++ codes "\n")

abbrev pub count_line : ℕ → List ℕ
count_line count = codes "records " ++ (decimal count ++ codes "\n")

-- how many records there are, and the warnings of all of them; or the first record that is not valid, and what it is
abbrev pub sequence_report : SequenceJudgement → List ℕ
sequence_report (all_valid count warnings) = codes "valid\n" ++ (count_line count ++ warning_lines warnings)
sequence_report (failing number judgement) = record_line number ++ report judgement None

-- a sequence passes where its records are valid; where the run is strict, only without a warning
abbrev pub sequence_outcome : Bool → SequenceJudgement → Outcome
sequence_outcome strict (all_valid count warnings) = outcome_of strict (valid warnings)
sequence_outcome strict (failing number judgement) = Fail

-- ---- the run

-- `had` and `left` are what the reader has to give before and after, `held` and `holds` what the writer has taken
abbrev pub SequenceRuns : Options → Option (List ℕ) → Option (List ℕ) → Option (List ℕ) → Option (List ℕ) → Result Outcome RunFault → Type 0
-- the whole report went out
SequenceRuns options had left held holds (Ok outcome) =
    (judgement : SequenceJudgement) × JudgesSequence options.limits had left judgement
    × Appends held holds (sequence_report judgement) × (outcome ≡ sequence_outcome options.strict judgement)
-- a prefix of it did
SequenceRuns options had left held holds (Err (Write fault)) =
    (judgement : SequenceJudgement) × JudgesSequence options.limits had left judgement
    × IsFrontOut held holds (sequence_report judgement) fault.written
-- so many bytes came, and nothing went out
SequenceRuns options had left held holds (Err (Read fault)) = (read : List ℕ) × Consumes had left read × (length read ≡ fault.offset) × Keeps held holds
