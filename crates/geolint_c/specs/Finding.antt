-- What is found in a feature or in a record, and in an input of records as a whole, in plain numbers.
use Rattle.std.specs.Prelude.{◌≡◌, ℕ, ◌+◌, List, [], Option, Some, None, Bool, false, if◌then◌else◌}
use Rattle.std.specs.Io.Iter.{u64_saturate}
use Rattle.gj_coords.specs.declared.fault.Fault.{Fault}
use Rattle.gj_coords.specs.Warnings.{Warning}
use Rattle.gj_rules.specs.FeatureFindings.{FeatureFinding}
use Rattle.gj_rules.specs.declared.feature.Feature.{Feature}
use Rattle.gj_rules.specs.Sequence.{SequenceJudgement, all_valid, failing, SequenceSays}
use Rattle.gj_rules.specs.Verdict.{Judgement, Says}
use Rattle.gj_rules.specs.declared.records.record.Record.{Record}
use Rattle.gj_rules.specs.declared.sequence.verdict.SeqVerdict.{SeqVerdict}
use Rattle.geolint_c.specs.declared.finding.Finding.{Finding}
use Rattle.geolint_c.specs.declared.finding.Progress.{Progress}
use Rattle.geolint_c.specs.declared.finding.Whole.{Whole}
use Rattle.geolint_c.specs.declared.report.Report.{Report}
use Rattle.geolint_c.specs.Report.{valid_report, broken_report, report_of, no_report, place_or_zero}

-- ---- a piece

-- so many of its bytes were taken, with this status; whether a finding is ready
abbrev pub progress_of : ℕ → ℕ → Bool → Progress
progress_of taken status ready = record { taken = taken; status = status; ready = if ready then 1 else 0 }

-- nothing was taken, and why
abbrev pub no_progress : ℕ → Progress
no_progress status = progress_of 0 status false

-- ---- a feature

-- the place after a closing bracket, as far as 64 bits go
abbrev pub end_or_zero : Option ℕ → ℕ
end_or_zero None = 0
end_or_zero (Some close) = u64_saturate (close + 1)

-- broken by the least of its faults, or valid with its warnings
abbrev pub feature_report : Option Fault → List Warning → Report
feature_report None warnings = valid_report warnings
feature_report (Some fault) warnings = broken_report fault

-- what is found in a feature that was reported, with this report
abbrev pub finding_with : Feature → Report → Finding
finding_with told report = record { number = told.index; place = told.place; end = end_or_zero told.close; id = place_or_zero told.id; report = report }

-- The end is that of an element that is an object or an array, after its closing bracket; otherwise it is 0.
pub record IsFeature (finding : FeatureFinding) (told : Finding) : Type 0 where
  pub number : told.number ≡ finding.index
  pub place : told.place ≡ finding.place
  pub end : told.end ≡ end_or_zero finding.close
  pub id : told.id ≡ place_or_zero finding.id
  pub report : told.report ≡ feature_report finding.fault finding.warnings

-- ---- a record

-- in a record of this number, which begins and ends there, with this report
abbrev pub record_with : ℕ → ℕ → ℕ → Report → Finding
record_with number place end report = record { number = number; place = place; end = end; id = 0; report = report }

-- nothing is found in it
abbrev pub clean_finding : ℕ → ℕ → ℕ → Finding
clean_finding number place end = record_with number place end (valid_report [])

pub record IsRecord (found : Record) (told : Finding) : Type 0 where
  pub number : told.number ≡ found.number
  pub place : told.place ≡ found.place
  pub end : told.end ≡ found.end
  pub id : told.id ≡ 0
  pub report : (judgement : Judgement) → Says found.verdict judgement → told.report ≡ report_of judgement

-- no finding, and why there is none
abbrev pub no_finding : ℕ → Finding
no_finding status = record_with 0 0 0 (no_report status)

-- ---- the whole

abbrev pub whole_of : SequenceJudgement → Whole
whole_of (all_valid records warnings) = record { report = valid_report warnings; number = records }
whole_of (failing number judgement) = record { report = report_of judgement; number = number }

abbrev pub IsWhole : SeqVerdict → Whole → Type 0
IsWhole verdict told = (judgement : SequenceJudgement) → SequenceSays verdict judgement → told ≡ whole_of judgement

abbrev pub no_whole : ℕ → Whole
no_whole status = record { report = no_report status; number = 0 }
