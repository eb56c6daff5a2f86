-- What a text sequence is, with a list of the warnings of all its records in turn: the verdict of `Sequence`, as reported of these.
use Rattle.std.specs.Prelude.{◌≡◌, ℕ, ◌+◌, List, [], ◌∷◌, ◌++◌, length, map, Bool, true, false}
use Rattle.gj_json.specs.Limits.{Allowed}
use Rattle.gj_json.specs.declared.fault.Cause.{Cause}
use Rattle.gj_json.specs.declared.fault.Cause.TheVariants.{Syntax, Truncated, Depth, Length}
use Rattle.gj_coords.specs.Fault.{fault_at}
use Rattle.gj_coords.specs.Warnings.{Warning, shifted_by}
use Rattle.gj_rules.specs.Sequence.{SequenceRecord, records_of, is_stray, ends_in_line_feed, own_limits, SequenceJudgement, all_valid, failing}
use Rattle.gj_rules.specs.Verdict.{Judgement, valid, broken, refused, IsJudgement}

-- ---- what one record is

-- each place so many bytes further on
abbrev pub shifted_judgement : ℕ → Judgement → Judgement
shifted_judgement by (valid warnings) = valid (map (shifted_by by) warnings)
shifted_judgement by (broken fault) = broken (fault_at (fault.place + by) fault.rule)
shifted_judgement by (refused fault) = refused (record { place = fault.place + by; cause = fault.cause })

abbrev pub refused_at : ℕ → Cause → Judgement
refused_at place cause = refused (record { place = place; cause = cause })

-- a text that is not ended by LF is truncated there; a refusal comes before that
abbrev pub judged_if_ended : Bool → ℕ → Judgement → Judgement
judged_if_ended true end judgement = judgement
judged_if_ended false end (refused fault) = refused fault
judged_if_ended false end (valid warnings) = refused_at end Truncated
judged_if_ended false end (broken fault) = refused_at end Truncated

-- where the limit cuts a record off, a refusal by one of its bytes stands, and all else is too long
abbrev pub cut_refusal : Cause → ℕ → ℕ → Judgement
cut_refusal Syntax place end = refused_at place Syntax
cut_refusal Depth place end = refused_at place Depth
cut_refusal Truncated place end = refused_at end Length
cut_refusal Length place end = refused_at end Length

abbrev pub judged_if_cut : ℕ → Judgement → Judgement
judged_if_cut end (refused fault) = cut_refusal fault.cause fault.place end
judged_if_cut end (valid warnings) = refused_at end Length
judged_if_cut end (broken fault) = refused_at end Length

abbrev pub judged_end : Bool → List ℕ → Judgement → Judgement
judged_end true bytes judgement = judged_if_cut (length bytes) judgement
judged_end false bytes judgement = judged_if_ended (ends_in_line_feed bytes) (length bytes) judgement

-- what a record is: its bytes by themselves, as the record ends, with places from the start of the input
abbrev pub IsRecordJudgement : ℕ → SequenceRecord → Judgement → Type 0
IsRecordJudgement levels r judgement =
    (own : Judgement) × IsJudgement (own_limits levels r.bytes) r.bytes own × (judgement ≡ shifted_judgement r.start (judged_end r.is_cut r.bytes own))

-- ---- what a sequence is

abbrev pub is_valid_judgement : Judgement → Bool
is_valid_judgement (valid warnings) = true
is_valid_judgement (broken fault) = false
is_valid_judgement (refused fault) = false

-- all records are valid, and these are the warnings of each in turn
abbrev pub AllValidWith : ℕ → List SequenceRecord → List Warning → Type 0
AllValidWith levels [] warnings = warnings ≡ []
AllValidWith levels (r ∷ more) warnings =
    (first rest : List Warning) × IsRecordJudgement levels r (valid first) × AllValidWith levels more rest × (warnings ≡ first ++ rest)

-- the first record that is not valid, counted from 1
pub record IsFirstFailingAs (levels : ℕ) (records : List SequenceRecord) (number : ℕ) (judgement : Judgement) : Type 0 where
  pub before : List SequenceRecord
  pub failing : SequenceRecord
  pub after : List SequenceRecord
  pub split : records ≡ before ++ failing ∷ after
  pub counted : number ≡ length before + 1
  pub warnings : List Warning
  pub valid : AllValidWith levels before warnings
  pub judgement_of_it : IsRecordJudgement levels failing judgement
  pub fails : is_valid_judgement judgement ≡ false

-- by its records, or by a byte before the first of them
abbrev pub IsJudgedAs : Bool → ℕ → List SequenceRecord → SequenceJudgement → Type 0
IsJudgedAs true levels records judgement = judgement ≡ failing 0 (refused_at 0 Syntax)
IsJudgedAs false levels records (all_valid count warnings) = AllValidWith levels records warnings × (count ≡ length records)
IsJudgedAs false levels records (failing number judgement) = IsFirstFailingAs levels records number judgement

abbrev pub IsSequenceJudgement : Allowed → List ℕ → SequenceJudgement → Type 0
IsSequenceJudgement limits bytes judgement = IsJudgedAs (is_stray bytes) limits.depth (records_of limits bytes) judgement
