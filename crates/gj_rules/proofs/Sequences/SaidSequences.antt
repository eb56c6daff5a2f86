-- The verdict of a sequence says what the sequence is, and no other verdict does.
use Rattle.gj_rules.proofs.Common.{AllValid, Bool, Broken, Cause, Depth, IsJudgedBy, IsRecordVerdict, Judgement, Length, List, NotJson, SeqVerdict}
use Rattle.gj_rules.proofs.Common.{SequenceRecord, Syntax, Truncated, Valid, Verdict, Warning, Warnings, ap, broken, cut_fault, ends_in_line_feed}
use Rattle.gj_rules.proofs.Common.{false, if_ended, is_valid, length, not_json, record_end, refl, shifted_verdict, subst, sym, true, valid}
use Rattle.gj_rules.proofs.Common.{warnings_of, warnings_of-append, warnings_of_none, [], ◌++◌, ◌∙◌, ◌∷◌}
use Rattle.std.proofs.Common.{◌≡◌, ℕ}
use Rattle.gj_coords.proofs.Lists.ListsStoodFor.{joined_stands}
use Rattle.gj_coords.proofs.Lists.ShiftedWarnings.{shifted_stands}
use Rattle.gj_rules.specs.Internal.JudgementLaws.{said, says}
use Rattle.gj_rules.specs.Sequence.{if_cut}
use Rattle.gj_rules.specs.Sequence.{SequenceJudgement, all_valid, failing, SequenceSays}
use Rattle.gj_rules.specs.SequenceJudgement.{shifted_judgement, refused_at, judged_if_ended, cut_refusal, judged_if_cut, judged_end, IsRecordJudgement}
use Rattle.gj_rules.specs.SequenceJudgement.{is_valid_judgement, AllValidWith, IsJudgedAs}
use Rattle.gj_rules.specs.Verdict.{refused, Says}

-- ---- the one verdict that says a judgement

abbrev told : Judgement → Verdict
told (valid warnings) = Valid (warnings_of warnings)
told (broken fault) = Broken fault
told (refused fault) = NotJson fault

told_says : (judgement : Judgement) → Says (told judgement) judgement
told_says (valid warnings) = refl
told_says other = refl

told_is : (verdict : Verdict) (judgement : Judgement) → Says verdict judgement → verdict ≡ told judgement
told_is (Valid kept) (valid warnings) h = ap Valid h
told_is (Broken fault) (broken other) h = ap Broken h
told_is (NotJson fault) (refused other) h = ap NotJson h
told_is another third h = elim h [ ]

valid_alike : (judgement : Judgement) → is_valid (told judgement) ≡ is_valid_judgement judgement
valid_alike (valid warnings) = refl
valid_alike other = refl

listed : (kept : Warnings) (judgement : Judgement) → Valid kept ≡ told judgement → (warnings : List Warning) × (judgement ≡ valid warnings)
    × (kept ≡ warnings_of warnings)
listed kept (valid warnings) h = (warnings, refl, cc)
listed kept other h = cc

-- ---- a record

shifted_told : (by : ℕ) (judgement : Judgement) → shifted_verdict by (told judgement) ≡ told (shifted_judgement by judgement)
shifted_told by (valid warnings) = ap Valid (shifted_stands (warnings_of warnings) by warnings refl)
shifted_told by other = refl

ended_told : (ended : Bool) (end : ℕ) (judgement : Judgement) → if_ended ended end (told judgement) ≡ told (judged_if_ended ended end judgement)
ended_told true end judgement = refl
ended_told false end (valid warnings) = refl
ended_told false end (broken fault) = refl
ended_told false end (refused fault) = refl

cause_told : (cause : Cause) (place end : ℕ) → cut_fault cause place end ≡ told (cut_refusal cause place end)
cause_told Syntax place end = refl
cause_told other place end = refl

cut_told : (end : ℕ) (judgement : Judgement) → if_cut end (told judgement) ≡ told (judged_if_cut end judgement)
cut_told end (valid warnings) = refl
cut_told end (broken fault) = refl
cut_told end (refused fault) = cause_told fault.cause fault.place end

end_told : (is_cut : Bool) (bytes : List ℕ) (judgement : Judgement) → record_end is_cut bytes (told judgement) ≡ told (judged_end is_cut bytes judgement)
end_told true bytes judgement = cut_told (length bytes) judgement
end_told false bytes judgement = ended_told (ends_in_line_feed bytes) (length bytes) judgement

record_told : (r : SequenceRecord) (own : Judgement)
    → shifted_verdict r.start (record_end r.is_cut r.bytes (told own)) ≡ told (shifted_judgement r.start (judged_end r.is_cut r.bytes own))
record_told r own = ap (shifted_verdict r.start) (end_told r.is_cut r.bytes own) ∙ shifted_told r.start (judged_end r.is_cut r.bytes own)

record_judged : (levels : ℕ) (r : SequenceRecord) (verdict : Verdict) → IsRecordVerdict levels r verdict → (judgement : Judgement)
    × IsRecordJudgement levels r judgement × (verdict ≡ told judgement)
record_judged levels r verdict (own, is, e) =
    let (judgement, of_it, says_it) = said _ r.bytes own is in (
      shifted_judgement r.start (judged_end r.is_cut r.bytes judgement),
      (judgement, of_it, refl),
      e ∙ (ap (λ (v : Verdict). shifted_verdict r.start (record_end r.is_cut r.bytes v)) (told_is own judgement says_it) ∙ record_told r judgement),
    )

record_verdict : (levels : ℕ) (r : SequenceRecord) (judgement : Judgement) → IsRecordJudgement levels r judgement → IsRecordVerdict levels r (told judgement)
record_verdict levels r judgement (own, is, e) = (told own, says _ r.bytes (told own) own is (told_says own), ap told e ∙ sym (record_told r own))

-- ---- all of them

all_judged : (levels : ℕ) (records : List SequenceRecord) (kept : Warnings) → AllValid levels records kept → (warnings : List Warning)
    × AllValidWith levels records warnings × (kept ≡ warnings_of warnings)
all_judged levels [] kept h = ([], refl, h ∙ sym warnings_of_none)
all_judged levels (r ∷ more) kept (first, rest, of_first, of_rest, e) =
    let (judgement, is, same) = record_judged levels r (Valid first) of_first in
    let (warnings, valid_with, stands) = listed first judgement same in
    let (others, are, others_stand) = all_judged levels more rest of_rest in (
      warnings ++ others,
      (warnings, others, subst (IsRecordJudgement levels r) valid_with is, are, refl),
      e
          ∙ joined_stands first rest warnings others stands others_stand,
    )

all_verdicts : (levels : ℕ) (records : List SequenceRecord) (warnings : List Warning) → AllValidWith levels records warnings
    → AllValid levels records (warnings_of warnings)
all_verdicts levels [] warnings h = ap warnings_of h ∙ warnings_of_none
all_verdicts levels (r ∷ more) warnings (first, rest, of_first, of_rest, e) = (
  warnings_of first,
  warnings_of rest,
  record_verdict levels r (valid first) of_first,
  all_verdicts levels more rest of_rest,
  ap warnings_of e
      ∙ warnings_of-append first rest,
)

pub sequence_said : (stray : Bool) (levels : ℕ) (records : List SequenceRecord) (verdict : SeqVerdict) → IsJudgedBy stray levels records verdict
    → (judgement : SequenceJudgement) × IsJudgedAs stray levels records judgement × SequenceSays verdict judgement
sequence_said true levels records verdict h =
    (failing 0 (refused_at 0 Syntax), refl, subst (λ (v : SeqVerdict). SequenceSays v (failing 0 (refused_at 0 Syntax))) (sym h) (refl, refl))
sequence_said false levels records (SeqVerdict.Valid count kept) h =
    let (warnings, are, stands) = all_judged levels records kept h.0 in (all_valid count warnings, (are, h.1), (refl, stands))
sequence_said false levels records (SeqVerdict.Record number verdict) h =
    let (judgement, is, same) = record_judged levels h.failing verdict h.verdict_of_it in
    let (warnings, are, stands) = all_judged levels h.before h.warnings h.valid in (
      failing number judgement,
      record {
        before = h.before;
        failing = h.failing;
        after = h.after;
        split = h.split;
        counted = h.counted;
        warnings = warnings;
        valid = are;
        judgement_of_it = is;
        fails = sym (valid_alike judgement) ∙ (ap is_valid (sym same) ∙ h.fails);
      },
      (refl, subst (λ (v : Verdict). Says v judgement) (sym same) (told_says judgement)),
    )

stray_told : (verdict : SeqVerdict) → SequenceSays verdict (failing 0 (refused_at 0 Syntax)) → verdict ≡ SeqVerdict.Record 0 (not_json 0 Syntax)
stray_told (SeqVerdict.Valid count kept) h = elim h [ ]
stray_told (SeqVerdict.Record number verdict) h =
    ap (λ (n : ℕ). SeqVerdict.Record n verdict) h.0 ∙ ap (SeqVerdict.Record 0) (told_is verdict (refused_at 0 Syntax) h.1)

pub sequence_is : (stray : Bool) (levels : ℕ) (records : List SequenceRecord) (verdict : SeqVerdict) (judgement : SequenceJudgement)
    → IsJudgedAs stray levels records judgement → SequenceSays verdict judgement → IsJudgedBy stray levels records verdict
sequence_is true levels records verdict judgement is h = stray_told verdict (subst (SequenceSays verdict) is h)
sequence_is false levels records (SeqVerdict.Valid count kept) (all_valid number warnings) is h =
    (subst (AllValid levels records) (sym h.1) (all_verdicts levels records warnings is.0), h.0 ∙ is.1)
sequence_is false levels records (SeqVerdict.Record number verdict) (failing counted judgement) is h =
    let same = told_is verdict judgement h.1 in record {
      before = is.before;
      failing = is.failing;
      after = is.after;
      split = is.split;
      counted = h.0 ∙ is.counted;
      warnings = warnings_of is.warnings;
      valid = all_verdicts levels is.before is.warnings is.valid;
      verdict_of_it = subst (IsRecordVerdict levels is.failing) (sym same) (record_verdict levels is.failing judgement is.judgement_of_it);
      fails = ap is_valid same ∙ (valid_alike judgement ∙ is.fails);
    }
sequence_is false levels records other another is h = elim h [ ]
