-- What a text sequence is, by its parts.
use Rattle.gj_join.proofs.Common.{Allowed, ArePartsOf, Bool, List, Sequence, SequenceJudgement, Warning, ap, arith, false, joined_judgement, length}
use Rattle.gj_join.proofs.Common.{length-append, limits_after, map, map-append, refl, shifted_by, subst, sym, true, ℕ, [], ◌++◌, ◌+◌, ◌∙◌, ◌∷◌, ◌≡◌}
use Rattle.std.proofs.Common.{append_assoc}
use Rattle.std.proofs.lemmas.List.{length-map}
use Rattle.gj_coords.specs.Fault.{fault_at}
use Rattle.gj_rules.specs.Sequence.{SequenceRecord, records_of, is_stray, all_valid, failing}
use Rattle.gj_rules.specs.SequenceJudgement.{shifted_judgement, judged_end, IsRecordJudgement, is_valid_judgement, AllValidWith, IsFirstFailingAs, IsJudgedAs}
use Rattle.gj_rules.specs.SequenceJudgement.{IsSequenceJudgement}
use Rattle.gj_rules.specs.Verdict.{Judgement, valid, broken, refused}
use Rattle.gj_join.proofs.JoinedRecords.{moved_record, records_of-parts, stray-parts, stray-second, second_begins}

-- ---- places further on, twice

pub warnings-twice : (one more : ℕ) (warnings : List Warning) → map (shifted_by (one + more)) warnings ≡ map (shifted_by more) (map (shifted_by one) warnings)
warnings-twice one more [] = refl
warnings-twice one more (w ∷ ws) =
    let place : w.place + (one + more) ≡ w.place + one + more = omega arith in
    ap (λ (p : ℕ). record { place = p; kind = w.kind } ∷ map (shifted_by (one + more)) ws) place
    ∙ ap (λ (l : List Warning). shifted_by more (shifted_by one w) ∷ l) (warnings-twice one more ws)

pub judgement-twice : (one more : ℕ) (judgement : Judgement)
    → shifted_judgement (one + more) judgement ≡ shifted_judgement more (shifted_judgement one judgement)
judgement-twice one more (valid warnings) = ap valid (warnings-twice one more warnings)
judgement-twice one more (broken fault) = ap (λ (p : ℕ). broken (fault_at p fault.rule)) (omega arith)
judgement-twice one more (refused fault) = ap (λ (p : ℕ). refused (record { place = p; cause = fault.cause })) (omega arith)

-- ---- records further on

record-moved : (levels by : ℕ) (r : SequenceRecord) (judgement : Judgement) → IsRecordJudgement levels r judgement
    → IsRecordJudgement levels (moved_record by r) (shifted_judgement by judgement)
record-moved levels by r judgement (own, is, e) = (own, is, ap (shifted_judgement by) e ∙ sym (judgement-twice r.start by (judged_end r.is_cut r.bytes own)))

all-moved : (levels by : ℕ) (records : List SequenceRecord) (warnings : List Warning) → AllValidWith levels records warnings
    → AllValidWith levels (map (moved_record by) records) (map (shifted_by by) warnings)
all-moved levels by [] warnings h = ap (map (shifted_by by)) h
all-moved levels by (r ∷ more) warnings (first, rest, of_first, of_rest, e) = (
  map (shifted_by by) first,
  map (shifted_by by) rest,
  record-moved levels by r (valid first) of_first,
  all-moved levels by more rest of_rest,
  ap (map (shifted_by by)) e ∙ map-append (shifted_by by) first rest,
)

all-append : (levels : ℕ) (records others : List SequenceRecord) (warnings more : List Warning) → AllValidWith levels records warnings
    → AllValidWith levels others more
    → AllValidWith levels (records ++ others) (warnings ++ more)
all-append levels [] others warnings more h are = subst (λ (l : List Warning). AllValidWith levels others (l ++ more)) (sym h) are
all-append levels (r ∷ records) others warnings more (first, rest, of_first, of_rest, e) are = (
  first,
  rest ++ more,
  of_first,
  all-append levels records others rest more of_rest are,
  ap (λ (l : List Warning). l ++ more) e
      ∙ append_assoc first rest more,
)

fails-moved : (by : ℕ) (judgement : Judgement) → is_valid_judgement (shifted_judgement by judgement) ≡ is_valid_judgement judgement
fails-moved by (valid warnings) = refl
fails-moved by other = refl

-- ---- both parts

after-valid : (levels by records : ℕ) (one other : List SequenceRecord) (warnings : List Warning) (number : ℕ) (judgement : Judgement)
    → AllValidWith levels one warnings
    → records ≡ length one → IsFirstFailingAs levels other number judgement
    → IsFirstFailingAs levels (one ++ map (moved_record by) other) (records + number) (shifted_judgement by judgement)
after-valid levels by records one other warnings number judgement are count h =
    let moved = moved_record by in
    let split : map moved other ≡ map moved h.before ++ moved h.failing ∷ map moved h.after =
    ap (map moved) h.split ∙ map-append moved h.before (h.failing ∷ h.after) in
    let long : length (one ++ map moved h.before) ≡ length one + length h.before =
    length-append one (map moved h.before) ∙ ap (λ (n : ℕ). length one + n) (length-map h.before moved) in
    record {
      before = one ++ map moved h.before;
      failing = moved h.failing;
      after = map moved h.after;
      split = ap (λ (l : List SequenceRecord). one ++ l) split ∙ sym (append_assoc one (map moved h.before) (moved h.failing ∷ map moved h.after));
      counted = omega (arith, long, count, h.counted);
      warnings = warnings ++ map (shifted_by by) h.warnings;
      valid = all-append levels one (map moved h.before) warnings (map (shifted_by by) h.warnings) are (all-moved levels by h.before h.warnings h.valid);
      judgement_of_it = record-moved levels by h.failing judgement h.judgement_of_it;
      fails = fails-moved by judgement ∙ h.fails;
    }

before-others : (levels : ℕ) (one more : List SequenceRecord) (number : ℕ) (judgement : Judgement) → IsFirstFailingAs levels one number judgement
    → IsFirstFailingAs levels (one ++ more) number judgement
before-others levels one more number judgement h = record {
  before = h.before;
  failing = h.failing;
  after = h.after ++ more;
  split = ap (λ (l : List SequenceRecord). l ++ more) h.split ∙ append_assoc h.before (h.failing ∷ h.after) more;
  counted = h.counted;
  warnings = h.warnings;
  valid = h.valid;
  judgement_of_it = h.judgement_of_it;
  fails = h.fails;
}

judged-joined : (stray : Bool) (levels by : ℕ) (one other : List SequenceRecord) (first second : SequenceJudgement) → IsJudgedAs stray levels one first
    → IsJudgedAs false levels other second
    → IsJudgedAs stray levels (one ++ map (moved_record by) other) (joined_judgement by first second)
judged-joined true levels by one other first second h of_second = ap (λ (j : SequenceJudgement). joined_judgement by j second) h
judged-joined false levels by one other (all_valid records warnings) (all_valid more others) h of_second = (
  all-append levels one (map (moved_record by) other) warnings (map (shifted_by by) others) h.0 (all-moved levels by other others of_second.0),
  let long : length (one ++ map (moved_record by) other) ≡ length one + length other =
      length-append one (map (moved_record by) other) ∙ ap (λ (n : ℕ). length one + n) (length-map other (moved_record by)) in
      omega (arith, long, h.1, of_second.1),
)
judged-joined false levels by one other (all_valid records warnings) (failing number judgement) h of_second =
    after-valid levels by records one other warnings number judgement h.0 h.1 of_second
judged-joined false levels by one other (failing number judgement) second h of_second =
    before-others levels one (map (moved_record by) other) number judgement h

pub sequence-joined : (limits : Allowed) (first second : List ℕ) (one other : SequenceJudgement) → ArePartsOf Sequence limits first second
    → IsSequenceJudgement limits first one
    → IsSequenceJudgement (limits_after limits (length first)) second other
    → IsSequenceJudgement limits (first ++ second) (joined_judgement (length first) one other)
sequence-joined limits first second one other parts of_first of_second =
    let begins = second_begins limits first second parts in
    let stray = stray-parts first second begins in
    let of_rest = subst (λ (s : Bool). IsJudgedAs s limits.depth (records_of (limits_after limits (length first)) second) other)
    (stray-second second begins) of_second in
    let both = judged-joined (is_stray first) limits.depth (length first) (records_of limits first)
    (records_of (limits_after limits (length first)) second) one other of_first of_rest in
    subst (λ (s : Bool). IsJudgedAs s limits.depth (records_of limits (first ++ second)) (joined_judgement (length first) one other)) (sym stray)
    (subst (λ (l : List SequenceRecord). IsJudgedAs (is_stray first) limits.depth l (joined_judgement (length first) one other))
    (sym (records_of-parts limits first second parts)) both)
