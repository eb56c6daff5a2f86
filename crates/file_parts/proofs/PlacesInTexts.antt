-- Where a joiner stands in a text that it is fed.
use Rattle.std.proofs.Common.{arith, ◌≡◌, ◌+◌, ◌-◌, ◌<◌, ◌≤◌, ℕ, refl, ap, sym, subst, ◌∙◌, List, [], ◌++◌, length, take, drop, Some, None, Option, Bool, true, false}
use Rattle.std.specs.Prelude.{IfSome, IsTrue, nat_lt, if◌then◌else◌}
use Rattle.std.proofs.Common.{get_or}
use Rattle.std.specs.List.{All}
use Rattle.std.proofs.lemmas.Bool.Decides.{nat_tests}
use Rattle.std.proofs.lemmas.Option.{same_Some}
use Rattle.std.proofs.lemmas.List.{length-take-le, take_all, take-append-drop}
use Rattle.std.proofs.Math.Seq.{take-add}
use Rattle.gj_json.specs.Limits.{Allowed}
use Rattle.gj_json.specs.Refusal.{IsRefusal}
use Rattle.gj_json.specs.declared.fault.JsonFault.{JsonFault}
use Rattle.gj_rules.specs.Linter.{Answers}
use Rattle.gj_rules.specs.Verdict.{IsVerdict}
use Rattle.gj_rules.specs.declared.linter.Progress.{Progress}
use Rattle.gj_rules.specs.declared.sequence.verdict.SeqVerdict.{SeqVerdict}
use Rattle.gj_rules.specs.declared.verdict.Verdict.{Verdict}
use Rattle.gj_join.specs.Joiner.{Joins, limits_of, refusal_of}
use Rattle.gj_join.specs.Runs.{IsSumOf, StandsAfterFeature}
use Rattle.gj_join.specs.declared.joiner.Joiner.{Joiner}
use Rattle.gj_join.specs.declared.sum.FeatureSum.{FeatureSum}
use Rattle.geolint_report.specs.Every.{GaveBy}
use Rattle.file_parts.specs.Cuts.{bytes_between}
use Rattle.file_parts.specs.Internal.Reading.{IsAt, HasReached}
use Rattle.file_parts.specs.declared.checked.CheckedPart.{CheckedPart}
use Rattle.file_parts.specs.Sums.{IsSumIn, IsTruePart, sum_by, sum_of}
use Rattle.file_parts.proofs.ReadBytes.{take_more, reached}

-- ---- one read

module _ (limits : Allowed) (text piece : List ℕ) (place count taken : ℕ) (given : drop place text ≡ take count piece ++ drop (place + count) text)
    (within : count ≤ length piece) (less : taken ≤ count) where
  fed : take (place + taken) text ≡ take place text ++ take taken piece
  fed = take_more text piece place count taken given within less

  pub at_more : (old new : Joiner) → IsAt limits text old place → 0 < taken
      → ((bytes : List ℕ) → Joins old bytes → Joins new (bytes ++ take taken piece))
      → ((bytes : List ℕ) → Joins old bytes → Answers (limits_of old) (bytes ++ take taken piece) Progress.Open)
      → limits_of new ≡ limits_of old → refusal_of new ≡ None → IsAt limits text new (place + taken)
  at_more old new at some goes answers same unrefused =
      let end = reached text piece place count taken given within less some in
      let answer = (answers (take place text) at.joins).1 in
      let long : length (take place text ++ take taken piece) ≤ limits.bytes =
      subst (λ (l : Allowed). length (take place text ++ take taken piece) ≤ l.bytes) at.under answer in
      let size : length (take (place + taken) text) ≡ place + taken = length-take-le (place + taken) text end in
      record {
        within = end;
        short = omega (arith, long, size, ap length fed);
        under = same ∙ at.under;
        unrefused = unrefused;
        joins = subst (Joins new) (sym fed) (goes (take place text) at.joins);
      }

  pub refused_in : (old : Joiner) (fault : JsonFault) → IsAt limits text old place
      → ((bytes : List ℕ) → Joins old bytes → Answers (limits_of old) (bytes ++ take taken piece) (Progress.Refused fault)) → IsRefusal limits text fault
  refused_in old fault at answers =
      let rest = drop (place + taken) text in
      let whole : (take place text ++ take taken piece) ++ rest ≡ text = ap (λ (l : List ℕ). l ++ rest) (sym fed) ∙ take-append-drop (place + taken) text in
      subst (λ (l : List ℕ). IsRefusal limits l fault) whole
      (subst (λ (l : Allowed). IsRefusal l ((take place text ++ take taken piece) ++ rest) fault) at.under (answers (take place text) at.joins rest))

-- ---- where it stands

pub at_offset : (limits : Allowed) (text : List ℕ) (joiner : Joiner) (place offset : ℕ) → IsAt limits text joiner place
    → ((bytes : List ℕ) → Joins joiner bytes → refusal_of joiner ≡ None → offset ≡ length bytes) → offset ≡ place
at_offset limits text joiner place offset at is = is (take place text) at.joins at.unrefused ∙ length-take-le place text at.within

pub at_run : (limits : Allowed) (text : List ℕ) (old new : Joiner) (place : ℕ) (sum : FeatureSum) (passed : Bool) → IsAt limits text old place
    → IsSumIn limits.depth text sum → sum.begin < sum.end
    → ((bytes run : List ℕ) → IsTrue passed → Joins old bytes → IsSumOf (limits_of old).depth run sum → Joins new (bytes ++ run))
    → ((bytes : List ℕ) → IsTrue passed → Joins old bytes → (refusal_of old ≡ None) × StandsAfterFeature (limits_of old).depth bytes
    × (sum.begin ≡ length bytes) × (sum.begin ≤ sum.end) × (sum.end ≤ (limits_of old).bytes))
    → (passed ≡ false → new ≡ old) → limits_of new ≡ limits_of old → refusal_of new ≡ refusal_of old → (n : ℕ) × IsAt limits text new n
at_run limits text old new place sum true at is some joins only same limits_stay refusal_stays =
    let (fine, ended, begun, ordered, fits) = only (take place text) refl at.joins in
    let begins : place ≡ sum.begin = sym (begun ∙ length-take-le place text at.within) in
    let run = bytes_between sum.begin sum.end text in
    let is_sum : IsSumOf (limits_of old).depth run sum = subst (λ (l : Allowed). IsSumOf l.depth run sum) (sym at.under) (is.is_sum some) in
    let both : place + (sum.end - sum.begin) ≡ sum.end = omega (arith, begins, some) in
    let whole : take place text ++ run ≡ take sum.end text =
    ap (λ (n : ℕ). take place text ++ take (sum.end - sum.begin) (drop n text)) (sym begins)
    ∙ (sym (take-add place (sum.end - sum.begin) text) ∙ ap (λ (n : ℕ). take n text) both) in (
      sum.end,
      record {
        within = is.within some;
        short = subst (λ (l : Allowed). sum.end ≤ l.bytes) at.under fits;
        under = limits_stay ∙ at.under;
        unrefused = refusal_stays ∙ at.unrefused;
        joins = subst (Joins new) whole (joins (take place text) run refl at.joins is_sum);
      },
    )
at_run limits text old new place sum false at is some joins only same limits_stay refusal_stays =
    (place, subst (λ (j : Joiner). IsAt limits text j place) (sym (same refl)) at)

pub at_start : (limits : Allowed) (text : List ℕ) (joiner : Joiner) → limits_of joiner ≡ limits → refusal_of joiner ≡ None → Joins joiner []
    → IsAt limits text joiner 0
at_start limits text joiner under unrefused joins =
    record { within = omega arith; short = omega arith; under = under; unrefused = unrefused; joins = joins }

pub whole_verdict : (limits : Allowed) (text : List ℕ) (joiner : Joiner) (place : ℕ) (verdict : Verdict) → IsAt limits text joiner place → length text ≤ place
    → ((bytes : List ℕ) → Joins joiner bytes → IsVerdict (limits_of joiner) bytes verdict) → IsVerdict limits text verdict
whole_verdict limits text joiner place verdict at past is =
    subst (λ (l : Allowed). IsVerdict l text verdict) at.under
    (subst (λ (l : List ℕ). IsVerdict (limits_of joiner) l verdict) (take_all place text past) (is (take place text) at.joins))

-- ---- where the source tells its bytes

-- from any place
abbrev pub Stays : Option (List ℕ) → (first joiner : Joiner) (place : ℕ) → Type 0
Stays known first joiner place = IfSome known (λ text. (limits : Allowed) (n : ℕ) → IsAt limits text first n → IsAt limits text joiner place)

abbrev pub Reaches : Option (List ℕ) → (until : ℕ) (first joiner : Joiner) → Progress → Type 0
Reaches known until first joiner progress =
    IfSome known (λ text. (limits : Allowed) (n : ℕ) → IsAt limits text first n → HasReached limits text until joiner progress)

pub stays_first : (known : Option (List ℕ)) (first : Joiner) (offset : ℕ)
    → ((bytes : List ℕ) → Joins first bytes → refusal_of first ≡ None → offset ≡ length bytes) → Stays known first first offset
stays_first None first offset is = tt
stays_first (Some text) first offset is = λ limits n at. subst (IsAt limits text first) (sym (at_offset limits text first n offset at is)) at

module _ (now : Option (List ℕ)) (piece : List ℕ) (place count taken : ℕ) (within : count ≤ length piece) (less : taken ≤ count)
    (gave : GaveBy now place count piece) (first old : Joiner) where
  pub stays_more : (known : Option (List ℕ)) (new : Joiner) → now ≡ known → Stays known first old place → (taken ≡ 0 → ⊥)
      → ((bytes : List ℕ) → Joins old bytes → Joins new (bytes ++ take taken piece))
      → ((bytes : List ℕ) → Joins old bytes → Answers (limits_of old) (bytes ++ take taken piece) Progress.Open)
      → limits_of new ≡ limits_of old → refusal_of new ≡ None → Stays known first new (place + taken)
  stays_more None new same at some goes answers limits_stay unrefused = tt
  stays_more (Some text) new same at some goes answers limits_stay unrefused = λ limits n before.
      let given = (subst (λ (o : Option (List ℕ)). GaveBy o place count piece) same gave).given in
      at_more limits text piece place count taken given within less old new (at limits n before) (omega (arith, some)) goes answers limits_stay unrefused

  pub reaches_refusal : (known : Option (List ℕ)) (until : ℕ) (new : Joiner) (fault : JsonFault) → now ≡ known → Stays known first old place
      → ((bytes : List ℕ) → Joins old bytes → Answers (limits_of old) (bytes ++ take taken piece) (Progress.Refused fault))
      → Reaches known until first new (Progress.Refused fault)
  reaches_refusal None until new fault same at answers = tt
  reaches_refusal (Some text) until new fault same at answers = λ limits n before.
      let given = (subst (λ (o : Option (List ℕ)). GaveBy o place count piece) same gave).given in
      refused_in limits text piece place count taken given within less old fault (at limits n before) answers

  pub reaches_end : (known : Option (List ℕ)) (until : ℕ) → now ≡ known → Stays known first old place → count ≡ 0 → 0 < length piece
      → Reaches known until first old Progress.Open
  reaches_end None until same at none room = tt
  reaches_end (Some text) until same at none room = λ limits n before.
      let gave_text = subst (λ (o : Option (List ℕ)). GaveBy o place count piece) same gave in (
        place,
        at limits n before,
        λ _. gave_text.none none room,
      )

pub reaches_until : (known : Option (List ℕ)) (until : ℕ) (first joiner : Joiner) (place : ℕ) → Stays known first joiner place → until ≤ place
    → Reaches known until first joiner Progress.Open
reaches_until None until first joiner place at past = tt
reaches_until (Some text) until first joiner place at past = λ limits n before. (place, at limits n before, λ less. absurd (omega (arith, less, past)))

-- ---- all parts

abbrev pub AtIn : Option (List ℕ) → Allowed → List CheckedPart → Joiner → Type 0
AtIn known limits parts joiner = IfSome known (λ text. All (IsTruePart limits text) parts → (n : ℕ) × IsAt limits text joiner n)

pub in_start : (known : Option (List ℕ)) (limits : Allowed) (parts : List CheckedPart) (joiner : Joiner) → limits_of joiner ≡ limits
    → refusal_of joiner ≡ None → Joins joiner [] → AtIn known limits parts joiner
in_start None limits parts joiner under unrefused joins = tt
in_start (Some text) limits parts joiner under unrefused joins = λ all. (0, at_start limits text joiner under unrefused joins)

has_bytes : (begin end : ℕ) (verdict : SeqVerdict) (sum : FeatureSum) → sum_by begin end verdict ≡ Some sum → sum.begin < sum.end
has_bytes begin end (SeqVerdict.Valid features warnings) sum is = by_test (nat_lt begin end) refl is
  where
    it : FeatureSum
    it = record { begin = begin; end = end; features = features; warnings = warnings }

    by_test : (b : Bool) → nat_lt begin end ≡ b → (if b then Some it else None) ≡ Some sum → sum.begin < sum.end
    by_test true less same = subst (λ (s : FeatureSum). s.begin < s.end) (same_Some it sum same) (grind (arith, nat_tests, less))
    by_test false less same = absurd (cc same)
has_bytes begin end (SeqVerdict.Record number verdict) sum is = absurd (cc is)

module _ (now : Option (List ℕ)) (limits : Allowed) (parts : List CheckedPart) (old fed : Joiner) where
  pub in_part : (known : Option (List ℕ)) (new : Joiner) (i : ℕ) (none : CheckedPart) (sum : FeatureSum) → now ≡ known → AtIn known limits parts old
      → i < length parts → sum_of (get_or parts i none) ≡ Some sum → Reaches now sum.begin old fed Progress.Open
      → ((text : List ℕ) (n : ℕ) → IsAt limits text fed n → IsSumIn limits.depth text sum → sum.begin < sum.end → (m : ℕ) × IsAt limits text new m)
      → AtIn known limits parts new
  in_part None new i none sum same at less is reaches passes = tt
  in_part (Some text) new i none sum same at less is reaches passes = λ all.
      let part = get_or parts i none in
      let before = at all in
      let there = (subst (λ (o : Option (List ℕ)). Reaches o sum.begin old fed Progress.Open) same reaches) limits before.0 before.1 in
      passes text there.0 there.1 (all i none less sum is) (has_bytes part.begin part.end part.verdict sum is)

  pub in_refusal : (known : Option (List ℕ)) (until : ℕ) (fault : JsonFault) → now ≡ known → AtIn known limits parts old
      → Reaches now until old fed (Progress.Refused fault) → IfSome known (λ text. All (IsTruePart limits text) parts → IsRefusal limits text fault)
  in_refusal None until fault same at reaches = tt
  in_refusal (Some text) until fault same at reaches = λ all.
      let before = at all in
      (subst (λ (o : Option (List ℕ)). Reaches o until old fed (Progress.Refused fault)) same reaches) limits before.0 before.1

  pub in_whole : (known : Option (List ℕ)) (verdict : Verdict) → now ≡ known → AtIn known limits parts old
      → Reaches now (limits.bytes + 1) old fed Progress.Open → ((bytes : List ℕ) → Joins fed bytes → IsVerdict (limits_of fed) bytes verdict)
      → IfSome known (λ text. All (IsTruePart limits text) parts → IsVerdict limits text verdict)
  in_whole None verdict same at reaches is = tt
  in_whole (Some text) verdict same at reaches is = λ all.
      let before = at all in
      let there = (subst (λ (o : Option (List ℕ)). Reaches o (limits.bytes + 1) old fed Progress.Open) same reaches) limits before.0 before.1 in
      whole_verdict limits text fed there.0 verdict there.1 (there.2 (omega (arith, there.1.short))) is
