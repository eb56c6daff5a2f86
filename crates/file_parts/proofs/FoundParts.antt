-- What was found of a part, by where it begins.
use Rattle.std.proofs.Common.{arith, ◌≡◌, ◌+◌, ◌-◌, ◌<◌, ◌≤◌, ◌^◌, ℕ, inl, inr, Bool, true, false, if◌then◌else◌, nat_lt, List, Option, Some, None, refl, sym, subst}
use Rattle.std.specs.Prelude.{IfSome, unwrap_or}
use Rattle.std.proofs.lemmas.Bool.{cases_lt}
use Rattle.std.proofs.lemmas.Option.{same_Some}
use Rattle.gj_json.specs.Limits.{Allowed}
use Rattle.gj_join.specs.Runs.{MayBegin}
use Rattle.gj_join.specs.declared.sum.FeatureSum.{FeatureSum}
use Rattle.file_parts.specs.Ranges.{range_begin}
use Rattle.file_parts.specs.declared.checked.CheckedPart.{CheckedPart}
use Rattle.file_parts.specs.declared.ranges.Share.{Share}
use Rattle.file_parts.specs.Likely.{HasRun, HasRunFrom, IsLikely}
use Rattle.file_parts.specs.ReadRuns.{ReadsTo}
use Rattle.file_parts.specs.Sums.{IsSumIn, IsTruePart, part_of}
use Rattle.file_parts.specs.declared.collections.runs.ReadRun.{ReadRun}
use Rattle.file_parts.proofs.TrueSums.{whole_run}

-- ---- what it says is true

true_part : (limits : Allowed) (text : List ℕ) (sum : FeatureSum) → IsSumIn limits.depth text sum → IsTruePart limits text (part_of sum)
true_part limits text sum is = λ found e. by_test found (nat_lt sum.begin sum.end) e
  where
    by_test : (found : FeatureSum) (b : Bool) → (if b then Some sum else None) ≡ Some found → IsSumIn limits.depth text found
    by_test found true e = subst (IsSumIn limits.depth text) (same_Some sum found e) is
    by_test found false e = absurd cc

pub true_in : (known now : Option (List ℕ)) (limits : Allowed) (sum : FeatureSum) → now ≡ known → IfSome now (λ text. IsSumIn limits.depth text sum)
    → IfSome known (λ text. IsTruePart limits text (part_of sum))
true_in None now limits sum same is = tt
true_in (Some text) now limits sum same is =
    true_part limits text sum (subst (λ (o : Option (List ℕ)). IfSome o (λ text. IsSumIn limits.depth text sum)) same is)

pub true_none : (known : Option (List ℕ)) (limits : Allowed) (sum : FeatureSum) → sum.begin ≡ sum.end
    → IfSome known (λ text. IsTruePart limits text (part_of sum))
true_none None limits sum e = tt
true_none (Some text) limits sum e =
    true_part limits text sum (record { within = λ less. absurd (omega (arith, less, e)); is_sum = λ less. absurd (omega (arith, less, e)) })

-- ---- it is what is sought

module _ (limits : Allowed) (share : Share) (size from until : ℕ) (from_is : from ≡ range_begin size share.parts (share.number - 1))
    (until_is : until ≡ range_begin size share.parts share.number) (found : Option ℕ) where
  has_run : (text : List ℕ) (part : CheckedPart) → IsLikely limits text from until found → HasRunFrom limits text until size found part
      → HasRun limits text share size part
  has_run text part likely has =
      let At : ℕ → ℕ → Type 0 = λ a b. (begin : Option ℕ) × IsLikely limits text a b begin × HasRunFrom limits text b size begin part in
      subst (At (range_begin size share.parts (share.number - 1))) until_is (subst (λ (a : ℕ). At a until) from_is (found, likely, has))

  end_within : (text : List ℕ) (next : Option ℕ) → IsLikely limits text until size next → unwrap_or next size ≤ size
  end_within text None likely = omega arith
  end_within text (Some place) likely = omega (arith, likely.1)

  few : (text : List ℕ) (begin end : ℕ) (run : ReadRun) → ReadsTo limits text begin end (2 ^ 64 - 1) run → MayBegin limits begin → end < 2 ^ 64
      → run.reached < begin + (2 ^ 64 - 1)
  few text begin end run (inr never) may fits = absurd (never.0 may)
  few text begin end run (inl r) may fits = elim (cases_lt begin run.reached) [
    | inl some ↦ omega (arith, r.within some, fits, may.0)
    | inr none ↦ omega (arith, none)
  ]

  pub run_in : (known now other : Option (List ℕ)) (begin end : ℕ) (next : Option ℕ) (run : ReadRun) → found ≡ Some begin → now ≡ known → other ≡ known
      → end ≡ unwrap_or next size → size < 2 ^ 64 → IfSome known (λ text. IsLikely limits text from until found)
      → IfSome now (λ text. IsLikely limits text until size next)
      → IfSome other (λ text. ReadsTo limits text begin end (2 ^ 64 - 1) run) → IfSome known (λ text. HasRun limits text share size (part_of run.sum))
  run_in None now other begin end next run is same alike e fits likely later reads = tt
  run_in (Some text) now other begin end next run is same alike e fits likely later reads =
      let first = subst (IsLikely limits text from until) is likely in
      let may = first.3.1.may in
      let second = subst (λ (o : Option (List ℕ)). IfSome o (λ text. IsLikely limits text until size next)) same later in
      let all = subst (λ (n : ℕ). ReadsTo limits text begin n (2 ^ 64 - 1) run) e
      (subst (λ (o : Option (List ℕ)). IfSome o (λ text. ReadsTo limits text begin end (2 ^ 64 - 1) run)) alike reads) in
      let longest = whole_run limits text begin (unwrap_or next size) (2 ^ 64 - 1) run all may
      (few text begin (unwrap_or next size) run all may (omega (arith, end_within text next second, fits))) in
      has_run text (part_of run.sum) likely
      (subst (λ (o : Option ℕ). HasRunFrom limits text until size o (part_of run.sum)) (sym is) (next, second, (run.sum, longest, refl)))

  pub none_in : (known : Option (List ℕ)) (sum : FeatureSum) → found ≡ None → sum.begin ≡ sum.end
      → IfSome known (λ text. IsLikely limits text from until found) → IfSome known (λ text. HasRun limits text share size (part_of sum))
  none_in None sum is e likely = tt
  none_in (Some text) sum is e likely =
      has_run text (part_of sum) likely (subst (λ (o : Option ℕ). HasRunFrom limits text until size o (part_of sum)) (sym is) e)
