-- The features of a text end one after another.
use Rattle.std.proofs.Common.{◌≡◌, ℕ, ◌+◌, ◌-◌, ◌<◌, ◌≤◌, nat_le, inl, inr, true, false, List, [], ◌∷◌, ◌++◌, length, IsSome, ap, refl, arith}
use Rattle.std.proofs.lemmas.Bool.{cases_lt}
use Rattle.std.proofs.lemmas.Bool.Decides.{nat_tests}
use Rattle.gj_json.specs.Text.{IsText}
use Rattle.gj_json.specs.Tree.{Tree, number, Text}
use Rattle.gj_rules.specs.FeatureFindings.{closing_of, complete_at, complete_in, features_of}
use Rattle.gj_rules.proofs.Features.FeaturesInTime.{as_many, few_by, few_in_time}
use Rattle.gj_join.proofs.ElementRuns.{ItEnds, OneOf}

-- each is complete later than the one before it
abbrev pub Rising : ℕ → List Tree → Type 0
Rising c [] = Unit {0}
Rising c (v ∷ vs) = (c < complete_at v) × Rising (complete_at v) vs

pub complete_first : (n : ℕ) (v : Tree) (vs : List Tree) → complete_at v ≤ n → complete_in n (v ∷ vs) ≡ v ∷ complete_in n vs
complete_first n v vs l = let e : nat_le (complete_at v) n ≡ true = grind (arith, nat_tests) in rw e refl

pub complete_none : (n : ℕ) (v : Tree) (vs : List Tree) → n < complete_at v → complete_in n (v ∷ vs) ≡ []
complete_none n v vs l = let e : nat_le (complete_at v) n ≡ false = grind (arith, nat_tests) in rw e refl

-- from then on each byte completes one at the most
abbrev OneByOne : ℕ → List Tree → Type 0
OneByOne c vs = (m n : ℕ) → c ≤ m → m ≤ n → length (complete_in n vs) ≤ length (complete_in m vs) + (n - m)

rising_by : (c : ℕ) (vs : List Tree) → OneByOne c vs → length (complete_in c vs) ≡ 0 → Rising c vs
rising_by c [] h z = tt
rising_by c (v ∷ vs) h z = elim (cases_lt c (complete_at v)) [
  | inl l ↦ (
    l,
    rising_by (complete_at v) vs
        (λ m n i j. omega (arith, h m n (omega (arith, l, i)) j, ap length (complete_first n v vs (omega (arith, i, j))), ap length (complete_first m v vs i)))
        (let d = complete_at v in
        omega (
          arith,
          h (d - 1) d (omega (arith, l)) (omega arith),
          l,
          ap length (complete_first d v vs (omega arith)),
          ap length (complete_none (d - 1) v vs (omega (arith, l))),
        )),
  )
  | inr l ↦ absurd (omega (arith, z, ap length (complete_first c v vs l)))
]

pub rising_features : (text : Text) (bytes : List ℕ) → IsText text bytes → Rising 0 (features_of text.value)
rising_features text bytes t =
    let vs = features_of text.value in
    rising_by 0 vs
    (λ m n i j. omega (arith, few_in_time text bytes m n t j, as_many 0 (complete_in n vs), as_many 0 (complete_in m vs)))
    (omega (arith, few_by text bytes 0 t, as_many 0 (complete_in 0 vs)))

-- ---- one with a bracket

pub bracket_complete : (end : ℕ) (v : Tree) → ItEnds end v → complete_at v ≡ end
bracket_complete end (number place literal close) i = let s : IsSome (closing_of (number place literal close)) = i.0 in cc
bracket_complete end other i = i.1

pub rising_to : (c end : ℕ) (vs : List Tree) → Rising c vs → OneOf end vs → c < end
rising_to c end [] r one = absurd one
rising_to c end (v ∷ vs) r (inl i) = omega (arith, r.0, bracket_complete end v i)
rising_to c end (v ∷ vs) r (inr one) = omega (arith, r.0, rising_to (complete_at v) end vs r.1 one)

pub one_in : (end : ℕ) (xs : List Tree) (v : Tree) (ys : List Tree) → ItEnds end v → OneOf end (xs ++ v ∷ ys)
one_in end [] v ys i = inl i
one_in end (x ∷ xs) v ys i = inr (one_in end xs v ys i)

-- what ends later than one of them stands after it
pub one_later : (c before end : ℕ) (xs : List Tree) (v : Tree) (ys : List Tree) → Rising c (xs ++ v ∷ ys) → ItEnds before v → before < end
    → OneOf end (xs ++ v ∷ ys) → OneOf end ys
one_later c before end [] v ys r i l (inl k) = absurd (omega (arith, i.1, k.1, l))
one_later c before end [] v ys r i l (inr one) = one
one_later c before end (x ∷ xs) v ys r i l (inl k) =
    absurd (omega (arith, l, bracket_complete end x k, rising_to (complete_at x) before (xs ++ v ∷ ys) r.1 (one_in before xs v ys i)))
one_later c before end (x ∷ xs) v ys r i l (inr one) = one_later (complete_at x) before end xs v ys r.1 i l one

pub one_after : (end : ℕ) (xs : List Tree) (v : Tree) (ys : List Tree) → OneOf end ys → OneOf end (xs ++ v ∷ ys)
one_after end [] v ys one = inr one
one_after end (x ∷ xs) v ys one = inr (one_after end xs v ys one)
