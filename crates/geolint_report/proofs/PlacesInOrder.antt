-- Lemmas on the places of a finding, in the order in which they are sought.
use Rattle.std.proofs.Common.{arith, refl, ap, sym, subst, ◌∙◌, ◌≡◌, ◌<◌, ◌≤◌, ◌-◌, ◌^◌, ℕ, zero, suc, Bool, true, false, List, [], ◌∷◌, length, get_or, take}
use Rattle.std.proofs.Common.{length-take, Option, Some, None, inl, inr}
use Rattle.std.specs.Prelude.{cond, unwrap_or}
use Rattle.std.specs.List.{Contains, filter}
use Rattle.std.specs.List.Sorted.{IsPermutation}
use Rattle.std.proofs.lemmas.Bool.{cases_lt}
use Rattle.std.proofs.lemmas.Bool.Decides.{nat_tests}
use Rattle.std.proofs.lemmas.List.{get_or_default}
use Rattle.std.proofs.lemmas.List.Sorted.{Contains-permutation, IsPermutation-sym}
use Rattle.std.proofs.lemmas.List.Sums.{length-filter, count_by-le-length}
use Rattle.gj_coords.specs.declared.kind.Kind.{Kind}
use Rattle.gj_coords.specs.declared.kind.Kind.TheVariants.{W1, W2, W3, W4, W5, W6, W7, W8, W9}
use Rattle.gj_coords.specs.declared.warnings.Warnings.{Warnings}
use Rattle.gj_coords.specs.Internal.KeptWarnings.{first_in}
use Rattle.gj_coords.specs.Warnings.{kinds, index_of}
use Rattle.geolint_report.specs.Internal.SoughtPlaces.{is_sought, first_or_none}
use Rattle.geolint_report.specs.Report.{IsFirstPlace}

-- ---- what a filter keeps

behind-first : (b : Bool) (y : ℕ) (zs : List ℕ) (x : ℕ) → Contains zs x → Contains (cond b (y ∷ zs) zs) x
behind-first true y zs x has = (suc has.0, omega (arith, has.1), has.2)
behind-first false y zs x has = has

filter-keeps : (p : ℕ → Bool) (xs : List ℕ) (k x : ℕ) → k < length xs → get_or xs k x ≡ x → p x ≡ true → Contains (filter p xs) x
filter-keeps p [] k x within is passes = absurd (omega arith)
filter-keeps p (y ∷ ys) zero x within is passes =
    let here : p y ≡ true = ap p is ∙ passes in
    subst (λ (b : Bool). Contains (cond b (y ∷ filter p ys) (filter p ys)) x) (sym here) (zero, omega arith, is)
filter-keeps p (y ∷ ys) (suc k) x within is passes = behind-first (p y) y (filter p ys) x (filter-keeps p ys k x (omega arith) is passes)

abbrev Kept : (ℕ → Bool) → List ℕ → ℕ → Type 0
Kept p xs x = Contains xs x × (p x ≡ true)

from-cond : (p : ℕ → Bool) (b : Bool) (y : ℕ) (ys zs : List ℕ) (x j : ℕ) → p y ≡ b → ((i : ℕ) → i < length zs → get_or zs i x ≡ x → Kept p ys x)
    → j < length (cond b (y ∷ zs) zs) → get_or (cond b (y ∷ zs) zs) j x ≡ x → Kept p (y ∷ ys) x
from-cond p true y ys zs x zero passes rest within is = ((zero, omega arith, is), ap p (sym is) ∙ passes)
from-cond p true y ys zs x (suc j) passes rest within is =
    let kept = rest j (omega arith) is in ((suc kept.0.0, omega (arith, kept.0.1), kept.0.2), kept.1)
from-cond p false y ys zs x j passes rest within is =
    let kept = rest j within is in ((suc kept.0.0, omega (arith, kept.0.1), kept.0.2), kept.1)

filter-kept : (p : ℕ → Bool) (xs : List ℕ) (j x : ℕ) → j < length (filter p xs) → get_or (filter p xs) j x ≡ x → Kept p xs x
filter-kept p [] j x within is = absurd (omega arith)
filter-kept p (y ∷ ys) j x within is = from-cond p (p y) y ys (filter p ys) x j refl (λ i lt e. filter-kept p ys i x lt e) within is

pub filter-short : (p : ℕ → Bool) (xs : List ℕ) (i : ℕ) → length (filter p (take i xs)) ≤ i
filter-short p xs i = omega (arith, length-filter p (take i xs), count_by-le-length p (take i xs), length-take i xs)

-- ---- the first place of each kind

kind-at : (kind : Kind) → get_or kinds (index_of kind) W1 ≡ kind
kind-at W1 = refl
kind-at other = refl

index-small : (kind : Kind) → index_of kind < 9
index-small W1 = omega arith
index-small other = omega arith

is-sought : (place : ℕ) → place < 2 ^ 64 - 1 → is_sought place ≡ true
is-sought place below = grind (arith, nat_tests)

not-last : is_sought (2 ^ 64 - 1) ≡ true → ⊥
not-last is = grind (arith, nat_tests)

some-first : (first : Option ℕ) (place : ℕ) → unwrap_or first (2 ^ 64 - 1) ≡ place → is_sought place ≡ true → first ≡ Some place
some-first (Some x) place is passes = ap Some is
some-first None place is passes = absurd (not-last (ap is_sought is ∙ passes))

-- the places of a list, sorted, of which the greatest u64 is not sought
pub each_place : (warnings : Warnings) (places sorted : List ℕ) → length places ≡ 10
    → ((k : ℕ) → k < 9 → get_or places k 0 ≡ first_or_none (get_or kinds k W1) warnings)
    → IsPermutation places sorted → (place : ℕ) → IsFirstPlace warnings place → place < 2 ^ 64 - 1 → Contains (filter is_sought sorted) place
each_place warnings places sorted ten firsts permuted place told below =
    let k = index_of told.0 in
    let small = index-small told.0 in
    let first : get_or places k 0 ≡ place =
    firsts k small ∙ (ap (λ (kind : Kind). first_or_none kind warnings) (kind-at told.0) ∙ ap (λ (o : Option ℕ). unwrap_or o (2 ^ 64 - 1)) told.1) in
    let here : Contains places place = (k, omega arith, get_or_default places k place 0 (omega arith) ∙ first) in
    let there = Contains-permutation places sorted place permuted here in
    filter-keeps is_sought sorted there.0 place there.1 there.2 (is-sought place below)

at-place : (warnings : Warnings) (places : List ℕ) (place : ℕ) → length places ≡ 10
    → ((k : ℕ) → k < 9 → get_or places k 0 ≡ first_or_none (get_or kinds k W1) warnings)
    → get_or places 9 0 ≡ 2 ^ 64 - 1 → is_sought place ≡ true → (k : ℕ) → k < length places → get_or places k place ≡ place → IsFirstPlace warnings place
at-place warnings places place ten firsts last passes k within is =
    let here : get_or places k 0 ≡ place = get_or_default places k 0 place within ∙ is in
    elim (cases_lt k 9) [
      | inl less ↦ (get_or kinds k W1, some-first (first_in (get_or kinds k W1) warnings) place (sym (firsts k less) ∙ here) passes)
      | inr more ↦
          let same : k ≡ 9 = omega arith in
          let greatest : 2 ^ 64 - 1 ≡ place = sym last ∙ (ap (λ (n : ℕ). get_or places n 0) (sym same) ∙ here) in
          absurd (not-last (ap is_sought greatest ∙ passes))
    ]

pub only_places : (warnings : Warnings) (places sorted : List ℕ) → length places ≡ 10
    → ((k : ℕ) → k < 9 → get_or places k 0 ≡ first_or_none (get_or kinds k W1) warnings)
    → get_or places 9 0 ≡ 2 ^ 64 - 1 → IsPermutation places sorted → (place : ℕ) → Contains (filter is_sought sorted) place → IsFirstPlace warnings place
only_places warnings places sorted ten firsts last permuted place told =
    let kept = filter-kept is_sought sorted told.0 place told.1 told.2 in
    let there = Contains-permutation sorted places place (IsPermutation-sym places sorted permuted) kept.0 in
    at-place warnings places place ten firsts last kept.1 there.0 there.1 there.2
