-- A list of which a `Warnings` says the counts and the least places: as many warnings of each kind, all at one place.
use Rattle.gj_coords.proofs.Common.{Kind, KindWarnings, Warning, Warnings, ap, append-nil, arith, first_of, flat_map, greatest_count, kept, kinds}
use Rattle.gj_coords.proofs.Common.{nat_tests, places_of, same_kind, sym, warning_at, ◌∙◌}
use Rattle.std.specs.Prelude.{refl, ◌≡◌, ℕ, min, ◌<◌, ◌≤◌, ◌==◌, Bool, true, false, if◌then◌else◌, List, [], ◌∷◌, ◌++◌, length, Some, None, suc}
use Rattle.std.specs.Prelude.{zero}
use Rattle.std.proofs.Math.ListN.{replicate}
use Rattle.std.proofs.lemmas.List.{length-replicate}
use Rattle.gj_coords.specs.Warnings.{least_place, lesser_place}
use Rattle.gj_coords.specs.WarningsStand.{StandsFor}
use Rattle.gj_coords.specs.WarningsTold.{Tells, CountsFit}
use Rattle.gj_coords.specs.Internal.KeptWarningLaws.{places_of-append}
use Rattle.gj_coords.proofs.Lists.ListsStoodFor.{kept_of, first_is, first_is_none}

-- ---- so many warnings of a kind at one place

abbrev alike : KindWarnings → Kind → List Warning
alike noted kind = replicate noted.count (warning_at noted.first kind)

abbrev places_alike : KindWarnings → List ℕ
places_alike noted = replicate noted.count noted.first

alike_places : (count place : ℕ) (kind other : Kind) (t : Bool) → same_kind kind other ≡ t
    → places_of other (replicate count (warning_at place kind)) ≡ (if t then replicate count place else [])
alike_places zero place kind other true h = refl
alike_places zero place kind other false h = refl
alike_places (suc n) place kind other true h = simp h (ap (λ (xs : List ℕ). place ∷ xs) (alike_places n place kind other true h))
alike_places (suc n) place kind other false h = simp h (alike_places n place kind other false h)

least_alike : (n place : ℕ) → least_place (replicate (suc n) place) ≡ Some place
least_alike zero place = refl
least_alike (suc n) place = ap (lesser_place (Some place)) (least_alike n place) ∙ ap Some (itself place)
  where
    itself : (p : ℕ) → min p p ≡ p
    itself p = omega arith

first_alike : (count place : ℕ) → (if count == 0 then None else Some place) ≡ least_place (replicate count place)
first_alike zero place = refl
first_alike (suc n) place = rw (is_some n) (sym (least_alike n place))
  where
    is_some : (n : ℕ) → (suc n == 0) ≡ false
    is_some n = grind (arith, nat_tests)

count_alike : (count place : ℕ) → count ≤ greatest_count → count ≡ min (length (replicate count place)) greatest_count
count_alike count place small = rw (length-replicate count place) (least count greatest_count small)
  where
    least : (m n : ℕ) → m ≤ n → m ≡ min m n
    least m n h = omega arith

-- ---- those of all kinds, one kind after the other

told_list : Warnings → List Warning
told_list told = flat_map (λ (kind : Kind). alike (kept told kind) kind) kinds

abbrev of_each : Warnings → Kind → Kind → List ℕ
of_each told other kind = if same_kind kind other then places_alike (kept told kind) else []

places_in : (told : Warnings) (other : Kind) (ks : List Kind)
    → places_of other (flat_map (λ (kind : Kind). alike (kept told kind) kind) ks) ≡ flat_map (of_each told other) ks
places_in told other [] = refl
places_in told other (kind ∷ ks) =
    places_of-append other (alike (kept told kind) kind) (flat_map (λ (k : Kind). alike (kept told k) k) ks)
    ∙ (ap (λ (xs : List ℕ). xs ++ places_of other (flat_map (λ (k : Kind). alike (kept told k) k) ks))
    (alike_places (kept told kind).count (kept told kind).first kind other (same_kind kind other) refl)
    ∙ ap (λ (xs : List ℕ). of_each told other kind ++ xs) (places_in told other ks))

own_places : (told : Warnings) (kind : Kind) → flat_map (of_each told kind) kinds ≡ places_alike (kept told kind)
own_places told Kind.W1 = append-nil (places_alike (kept told Kind.W1))
own_places told kind = append-nil (places_alike (kept told kind))

places_told : (told : Warnings) (kind : Kind) → places_of kind (told_list told) ≡ places_alike (kept told kind)
unfolding told_list
places_told told kind = places_in told kind kinds ∙ own_places told kind

pub some_told : (told : Warnings) → CountsFit told → (warnings : List Warning) × Tells told warnings
some_told told small = (
  told_list told,
  λ kind. (
    count_alike (kept told kind).count (kept told kind).first (small kind) ∙ sym (ap (λ (xs : List ℕ). min (length xs) greatest_count) (places_told told kind)),
    first_alike (kept told kind).count (kept told kind).first ∙ sym (ap least_place (places_told told kind)),
  ),
)

-- ---- the list that it stands for

first_told : (noted : KindWarnings) (kind : Kind) (warnings : List Warning) (t : Bool) → (noted.count == 0) ≡ t
    → (noted.count ≡ 0 → None ≡ first_of kind warnings)
    → (0 < noted.count → Some noted.first ≡ first_of kind warnings) → (if noted.count == 0 then None else Some noted.first) ≡ first_of kind warnings
first_told noted kind warnings true h none some = rw h (none (zero_of noted.count h))
  where
    zero_of : (n : ℕ) → (n == 0) ≡ true → n ≡ 0
    zero_of n h = grind (arith, nat_tests)
first_told noted kind warnings false h none some = rw h (some (some_of noted.count h))
  where
    some_of : (n : ℕ) → (n == 0) ≡ false → 0 < n
    some_of n h = grind (arith, nat_tests)

pub stood_for_told : (told : Warnings) (warnings : List Warning) → StandsFor told warnings → Tells told warnings
stood_for_told told warnings stands = λ kind.
    let is = kept_of told kind warnings stands in (
      ap (λ (noted : KindWarnings). noted.count) is,
      first_told (kept told kind) kind warnings ((kept told kind).count == 0) refl (first_is_none (kept told kind) kind warnings is)
          (first_is (kept told kind) kind warnings is),
    )
