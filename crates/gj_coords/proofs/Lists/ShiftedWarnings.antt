-- Warnings so many bytes further on: what is kept of them is what was kept, shifted.
use Rattle.gj_coords.proofs.Common.{Kind, KindWarnings, Warning, Warnings, ap, arith, by_kind_alike, greatest_count, kept, kept_by_kind, nat_tests}
use Rattle.gj_coords.proofs.Common.{noted_as, places_of, same_kind, shifted_noted, sym, warning_at, ◌∙◌}
use Rattle.std.specs.Prelude.{refl, ◌≡◌, ℕ, ◌+◌, ◌==◌, min, ◌<◌, ◌≤◌, ◌^◌, if◌then◌else◌, Bool, true, false, List, [], ◌∷◌, map, length, Option, Some, None}
use Rattle.std.specs.Prelude.{unwrap_or, suc}
use Rattle.std.proofs.lemmas.List.{length-map}
use Rattle.gj_coords.specs.Warnings.{shifted_by, least_place, lesser_place}
use Rattle.gj_coords.specs.Internal.KeptWarnings.{noted_of, warnings_of, shifted}
use Rattle.gj_coords.specs.WarningsStand.{StandsFor}
use Rattle.gj_coords.specs.Internal.KeptWarningLaws.{some_least, summary}
use Rattle.gj_coords.proofs.Lists.ListsStoodFor.{kept_of}

abbrev on : ℕ → Option ℕ → Option ℕ
on by None = None
on by (Some place) = Some (place + by)

lesser_on : (by : ℕ) (a b : Option ℕ) → lesser_place (on by a) (on by b) ≡ on by (lesser_place a b)
lesser_on by None b = refl
lesser_on by (Some a) None = refl
lesser_on by (Some a) (Some b) = ap Some (least by a b)
  where
    least : (by a b : ℕ) → min (a + by) (b + by) ≡ min a b + by
    least by a b = omega arith

least_on : (by : ℕ) (places : List ℕ) → least_place (map (λ place. place + by) places) ≡ on by (least_place places)
least_on by [] = refl
least_on by (x ∷ xs) = ap (lesser_place (Some (x + by))) (least_on by xs) ∙ lesser_on by (Some x) (least_place xs)

places_of_one : (by : ℕ) (kind : Kind) (warning : Warning) (more : List Warning) (t : Bool) → same_kind warning.kind kind ≡ t →
    places_of kind (map (shifted_by by) more) ≡ map (λ place. place + by) (places_of kind more) →
    places_of kind (map (shifted_by by) (warning ∷ more)) ≡ map (λ place. place + by) (places_of kind (warning ∷ more))
places_of_one by kind warning more true h rest = simp h (ap (λ xs. (warning.place + by) ∷ xs) rest)
places_of_one by kind warning more false h rest = simp h rest

places_on : (by : ℕ) (kind : Kind) (warnings : List Warning)
    → places_of kind (map (shifted_by by) warnings) ≡ map (λ place. place + by) (places_of kind warnings)
places_on by kind [] = refl
places_on by kind (warning ∷ more) = places_of_one by kind warning more (same_kind warning.kind kind) refl (places_on by kind more)

pub some_count : (limit n : ℕ) → 0 < limit → (min (suc n) limit == 0) ≡ false
some_count limit n h = grind (arith, nat_tests)

unwrap_on : (by p : ℕ) (a : Option ℕ) → a ≡ Some p → unwrap_or (on by a) 0 ≡ unwrap_or a 0 + by
unwrap_on by p a h = rw h refl

first_on : (by first count : ℕ) → (count == 0) ≡ false → (if count == 0 then first else first + by) ≡ first + by
first_on by first count h = rw h refl

summary_on : (by : ℕ) (places : List ℕ) → shifted_noted by (summary places) ≡ summary (map (λ place. place + by) places)
summary_on by [] = refl
summary_on by (x ∷ xs) =
    let found : (place : ℕ) × (least_place (x ∷ xs) ≡ Some place) = some_least x xs in
    ap (λ first. noted_as (min (length (x ∷ xs)) greatest_count) first)
    (first_on by (unwrap_or (least_place (x ∷ xs)) 0) (min (length (x ∷ xs)) greatest_count) (some_count greatest_count (length xs) (omega arith))
    ∙ (sym (unwrap_on by found.0 (least_place (x ∷ xs)) found.1) ∙ sym (ap (λ o. unwrap_or o 0) (least_on by (x ∷ xs)))))
    ∙ ap (λ count. noted_as (min count greatest_count) (unwrap_or (least_place (map (λ place. place + by) (x ∷ xs))) 0))
    (sym (length-map (x ∷ xs) (λ place. place + by)))

noted_on : (by : ℕ) (kind : Kind) (warnings : List Warning) → shifted_noted by (noted_of kind warnings) ≡ noted_of kind (map (shifted_by by) warnings)
noted_on by kind warnings = summary_on by (places_of kind warnings) ∙ sym (ap summary (places_on by kind warnings))

pub shifted_stands : (a : Warnings) (by : ℕ) (warnings : List Warning) → StandsFor a warnings → StandsFor (shifted a by) (map (shifted_by by) warnings)
unfolding shifted warnings_of
shifted_stands a by warnings h =
    ap (λ x. shifted x by) h
    ∙ by_kind_alike (λ kind. shifted_noted by (kept (warnings_of warnings) kind)) (λ kind. noted_of kind (map (shifted_by by) warnings))
    (λ kind. ap (shifted_noted by) (kept_by_kind (λ k. noted_of k warnings) kind) ∙ noted_on by kind warnings)

-- what a caller keeps to, of one kind
pub within_reach : (a b : KindWarnings) (by : ℕ) → b ≡ a → ((place : ℕ) → (if a.count == 0 then None else Some a.first) ≡ Some place → place + by ≤ 2 ^ 61) →
    0 < b.count → b.first + by ≤ 2 ^ 61
within_reach a b by same h some =
    let count : b.count ≡ a.count = ap (λ x. x.count) same in
    let first : b.first ≡ a.first = ap (λ x. x.first) same in
    let test : (a.count == 0) ≡ false = some_test a.count b.count count some in
    let asked : a.first + by ≤ 2 ^ 61 = h a.first (rw test refl) in
    omega (arith, first, asked)
  where
    some_test : (m n : ℕ) → n ≡ m → 0 < n → (m == 0) ≡ false
    some_test m n e some = grind (arith, nat_tests)

-- one warning has one place
pub one_first : (w : Warnings) (kind other : Kind) (place found : ℕ) → StandsFor w (warning_at place kind ∷ []) →
    (if (kept w other).count == 0 then None else Some (kept w other).first) ≡ Some found → found ≡ place
one_first w kind other place found h e = by_test (same_kind kind other) refl (kept w other) (kept_of w other (warning_at place kind ∷ []) h) e
  where
    by_test : (t : Bool) → same_kind kind other ≡ t → (noted : KindWarnings) → noted ≡ noted_of other (warning_at place kind ∷ []) →
        (if noted.count == 0 then None else Some noted.first) ≡ Some found → found ≡ place
    by_test true s noted k f =
        let n : noted ≡ noted_as 1 place = k ∙ simp s in
        let g : Some place ≡ Some found = rw n at f in cc
    by_test false s noted k f =
        let n : noted ≡ noted_as 0 0 = k ∙ simp s in
        let g : None ≡ Some found = rw n at f in cc
