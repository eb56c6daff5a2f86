-- The lists that warnings stand for, and what is read off them.
use Rattle.gj_coords.proofs.Common.{Kind, KindWarnings, Warning, Warnings, added_is, ap, arith, by_kind_alike, first_of, greatest_count, index_of}
use Rattle.gj_coords.proofs.Common.{joined_noted, kept, kept_by_kind, kinds, nat_tests, noted_as, places_of, same_kind, sym, warning_at, ◌∙◌}
use Rattle.std.specs.Prelude.{refl, ◌≡◌, ℕ, min, ◌<◌, ◌==◌, Bool, true, false, if◌then◌else◌, List, [], ◌∷◌, ◌++◌, length, Some, None, unwrap_or, suc, IsTrue}
use Rattle.std.specs.Prelude.{◌↔◌}
use Rattle.std.proofs.lemmas.List.Folds.{list_all_at}
use Rattle.gj_coords.specs.Warnings.{least_place}
use Rattle.gj_coords.specs.Internal.KeptWarnings.{noted_of, warnings_of, joined, added, replaced, none_in}
use Rattle.gj_coords.specs.WarningsStand.{StandsFor}
use Rattle.gj_coords.specs.Internal.ByKind.{of_kind, index_small, kind_at_index, one_kind, same_itself}
use Rattle.gj_coords.specs.Internal.KeptWarningLaws.{some_least}
use Rattle.gj_coords.specs.Internal.WarningLaws.{warnings_of-append}

-- what is written for the kind alone
pub added_by_replacing : (a : Warnings) (kind : Kind) (place : ℕ) → replaced a kind (joined_noted (kept a kind) (noted_as 1 place)) ≡ added a kind place
unfolding added replaced
added_by_replacing a kind place =
    by_kind_alike (λ other. if same_kind kind other then joined_noted (kept a kind) (noted_as 1 place) else kept a other)
    (λ other. if same_kind kind other then joined_noted (kept a other) (noted_as 1 place) else kept a other)
    (λ other. by_test other (same_kind kind other) refl)
  where
    by_test : (other : Kind) (t : Bool) → same_kind kind other ≡ t →
        (if t then joined_noted (kept a kind) (noted_as 1 place) else kept a other) ≡ (if t then joined_noted (kept a other)
        (noted_as 1 place) else kept a other)
    by_test other true t = ap (λ k. joined_noted (kept a k) (noted_as 1 place)) (one_kind kind other t)
    by_test other false t = refl

-- lists that the values stand for
pub added_stands : (a : Warnings) (kind : Kind) (place : ℕ) (warnings : List Warning) → StandsFor a warnings →
    StandsFor (added a kind place) (warnings ++ warning_at place kind ∷ [])
added_stands a kind place warnings h =
    added_is a kind place ∙ (ap (λ x. joined x (warnings_of (warning_at place kind ∷ []))) h ∙ sym (warnings_of-append warnings (warning_at place kind ∷ [])))

pub joined_stands : (a b : Warnings) (warnings others : List Warning) → StandsFor a warnings → StandsFor b others → StandsFor (joined a b) (warnings ++ others)
joined_stands a b warnings others h k = ap (λ x. joined x b) h ∙ (ap (joined (warnings_of warnings)) k ∙ sym (warnings_of-append warnings others))

pub kept_of : (a : Warnings) (kind : Kind) (warnings : List Warning) → StandsFor a warnings → kept a kind ≡ noted_of kind warnings
unfolding warnings_of
kept_of a kind warnings h = ap (λ x. kept x kind) h ∙ kept_by_kind (λ k. noted_of k warnings) kind

-- the least place, where there is a count
first_there : (places : List ℕ) (count first : ℕ) → count ≡ min (length places) greatest_count → first ≡ unwrap_or (least_place places) 0 → 0 < count →
    Some first ≡ least_place places
first_there [] count first h k some = absurd (omega arith)
first_there (x ∷ xs) count first h k some =
    let found : (place : ℕ) × (least_place (x ∷ xs) ≡ Some place) = some_least x xs in
    ap Some (k ∙ ap (λ o. unwrap_or o 0) found.1) ∙ sym found.1

none_there : (places : List ℕ) (count : ℕ) → count ≡ min (length places) greatest_count → count ≡ 0 → None ≡ least_place places
none_there [] count h zero = refl
none_there (x ∷ xs) count h zero = absurd (counted greatest_count (length xs) (omega arith) (sym h ∙ zero))
  where
    counted : (limit n : ℕ) → 0 < limit → min (suc n) limit ≡ 0 → ⊥
    counted limit n h k = grind (arith, nat_tests)

pub first_is : (noted : KindWarnings) (kind : Kind) (warnings : List Warning) → noted ≡ noted_of kind warnings → 0 < noted.count
    → Some noted.first ≡ first_of kind warnings
first_is noted kind warnings h some =
    first_there (places_of kind warnings) noted.count noted.first (ap (λ x. x.count) h) (ap (λ x. x.first) h) some

pub first_is_none : (noted : KindWarnings) (kind : Kind) (warnings : List Warning) → noted ≡ noted_of kind warnings → noted.count ≡ 0
    → None ≡ first_of kind warnings
first_is_none noted kind warnings h zero = none_there (places_of kind warnings) noted.count (ap (λ x. x.count) h) zero

-- no count, no warning
count_zero : (a : Warnings) (kind : Kind) → IsTrue (none_in a) → (kept a kind).count ≡ 0
count_zero a kind none = by_test (of_kind a.counts kind == 0) refl
  where
    by_test : (t : Bool) → (of_kind a.counts kind == 0) ≡ t → of_kind a.counts kind ≡ 0
    by_test true t = grind (arith, nat_tests)
    by_test false t =
        let e : none_in a ≡ false =
        list_all_at (λ k. of_kind a.counts k == 0) kinds (index_of kind) Kind.W1 (index_small kind)
        (ap (λ k. of_kind a.counts k == 0) (kind_at_index kind) ∙ t) in cc

counted_itself : (warning : Warning) (more : List Warning) → places_of warning.kind (warning ∷ more) ≡ warning.place ∷ places_of warning.kind more
counted_itself warning more = simp (same_itself warning.kind)

pub empty_is : (a : Warnings) (warnings : List Warning) → StandsFor a warnings → IsTrue (none_in a) ↔ (warnings ≡ [])
unfolding warnings_of
empty_is a [] h = (λ _. refl, λ _. rw h refl)
empty_is a (warning ∷ more) h = (
  λ t.
      let zero : (kept a warning.kind).count ≡ 0 = count_zero a warning.kind t in
      let e : None ≡ first_of warning.kind (warning ∷ more) =
      first_is_none (kept a warning.kind) warning.kind (warning ∷ more) (kept_of a warning.kind (warning ∷ more) h) zero in
      let found : (place : ℕ) × (least_place (warning.place ∷ places_of warning.kind more) ≡ Some place) =
      some_least warning.place (places_of warning.kind more) in
      let e2 : None ≡ Some found.0 = e ∙ (ap least_place (counted_itself warning more) ∙ found.1) in cc,
  λ e. cc,
)
