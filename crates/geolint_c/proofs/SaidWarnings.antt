-- The warnings that are said of each kind, all at its first place, are counted as those that they were said of.
use Rattle.std.proofs.Common.{◌≡◌, ℕ, zero, suc, min, ◌<◌, Bool, true, false, if◌then◌else◌, List, [], ◌∷◌, ◌++◌, length, map, replicate, flat_map, Option, Some, None}
use Rattle.std.proofs.Common.{unwrap_or, refl, sym, ap, ◌∙◌, arith}
use Rattle.std.proofs.lemmas.List.{append-nil, length-replicate}
use Rattle.gj_coords.specs.declared.kind.Kind.{Kind}
use Rattle.gj_coords.specs.declared.kind_warnings.KindWarnings.{KindWarnings}
use Rattle.gj_coords.specs.declared.warnings.Warnings.{Warnings}
use Rattle.gj_coords.specs.Internal.KeptWarnings.{noted_as, noted_of, warnings_of}
use Rattle.gj_coords.specs.Internal.KeptWarningLaws.{places_of-append}
use Rattle.gj_coords.specs.Internal.WarningLaws.{by_kind_alike}
use Rattle.gj_coords.specs.Warnings.{Warning, warning_at, kinds, same_kind, places_of, greatest_count, least_place, lesser_place}
use Rattle.gj_coords.specs.WarningsStand.{StandsFor}
use Rattle.geolint_c.specs.declared.report.Warned.{Warned}
use Rattle.geolint_c.specs.Report.{place_or_zero, warned_of, all_warned}
use Rattle.geolint_c.specs.Sum.{all_said}

-- ---- the places of a kind

places_alike : (count place : ℕ) (kind other : Kind) (t : Bool) → same_kind kind other ≡ t
    → places_of other (replicate count (warning_at place kind)) ≡ (if t then replicate count place else [])
places_alike zero place kind other true h = refl
places_alike zero place kind other false h = refl
places_alike (suc n) place kind other true h = simp h (ap (λ (xs : List ℕ). place ∷ xs) (places_alike n place kind other true h))
places_alike (suc n) place kind other false h = simp h (places_alike n place kind other false h)

abbrev places_said : (Kind → Warned) → Kind → List ℕ
places_said said kind = replicate (min (said kind).count greatest_count) (said kind).first

abbrev said_of : (Kind → Warned) → Kind → Kind → List ℕ
said_of said other kind = if same_kind kind other then places_said said kind else []

places_in : (said : Kind → Warned) (other : Kind) (ks : List Kind)
    → places_of other (all_said ks (map said ks)) ≡ flat_map (said_of said other) ks
places_in said other [] = refl
places_in said other (kind ∷ ks) =
    places_of-append other (replicate (min (said kind).count greatest_count) (warning_at (said kind).first kind)) (all_said ks (map said ks))
    ∙ (ap (λ (xs : List ℕ). xs ++ places_of other (all_said ks (map said ks)))
    (places_alike (min (said kind).count greatest_count) (said kind).first kind other (same_kind kind other) refl)
    ∙ ap (λ (xs : List ℕ). said_of said other kind ++ xs) (places_in said other ks))

own_places : (said : Kind → Warned) (kind : Kind) → flat_map (said_of said kind) kinds ≡ places_said said kind
own_places said Kind.W1 = append-nil (places_said said Kind.W1)
own_places said kind = append-nil (places_said said kind)

-- ---- what is kept of them

abbrev noted : List ℕ → KindWarnings
noted places = noted_as (min (length places) greatest_count) (unwrap_or (least_place places) 0)

least_of_some : (place : ℕ) (rest : Option ℕ) → (least : ℕ) × (lesser_place (Some place) rest ≡ Some least)
least_of_some place None = (place, refl)
least_of_some place (Some other) = (min place other, refl)

least_alike : (n place : ℕ) → least_place (replicate (suc n) place) ≡ Some place
least_alike zero place = refl
least_alike (suc n) place = ap (lesser_place (Some place)) (least_alike n place) ∙ ap Some (itself place)
  where
    itself : (p : ℕ) → min p p ≡ p
    itself p = omega arith

noted_alike : (count place : ℕ) → 0 < count → noted (replicate count place) ≡ noted_as (min count greatest_count) place
noted_alike zero place some = elim some [ ]
noted_alike (suc n) place some =
    ap (λ (m : ℕ). noted_as (min m greatest_count) (unwrap_or (least_place (replicate (suc n) place)) 0)) (length-replicate (suc n) place)
    ∙ ap (λ (o : Option ℕ). noted_as (min (suc n) greatest_count) (unwrap_or o 0)) (least_alike n place)

noted_said : (places : List ℕ) → noted (replicate (min (min (length places) greatest_count) greatest_count) (place_or_zero (least_place places))) ≡ noted places
noted_said [] = refl
noted_said (place ∷ more) =
    let (least, is) = least_of_some place (least_place more) in
    let first = place_or_zero (least_place (place ∷ more)) in
    let count = min (length (place ∷ more)) greatest_count in
    noted_alike (min count greatest_count) first (omega arith)
    ∙ (ap (λ (n : ℕ). noted_as n first) (omega arith)
    ∙ ap (λ (n : ℕ). noted_as count n) (ap place_or_zero is ∙ sym (ap (λ (o : Option ℕ). unwrap_or o 0) is)))

pub all_kept : (kept : Warnings) (all : List Warning) → StandsFor kept (all_said kinds (all_warned all)) → StandsFor kept all
unfolding warnings_of
all_kept kept all stands = stands ∙ by_kind_alike (λ kind. noted_of kind (all_said kinds (all_warned all))) (λ kind. noted_of kind all)
    (λ kind. ap noted (places_in (warned_of all) kind kinds ∙ own_places (warned_of all) kind) ∙ noted_said (places_of kind all))
