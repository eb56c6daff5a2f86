use Rattle.geolint_report.proofs.Common.{subst, sym, ℕ, List, Contains, IsNonDecreasing}
use Rattle.std.proofs.lemmas.List.Kept.{IsNonDecreasingBy-filter}
use Rattle.std.proofs.lemmas.List.Sorted.{IsNonDecreasingBy-from_sort}
use Rattle.geolint_report.specs.Internal.SoughtPlaces.{is_sought}
use Rattle.geolint_report.proofs.PlacesInOrder.{each_place, only_places}
use Rattle.geolint_report.proofs.report.warned_places.Goals as goal

pub returns-clause-all : goal.returns-clause-all
returns-clause-all c = λ place told below.
    subst (λ (ys : List ℕ). Contains ys place) (sym c.sites_at.ensures.sought)
    (each_place c.args.warnings.now c.first_places-places.result _ c.first_places-places.ensures.ten c.first_places-places.ensures.kinds
    c.sort_unstable.ensures.permutation place told below)

pub returns-clause-only : goal.returns-clause-only
returns-clause-only c = λ place told.
    only_places c.args.warnings.now c.first_places-places.result _ c.first_places-places.ensures.ten c.first_places-places.ensures.kinds
    c.first_places-places.ensures.last
    c.sort_unstable.ensures.permutation place (subst (λ (ys : List ℕ). Contains ys place) c.sites_at.ensures.sought told)

pub returns-clause-ordered : goal.returns-clause-ordered
returns-clause-ordered c =
    subst IsNonDecreasing (sym c.sites_at.ensures.sought)
    (IsNonDecreasingBy-filter (λ (x : ℕ). x) is_sought _ (IsNonDecreasingBy-from_sort (λ (x : ℕ). x) _ c.sort_unstable.ensures.sorted))
