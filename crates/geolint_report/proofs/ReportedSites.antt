-- Lemmas on the first site of a place.
use Rattle.std.proofs.Common.{arith, refl, ap, ◌≡◌, ◌≤◌, ◌<◌, ◌∙◌, ℕ, zero, suc, Bool, true, false, List, [], ◌∷◌, length, take, get_or, Some, None}
use Rattle.std.specs.Prelude.{cond}
use Rattle.std.specs.List.{find, list_any}
use Rattle.std.proofs.lemmas.Bool.Decides.{nat_tests}
use Rattle.std.proofs.lemmas.Bool.{or_parts}
use Rattle.geolint_report.specs.Sites.{is_found_at}
use Rattle.geolint_report.specs.declared.sites.Site.{Site}

pub find-first : {A : Type 0} (test : A → Bool) (xs : List A) (i : ℕ) (d : A) → list_any test (take i xs) ≡ false → i < length xs → test (get_or xs i d) ≡ true
    → find test xs ≡ Some (get_or xs i d)
find-first test [] i d none within is = absurd (omega arith)
find-first test (x ∷ xs) zero d none within is = ap (λ b. cond b (Some x) (find test xs)) is
find-first test (x ∷ xs) (suc i) d none within is =
    ap (λ b. cond b (Some x) (find test xs)) (or_parts (test x) (list_any test (take i xs)) none).0
    ∙ find-first test xs i d (or_parts (test x) (list_any test (take i xs)) none).1 (omega arith) is

pub find-none : {A : Type 0} (test : A → Bool) (xs : List A) (i : ℕ) → list_any test (take i xs) ≡ false → length xs ≤ i → find test xs ≡ None
find-none test [] i none all = refl
find-none test (x ∷ xs) zero none all = absurd (omega arith)
find-none test (x ∷ xs) (suc i) none all =
    ap (λ b. cond b (Some x) (find test xs)) (or_parts (test x) (list_any test (take i xs)) none).0
    ∙ find-none test xs i (or_parts (test x) (list_any test (take i xs)) none).1 (omega arith)

pub found-here : (place : ℕ) (site : Site) → site.is_found ≡ true → site.place ≡ place → is_found_at place site ≡ true
found-here place site found here = grind (arith, nat_tests, found, here)
