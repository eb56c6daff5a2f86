-- What is put of the elements of a list, one after another.
use Rattle.std.proofs.Common.{◌≡◌, ℕ, ◌+◌, ◌<◌, List, ◌++◌, length, get_or, take, ap, sym, ◌∙◌, append_assoc}
use Rattle.std.specs.List.{flat_map}
use Rattle.geolint_report.proofs.ElementsInTurn.{parts-more}

-- with one element more
pub one-more : {A B : Type 0} (line : A → List B) (xs : List A) (i : ℕ) (d : A) (start middle new : List B) → i < length xs
    → middle ≡ start ++ flat_map line (take i xs) → new ≡ middle ++ line (get_or xs i d) → new ≡ start ++ flat_map line (take (i + 1) xs)
one-more {A = A} {B = B} line xs i d start middle new within before is =
    is ∙ (ap (λ (ys : List B). ys ++ line (get_or xs i d)) before
    ∙ (append_assoc start (flat_map line (take i xs)) (line (get_or xs i d)) ∙ ap (λ (ys : List B). start ++ ys) (sym (parts-more line xs i d within))))
