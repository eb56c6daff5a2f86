-- Lists with one element more, and what their elements give one after another.
use Rattle.std.proofs.Common.{arith, ◌≡◌, ℕ, ◌+◌, ◌<◌, ◌≤◌, List, [], ◌∷◌, ◌++◌, length, get_or, take, ap, ◌∙◌, subst, append-nil}
use Rattle.std.specs.List.{flat_map}
use Rattle.std.proofs.lemmas.List.{length-take, take_more, take-append-le}
use Rattle.std.proofs.lemmas.List.Concat.{flat_map-append}

-- where there is no room for one more, the first elements stay the same
pub take-full : {A : Type 0} (room : ℕ) (all : List A) (x : A) → room ≤ length (take room all) → take room (all ++ x ∷ []) ≡ take room all
take-full room all x none =
    let many : room ≤ length all = omega (arith, none, length-take room all) in
    take-append-le room all (x ∷ []) many

pub parts-more : {A B : Type 0} (part : A → List B) (xs : List A) (i : ℕ) (d : A) → i < length xs
    → flat_map part (take (i + 1) xs) ≡ flat_map part (take i xs) ++ part (get_or xs i d)
parts-more {A = A} {B = B} part xs i d within =
    ap (λ (ys : List A). flat_map part ys) (take_more xs i d within)
    ∙ (flat_map-append part (take i xs) (get_or xs i d ∷ []) ∙ ap (λ (ys : List B). flat_map part (take i xs) ++ ys) (append-nil (part (get_or xs i d))))

-- with the element itself in the place of that at its index
pub part-more : {A B : Type 0} (part : A → List B) (xs : List A) (i : ℕ) (x d : A) → i < length xs → get_or xs i d ≡ x
    → flat_map part (take (i + 1) xs) ≡ flat_map part (take i xs) ++ part x
part-more {A = A} {B = B} part xs i x d within is =
    subst (λ (y : A). flat_map part (take (i + 1) xs) ≡ flat_map part (take i xs) ++ part y) is (parts-more part xs i d within)
