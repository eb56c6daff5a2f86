-- Lemmas on what is appended to a room and what goes out into a writer.
use Rattle.std.proofs.Common.{◌≡◌, ℕ, ◌+◌, ◌-◌, ◌<◌, ◌≤◌, List, ◌∷◌, ◌++◌, length, get_or, take, drop, arith, refl, sym, ap, ◌∙◌, subst, add-one, drop-cons}
use Rattle.std.proofs.Common.{length-take, take-append-drop}
use Rattle.std.specs.Prelude.{Option}
use Rattle.std.specs.Borrow.{Bor}
use Rattle.std.proofs.Math.Seq.{take-append-add}
use Rattle.std.proofs.lemmas.List.{take_rest}
use Rattle.std.proofs.lemmas.List.Concat.{flat_map-append}
use Rattle.std.specs.Io.KnownBytes.{Appends}
use Rattle.std.proofs.KnownBytes.{Appends-trans}
use Rattle.geolint.specs.Written.{joined}

pub take-add : (i n : ℕ) (xs : List ℕ) → i ≤ length xs → take (i + n) xs ≡ take i xs ++ take n (drop i xs)
take-add i n xs within =
    let front : length (take i xs) ≡ i = simp length-take (omega arith) in
    let split : take (length (take i xs) + n) (take i xs ++ drop i xs) ≡ take i xs ++ take n (drop i xs) = take-append-add (take i xs) (drop i xs) n in
    let joined : take i xs ++ drop i xs ≡ xs = take-append-drop i xs in
    subst (λ (k : ℕ). take (k + n) xs ≡ take i xs ++ take n (drop i xs)) front
    (subst (λ (ys : List ℕ). take (length (take i xs) + n) ys ≡ take i xs ++ take n (drop i xs)) joined split)

-- a front went out, and then more of what is behind it, which is `xs[i..]`
pub Appends-take_more : (a b c : Option (List ℕ)) (xs : List ℕ) (i n : ℕ) → i ≤ length xs → Appends a b (take i xs)
    → Appends b c (take n (take (length xs - i) (drop i xs))) → Appends a c (take (i + n) xs)
Appends-take_more a b c xs i n within first second =
    let more = subst (λ (ys : List ℕ). Appends b c (take n ys)) (take_rest xs i) second in
    subst (Appends a c) (sym (take-add i n xs within)) (Appends-trans a b c (take i xs) (take n (drop i xs)) first more)

-- ---- slices that go out one behind the other

pub joined-split : (pieces : List (Bor (List ℕ))) (i : ℕ) (d : Bor (List ℕ)) → i < length pieces
    → joined pieces ≡ joined (take i pieces) ++ ((get_or pieces i d).now ++ joined (drop (i + 1) pieces))
joined-split pieces i d within =
    let tail : drop i pieces ≡ get_or pieces i d ∷ drop (i + 1) pieces = rw (add-one, drop-cons pieces i d) refl in
    let parts : joined (take i pieces ++ drop i pieces) ≡ joined (take i pieces) ++ joined (drop i pieces) =
    flat_map-append (λ (p : Bor (List ℕ)). p.now) (take i pieces) (drop i pieces) in
    let whole : joined (take i pieces ++ drop i pieces) ≡ joined pieces = ap joined (take-append-drop i pieces) in
    sym whole ∙ parts ∙ ap (λ (ps : List (Bor (List ℕ))). joined (take i pieces) ++ joined ps) tail
