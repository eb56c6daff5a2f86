-- Laws of what is kept of the warnings of one kind.
use Rattle.std.specs.Prelude.{◌≡◌, ℕ, ◌+◌, min, ◌==◌, ◌<◌, Bool, true, false, ◌&&◌, List, [], ◌∷◌, ◌++◌, map, filter, length, Option, Some, None, unwrap_or}
use Rattle.std.specs.Prelude.{refl, suc}
use Rattle.std.proofs.Common.{arith, sym, ◌∙◌, ap, length-append}
use Rattle.std.proofs.lemmas.Bool.Decides.{nat_tests}
use Rattle.std.proofs.lemmas.List.{map-append, append-nil}
use Rattle.std.proofs.lemmas.List.Elements.{filter-append}
use Rattle.gj_coords.specs.declared.kind.Kind.{Kind}
use Rattle.gj_coords.specs.declared.kind_warnings.KindWarnings.{KindWarnings}
use Rattle.gj_coords.specs.Warnings.{Warning, same_kind, places_of, greatest_count, least_place, lesser_place}
use Rattle.gj_coords.specs.Internal.KeptWarnings.{noted_as, noted_of, nothing_noted, is_nothing, joined_noted}

-- where neither is nothing, both together are not
abbrev both : KindWarnings → KindWarnings → KindWarnings
both a b = noted_as (min (a.count + b.count) greatest_count) (min a.first b.first)

least_nonzero : (limit m n p q : ℕ) → 0 < limit → (m == 0 && p == 0) ≡ false → (n == 0 && q == 0) ≡ false → (min (m + n) limit == 0 && min p q == 0) ≡ false
least_nonzero limit m n p q l h k = grind (arith, nat_tests)

both_something : (a b : KindWarnings) → is_nothing a ≡ false → is_nothing b ≡ false → is_nothing (both a b) ≡ false
both_something a b h k = least_nonzero greatest_count a.count b.count a.first b.first (omega arith) h k

pub joined_something : (a b : KindWarnings) → is_nothing a ≡ false → is_nothing b ≡ false → is_nothing (joined_noted a b) ≡ false
joined_something a b h k = simp (h, k) (both_something a b h k)

counts_group : (limit m n p : ℕ) → min (min (m + n) limit + p) limit ≡ min (m + min (n + p) limit) limit
counts_group limit m n p = omega arith

firsts_group : (p q r : ℕ) → min (min p q) r ≡ min p (min q r)
firsts_group p q r = omega arith

both_group : (a b c : KindWarnings) → both (both a b) c ≡ both a (both b c)
both_group a b c =
    ap (λ count. noted_as count (min (min a.first b.first) c.first)) (counts_group greatest_count a.count b.count c.count)
    ∙ ap (λ first. noted_as (min (a.count + min (b.count + c.count) greatest_count) greatest_count) first) (firsts_group a.first b.first c.first)

pub nothing_at_zero : (a : KindWarnings) → is_nothing a ≡ true → nothing_noted ≡ a
nothing_at_zero a h =
    let count : 0 ≡ a.count = zero_count a.count a.first h in
    let first : 0 ≡ a.first = zero_first a.count a.first h in
    ap (λ n. noted_as n 0) count ∙ ap (λ n. noted_as a.count n) first
  where
    zero_count : (m p : ℕ) → (m == 0 && p == 0) ≡ true → 0 ≡ m
    zero_count m p h = grind (arith, nat_tests)

    zero_first : (m p : ℕ) → (m == 0 && p == 0) ≡ true → 0 ≡ p
    zero_first m p h = grind (arith, nat_tests)

pub joined_noted_none : (a : KindWarnings) → joined_noted a nothing_noted ≡ a
joined_noted_none a = by_test (is_nothing a) refl
  where
    by_test : (t : Bool) → is_nothing a ≡ t → joined_noted a nothing_noted ≡ a
    by_test true h = simp h (nothing_at_zero a h)
    by_test false h = simp h

group_of : (a b c : KindWarnings) (ta tb tc : Bool) → is_nothing a ≡ ta → is_nothing b ≡ tb → is_nothing c ≡ tc →
    joined_noted (joined_noted a b) c ≡ joined_noted a (joined_noted b c)
group_of a b c true tb tc x y z = simp x
group_of a b c false true tc x y z = simp (x, y)
group_of a b c false false true x y z = let w : is_nothing (both a b) ≡ false = both_something a b x y in simp (x, y, z, w)
group_of a b c false false false x y z =
    let v : is_nothing (both a b) ≡ false = both_something a b x y in
    let w : is_nothing (both b c) ≡ false = both_something b c y z in
    simp (x, y, z, v, w) (both_group a b c)

pub joined_noted_assoc : (a b c : KindWarnings) → joined_noted (joined_noted a b) c ≡ joined_noted a (joined_noted b c)
joined_noted_assoc a b c = group_of a b c _ _ _ refl refl refl

both_order : (a b : KindWarnings) → both a b ≡ both b a
both_order a b =
    ap (λ count. noted_as count (min a.first b.first)) (counts_order greatest_count a.count b.count)
    ∙ ap (λ first. noted_as (min (b.count + a.count) greatest_count) first) (firsts_order a.first b.first)
  where
    counts_order : (limit m n : ℕ) → min (m + n) limit ≡ min (n + m) limit
    counts_order limit m n = omega arith

    firsts_order : (p q : ℕ) → min p q ≡ min q p
    firsts_order p q = omega arith

order_of : (a b : KindWarnings) (ta tb : Bool) → is_nothing a ≡ ta → is_nothing b ≡ tb → joined_noted a b ≡ joined_noted b a
order_of a b true true x y = simp (x, y) (sym (nothing_at_zero b y) ∙ nothing_at_zero a x)
order_of a b true false x y = simp (x, y)
order_of a b false true x y = simp (x, y)
order_of a b false false x y = simp (x, y) (both_order a b)

pub joined_noted_comm : (a b : KindWarnings) → joined_noted a b ≡ joined_noted b a
joined_noted_comm a b = order_of a b _ _ refl refl

-- what is kept of the places of one kind
abbrev pub summary : List ℕ → KindWarnings
summary places = noted_as (min (length places) greatest_count) (unwrap_or (least_place places) 0)

lesser_place_assoc : (a b c : Option ℕ) → lesser_place (lesser_place a b) c ≡ lesser_place a (lesser_place b c)
lesser_place_assoc None b c = refl
lesser_place_assoc (Some a) None c = refl
lesser_place_assoc (Some a) (Some b) None = refl
lesser_place_assoc (Some a) (Some b) (Some c) = ap Some (firsts_group a b c)

pub least_place-append : (xs ys : List ℕ) → least_place (xs ++ ys) ≡ lesser_place (least_place xs) (least_place ys)
least_place-append [] ys = refl
least_place-append (x ∷ xs) ys =
    ap (λ z. lesser_place (Some x) z) (least_place-append xs ys) ∙ sym (lesser_place_assoc (Some x) (least_place xs) (least_place ys))

-- the least of some places is there
pub some_least : (x : ℕ) (xs : List ℕ) → (place : ℕ) × (least_place (x ∷ xs) ≡ Some place)
some_least x xs = one_there (least_place xs)
  where
    one_there : (rest : Option ℕ) → (place : ℕ) × (lesser_place (Some x) rest ≡ Some place)
    one_there None = (x, refl)
    one_there (Some place) = (min x place, refl)

some_counted : (limit n place : ℕ) → 0 < limit → (min (suc n) limit == 0 && place == 0) ≡ false
some_counted limit n place h = grind (arith, nat_tests)

summary_something : (x : ℕ) (xs : List ℕ) → is_nothing (summary (x ∷ xs)) ≡ false
summary_something x xs = some_counted greatest_count (length xs) (unwrap_or (least_place (x ∷ xs)) 0) (omega arith)

first_of_both : (a b c : Option ℕ) (p q : ℕ) → c ≡ lesser_place a b → a ≡ Some p → b ≡ Some q → unwrap_or c 0 ≡ min (unwrap_or a 0) (unwrap_or b 0)
first_of_both a b c p q h x y = rw (h, x, y) refl

count_of_both : (limit m n k : ℕ) → k ≡ m + n → min k limit ≡ min (min m limit + min n limit) limit
count_of_both limit m n k h = omega arith

summary_both : (x : ℕ) (xs : List ℕ) (y : ℕ) (ys : List ℕ) → summary ((x ∷ xs) ++ (y ∷ ys)) ≡ both (summary (x ∷ xs)) (summary (y ∷ ys))
summary_both x xs y ys =
    let p : (place : ℕ) × (least_place (x ∷ xs) ≡ Some place) = some_least x xs in
    let q : (place : ℕ) × (least_place (y ∷ ys) ≡ Some place) = some_least y ys in
    ap (λ count. noted_as count (unwrap_or (least_place ((x ∷ xs) ++ (y ∷ ys))) 0))
    (count_of_both greatest_count (length (x ∷ xs)) (length (y ∷ ys)) (length ((x ∷ xs) ++ (y ∷ ys))) (length-append (x ∷ xs) (y ∷ ys)))
    ∙ ap (λ first. noted_as (min (min (length (x ∷ xs)) greatest_count + min (length (y ∷ ys)) greatest_count) greatest_count) first)
    (first_of_both (least_place (x ∷ xs)) (least_place (y ∷ ys)) (least_place ((x ∷ xs) ++ (y ∷ ys))) p.0 q.0 (least_place-append (x ∷ xs) (y ∷ ys)) p.1 q.1)

joined_both : (a b : KindWarnings) → is_nothing a ≡ false → is_nothing b ≡ false → joined_noted a b ≡ both a b
joined_both a b h k = simp (h, k)

summary-append : (xs ys : List ℕ) → summary (xs ++ ys) ≡ joined_noted (summary xs) (summary ys)
summary-append [] ys = refl
summary-append (x ∷ xs) [] = ap summary (append-nil (x ∷ xs)) ∙ sym (joined_noted_none (summary (x ∷ xs)))
summary-append (x ∷ xs) (y ∷ ys) =
    summary_both x xs y ys ∙ sym (joined_both (summary (x ∷ xs)) (summary (y ∷ ys)) (summary_something x xs) (summary_something y ys))

pub places_of-append : (kind : Kind) (xs ys : List Warning) → places_of kind (xs ++ ys) ≡ places_of kind xs ++ places_of kind ys
places_of-append kind xs ys =
    ap (map (λ w. w.place)) (filter-append (λ w. same_kind w.kind kind) xs ys)
    ∙ map-append (λ w. w.place) (filter (λ w. same_kind w.kind kind) xs) (filter (λ w. same_kind w.kind kind) ys)

pub noted_of-append : (kind : Kind) (xs ys : List Warning) → noted_of kind (xs ++ ys) ≡ joined_noted (noted_of kind xs) (noted_of kind ys)
noted_of-append kind xs ys = ap summary (places_of-append kind xs ys) ∙ summary-append (places_of kind xs) (places_of kind ys)
