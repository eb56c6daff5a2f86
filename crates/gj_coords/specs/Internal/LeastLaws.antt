-- Laws of `lesser` and `least`, for whoever joins faults: they can be taken in any grouping.
use Rattle.std.specs.Prelude.{◌≡◌, ℕ, List, [], ◌∷◌, ◌++◌, Option, Some, None, Bool, true, false, refl, nat_lt, nat_eq, nat_le, ◌&&◌, ◌||◌, if◌then◌else◌}
use Rattle.std.proofs.Common.{arith, sym, ◌∙◌, ap}
use Rattle.std.proofs.lemmas.Bool.Decides.{nat_tests}
use Rattle.gj_coords.specs.declared.fault.Fault.{Fault}
use Rattle.gj_coords.specs.Fault.{comes_first, lesser, least, number_of}

-- the test on two places and two numbers of rules
abbrev pub Tests : ℕ → ℕ → ℕ → ℕ → Bool
Tests p r q s = nat_lt p q || (nat_eq p q && nat_le r s)

pub goes_on : (p r q s t u : ℕ) → Tests p r q s ≡ true → Tests q s t u ≡ true → Tests p r t u ≡ true
goes_on p r q s t u h k = grind (arith, nat_tests)

stays_out : (p r q s t u : ℕ) → Tests p r q s ≡ false → Tests q s t u ≡ false → Tests p r t u ≡ false
stays_out p r q s t u h k = grind (arith, nat_tests)

pub lesser-none : (a : Option Fault) → lesser a None ≡ a
lesser-none None = refl
lesser-none (Some a) = refl

assoc_of : (a b c : Fault) (ab bc ac : Bool) → comes_first a b ≡ ab → comes_first b c ≡ bc → comes_first a c ≡ ac →
    lesser (lesser (Some a) (Some b)) (Some c) ≡ lesser (Some a) (lesser (Some b) (Some c))
assoc_of a b c true true ac x y z =
    let w : comes_first a c ≡ true = goes_on a.place (number_of a.rule) b.place (number_of b.rule) c.place (number_of c.rule) x y in simp (x, y, w)
assoc_of a b c true false ac x y z = simp (x, y)
assoc_of a b c false true ac x y z = simp (x, y)
assoc_of a b c false false ac x y z =
    let w : comes_first a c ≡ false = stays_out a.place (number_of a.rule) b.place (number_of b.rule) c.place (number_of c.rule) x y in simp (x, y, w)

pub lesser_assoc : (a b c : Option Fault) → lesser (lesser a b) c ≡ lesser a (lesser b c)
lesser_assoc None b c = refl
lesser_assoc (Some a) None c = refl
lesser_assoc (Some a) (Some b) None = lesser-none (lesser (Some a) (Some b))
lesser_assoc (Some a) (Some b) (Some c) = assoc_of a b c _ _ _ refl refl refl

pub least-append : (xs ys : List Fault) → least (xs ++ ys) ≡ lesser (least xs) (least ys)
least-append [] ys = refl
least-append (x ∷ xs) ys = ap (λ z. lesser (Some x) z) (least-append xs ys) ∙ sym (lesser_assoc (Some x) (least xs) (least ys))

-- one more fault and then the rest
pub lesser_step : (f x : Option Fault) (xs ys : List Fault) (total : Option Fault) →
    total ≡ lesser (lesser f x) (least ys) → x ≡ least xs → total ≡ lesser f (least (xs ++ ys))
lesser_step f x xs ys total h k =
    h ∙ (lesser_assoc f x (least ys) ∙ (ap (λ z. lesser f (lesser z (least ys))) k ∙ sym (ap (λ z. lesser f z) (least-append xs ys))))

pub least_if : (b : Bool) (x : Fault) → (if b then Some x else None) ≡ least (if b then x ∷ [] else [])
least_if true x = refl
least_if false x = refl
