-- The least of some faults does not depend on their order.
use Rattle.gj_rules.proofs.Common.{Bool, Fault, List, Rule, ap, arith, comes_first, false, least, least-append, lesser, lesser-none, lesser_assoc}
use Rattle.gj_rules.proofs.Common.{nat_tests, refl, rules, sym, true, ◌++◌, ◌∙◌}
use denote.Enum.Bare.{tag_one}
use Rattle.std.proofs.Common.{◌≡◌, ℕ, Option, Some, None}
use Rattle.gj_coords.specs.contracts.fault.Rule.{the_type}
use Rattle.gj_coords.specs.Fault.{number_of}
use Rattle.gj_coords.specs.Internal.LeastLaws.{Tests}

-- where each comes before the other, they are the same
both_first : (p r q s : ℕ) → Tests p r q s ≡ true → Tests q s p r ≡ true → (p ≡ q) × (r ≡ s)
both_first p r q s h k = (grind (arith, nat_tests), grind (arith, nat_tests))

some_first : (p r q s : ℕ) → Tests p r q s ≡ false → Tests q s p r ≡ false → ⊥
some_first p r q s h k = grind (arith, nat_tests)

one_rule : (r s : Rule) → number_of r ≡ number_of s → r ≡ s
one_rule r s e = tag_one the_type (search rules) r s (omega arith)

comm_of : (a b : Fault) (ab ba : Bool) → comes_first a b ≡ ab → comes_first b a ≡ ba → lesser (Some a) (Some b) ≡ lesser (Some b) (Some a)
comm_of a b true true x y =
    let e = both_first a.place (number_of a.rule) b.place (number_of b.rule) x y in
    let r : a.rule ≡ b.rule = one_rule a.rule b.rule e.1 in
    simp (x, y) (λ i. Some (record { place = e.0 i; rule = r i }))
comm_of a b true false x y = simp (x, y)
comm_of a b false true x y = simp (x, y)
comm_of a b false false x y = absurd (some_first a.place (number_of a.rule) b.place (number_of b.rule) x y)

pub lesser_comm : (a b : Option Fault) → lesser a b ≡ lesser b a
lesser_comm None b = sym (lesser-none b)
lesser_comm (Some a) None = refl
lesser_comm (Some a) (Some b) = comm_of a b _ _ refl refl

pub least_after : (xs ys zs : List Fault) → least ys ≡ least zs → least (xs ++ ys) ≡ least (xs ++ zs)
least_after xs ys zs e = least-append xs ys ∙ (ap (lesser (least xs)) e ∙ sym (least-append xs zs))

pub least_swap : (xs ys zs : List Fault) → least (xs ++ (ys ++ zs)) ≡ least (ys ++ (xs ++ zs))
least_swap xs ys zs =
    rw (least-append xs (ys ++ zs), least-append ys zs, least-append ys (xs ++ zs), least-append xs zs)
    (sym (lesser_assoc (least xs) (least ys) (least zs))
    ∙ (ap (λ (x : Option Fault). lesser x (least zs)) (lesser_comm (least xs) (least ys)) ∙ lesser_assoc (least ys) (least xs) (least zs)))
