-- The least of some faults is one of them, and none of them comes before it.
use Rattle.gj_coords.proofs.Common.{Fault, ap, arith, comes_first, least, lesser, nat_tests, subst, sym, ◌∙◌}
use Rattle.std.proofs.Common.{◌≡◌, ◌↔◌, ℕ, List, [], ◌∷◌, ◌++◌, Some, None, Bool, true, false, refl, IsTrue}
use Rattle.std.proofs.Common.{if◌then◌else◌}
use Rattle.std.specs.List.{AllByRecursion}
use Rattle.gj_coords.specs.Fault.{number_of}
use Rattle.gj_coords.specs.Internal.LeastLaws.{Tests, goes_on}

itself : (p r : ℕ) → Tests p r p r ≡ true
itself p r = grind (arith, nat_tests)

other_way : (p r q s : ℕ) → Tests p r q s ≡ false → Tests q s p r ≡ true
other_way p r q s h = grind (arith, nat_tests)

-- the fault is one of them, and comes before each or is the same
record IsLeast (fault : Fault) (faults : List Fault) : Type 0 where
  before : List Fault
  after : List Fault
  joined : faults ≡ before ++ fault ∷ after
  first : AllByRecursion (λ other. comes_first fault other ≡ true) faults

-- what comes before the first of all comes before all
before_all : (x y : Fault) (faults : List Fault) → comes_first x y ≡ true →
    AllByRecursion (λ other. comes_first y other ≡ true) faults → AllByRecursion (λ other. comes_first x other ≡ true) faults
before_all x y [] h k = tt
before_all x y (z ∷ more) h k =
    (goes_on x.place (number_of x.rule) y.place (number_of y.rule) z.place (number_of z.rule) h k.0, before_all x y more h k.1)

two : (b : Bool) (x y : Fault) (more : List Fault) → comes_first x y ≡ b → IsLeast y more → IsLeast (if b then x else y) (x ∷ more)
two true x y more h k = record {
  before = [];
  after = more;
  joined = refl;
  first = (itself x.place (number_of x.rule), before_all x y more h k.first);
}
two false x y more h k = record {
  before = x ∷ k.before;
  after = k.after;
  joined = ap (λ xs. x ∷ xs) k.joined;
  first = (other_way x.place (number_of x.rule) y.place (number_of y.rule) h, k.first);
}

-- the least of a list that is not empty
some_least : (x : Fault) (more : List Fault) → (fault : Fault) × (least (x ∷ more) ≡ Some fault) × IsLeast fault (x ∷ more)
some_least x [] = (x, refl, record { before = []; after = []; joined = refl; first = (itself x.place (number_of x.rule), tt) })
some_least x (y ∷ more) =
    let rest : (fault : Fault) × (least (y ∷ more) ≡ Some fault) × IsLeast fault (y ∷ more) = some_least y more in (
      if comes_first x rest.0 then x else rest.0,
      ap (lesser (Some x)) rest.1
          ∙ chosen (comes_first x rest.0) x rest.0,
      two (comes_first x rest.0) x rest.0 (y ∷ more) refl rest.2,
    )
  where
    chosen : (b : Bool) (u v : Fault) → (if b then Some u else Some v) ≡ Some (if b then u else v)
    chosen true u v = refl
    chosen false u v = refl

pub least_none : (faults : List Fault) → (least faults ≡ None) ↔ (faults ≡ [])
least_none [] = (λ h. refl, λ h. refl)
least_none (x ∷ more) = (λ h. let found = some_least x more in let e : Some found.0 ≡ None = sym found.1 ∙ h in cc, λ h. cc)

is_least : (faults : List Fault) (fault : Fault) → least faults ≡ Some fault → IsLeast fault faults
is_least [] fault h = cc
is_least (x ∷ more) fault h =
    let found = some_least x more in
    let e : Some found.0 ≡ Some fault = sym found.1 ∙ h in
    let same : found.0 ≡ fault = cc in
    let P : Fault → Type 0 = λ f. IsLeast f (x ∷ more) in subst P same found.2

pub least_is_one : (faults : List Fault) (fault : Fault) → least faults ≡ Some fault → (before : List Fault) × (after : List Fault)
    × (faults ≡ before ++ fault ∷ after)
least_is_one faults fault h = let l : IsLeast fault faults = is_least faults fault h in (l.before, l.after, l.joined)

pub least_is_first : (faults : List Fault) (fault : Fault) → least faults ≡ Some fault → AllByRecursion (λ other. IsTrue (comes_first fault other)) faults
least_is_first faults fault h = (is_least faults fault h).first
