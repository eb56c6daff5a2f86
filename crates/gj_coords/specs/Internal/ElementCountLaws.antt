-- What a count that stops says of an array, and what a gathering of faults says of its elements and of a list.
use Rattle.std.specs.Prelude.{◌≡◌, ℕ, suc, ◌+◌, ◌≤◌, List, [], ◌∷◌, ◌++◌, Option, Some, None, refl, length, nat_lt, if◌then◌else◌}
use Rattle.std.specs.List.{flat_map}
use Rattle.std.proofs.Common.{arith, sym, ◌∙◌, ap, add-one}
use Rattle.std.proofs.lemmas.Bool.Decides.{nat_tests}
use Rattle.gj_json.specs.declared.event.Event.{Event}
use Rattle.gj_json.specs.Tree.{Tree, array}
use Rattle.gj_coords.specs.declared.fault.Fault.{Fault}
use Rattle.gj_coords.specs.declared.fault.Rule.{Rule}
use Rattle.gj_coords.specs.declared.fault.Rule.TheVariants.{G13}
use Rattle.gj_coords.specs.declared.tally.Tally.{Tally}
use Rattle.gj_coords.specs.Fault.{fault_at, lesser, least}
use Rattle.gj_coords.specs.Items.{items}
use Rattle.gj_coords.specs.Shape.{Shape, few, several}
use Rattle.gj_coords.specs.Internal.Gathering.{Gathering, gathered, given}
use Rattle.gj_coords.specs.Internal.ElementCount.{tally_at, counted, one_counted, few_in}
use Rattle.gj_coords.specs.Internal.PositionGather.{misshapen_at}
use Rattle.gj_coords.specs.Internal.LeastLaws.{lesser-none, lesser_step, least-append, least_if}

-- the tests of a count that stops at four
counted_test : (c n needed : ℕ) → needed ≤ 4 → nat_lt (one_counted c + n) needed ≡ nat_lt (c + suc n) needed
counted_test c n needed h = grind (arith, nat_tests, add-one n, add-one c)

module _ {G A B : Type 0} (r : Gathering G A B) (meaning : Tree → A) (tally : G → Tally)
    (step : (g : G) (a : A) → tally (r.added g a) ≡ counted (tally g)) where
  pub gathered_count : (needed : ℕ) → needed ≤ 4 → (vs : List Tree) (g : G) →
      nat_lt (tally (gathered r meaning g vs)).count needed ≡ nat_lt ((tally g).count + length vs) needed
  gathered_count needed h [] g = ap (λ n. nat_lt n needed) (omega arith)
  gathered_count needed h (v ∷ more) g =
      gathered_count needed h more (r.added g (meaning v)) ∙
      (ap (λ t. nat_lt (t.count + length more) needed) (step g (meaning v)) ∙ counted_test (tally g).count (length more) needed h)

  pub gathered_place : (vs : List Tree) (g : G) → (tally (gathered r meaning g vs)).place ≡ (tally g).place
  gathered_place [] g = refl
  gathered_place (v ∷ more) g = gathered_place more (r.added g (meaning v)) ∙ ap (λ t. t.place) (step g (meaning v))

  -- too few elements, from the start
  pub few_gathered : (needed : ℕ) → needed ≤ 4 → (rule : Rule) (place : ℕ) (vs : List Tree) (g : G) → tally g ≡ tally_at place →
      few_in needed rule (tally (gathered r meaning g vs)) ≡ least (few needed rule place vs)
  few_gathered needed h rule place vs g start =
      let count : nat_lt (tally (gathered r meaning g vs)).count needed ≡ nat_lt (length vs) needed =
      gathered_count needed h vs g ∙ (ap (λ t. nat_lt (t.count + length vs) needed) start ∙ ap (λ n. nat_lt n needed) (omega arith)) in
      let at : (tally (gathered r meaning g vs)).place ≡ place = gathered_place vs g ∙ ap (λ t. t.place) start in
      ap (λ b. if b then Some (fault_at (tally (gathered r meaning g vs)).place rule) else None) count ∙
      (ap (λ p. if nat_lt (length vs) needed then Some (fault_at p rule) else None) at ∙ least_if (nat_lt (length vs) needed) (fault_at place rule))

-- the least fault of the elements
pub gathered_fault : {G A B : Type 0} (r : Gathering G A B) (meaning : Tree → A) (fault : G → Option Fault) (fault_of : A → Option Fault) (shape : Shape) →
    ((g : G) (a : A) → fault (r.added g a) ≡ lesser (fault g) (fault_of a)) →
    ((v : Tree) → fault_of (meaning v) ≡ least (shape v)) →
    (vs : List Tree) (g : G) → fault (gathered r meaning g vs) ≡ lesser (fault g) (least (flat_map shape vs))
gathered_fault r meaning fault fault_of shape h k [] g = sym (lesser-none (fault g))
gathered_fault r meaning fault fault_of shape h k (v ∷ more) g =
    lesser_step (fault g) (fault_of (meaning v)) (shape v) (flat_map shape more) _
    (gathered_fault r meaning fault fault_of shape h k more (r.added g (meaning v)) ∙ ap (λ z. lesser z (least (flat_map shape more))) (h g (meaning v)))
    (k v)

-- both together
pub both_least : (a b : Option Fault) (xs ys : List Fault) → a ≡ least xs → b ≡ least ys → lesser a b ≡ least (xs ++ ys)
both_least a b xs ys h k = ap (λ z. lesser z b) h ∙ (ap (λ z. lesser (least xs) z) k ∙ sym (least-append xs ys))

-- a list of values of one shape, whatever else is gathered of it
pub several_least : {G A B : Type 0} (r : Gathering G A B) (meaning : Tree → A) (tally : G → Tally) (fault : G → Option Fault)
    (fault_of : A → Option Fault) (shape : Shape) (needed : ℕ) (out : B → Option Fault) → needed ≤ 4 →
    ((g : G) (a : A) → tally (r.added g a) ≡ counted (tally g)) → ((g : G) (a : A) → fault (r.added g a) ≡ lesser (fault g) (fault_of a)) →
    ((place : ℕ) → tally (r.opened place) ≡ tally_at place) → ((place : ℕ) → fault (r.opened place) ≡ None) →
    ((g : G) → out (r.closed g) ≡ lesser (few_in needed G13 (tally g)) (fault g)) → ((e : Event) → out (r.otherwise e) ≡ misshapen_at e.place) →
    ((v : Tree) → fault_of (meaning v) ≡ least (shape v)) →
    (v : Tree) → out (given r meaning v) ≡ least (several needed shape v)
several_least r meaning tally fault fault_of shape needed out enough counts joins begins none closed otherwise each (array place es close) =
    closed (gathered r meaning (r.opened place) (items es)) ∙
    both_least _ _ (few needed G13 place (items es)) (flat_map shape (items es))
    (few_gathered r meaning tally counts needed enough G13 place (items es) (r.opened place) (begins place))
    (gathered_fault r meaning fault fault_of shape joins each (items es) (r.opened place) ∙
    ap (λ f. lesser f (least (flat_map shape (items es)))) (none place))
several_least r meaning tally fault fault_of shape needed out enough counts joins begins none closed otherwise each _ = otherwise _
