-- The reader of a position reports its least fault and its first values.
use Rattle.std.specs.Prelude.{◌≡◌, ℕ, zero, suc, ◌+◌, List, [], ◌∷◌, ◌++◌, Option, Some, None, Bool, true, false, ◌&&◌, if◌then◌else◌, is_some, refl, map, take}
use Rattle.std.specs.Prelude.{drop, nat_lt}
use Rattle.std.specs.List.{flat_map}
use Rattle.std.specs.Option.{option_eq}
use Rattle.std.specs.Cmp.Lexicographic.{pointwise}
use Rattle.std.proofs.Common.{arith, sym, ◌∙◌, ap, append_assoc}
use Rattle.std.proofs.lemmas.Bool.Decides.{nat_tests}
use Rattle.gj_number.specs.Exact.{Exact, same_parts}
use Rattle.gj_number.specs.Value.{value_of}
use Rattle.gj_json.specs.declared.constant.Constant.TheVariants.{Null}
use Rattle.gj_json.specs.declared.event.What.{What}
use Rattle.gj_json.specs.Tree.{Tree, constant, number, array}
use Rattle.gj_coords.specs.declared.fault.Fault.{Fault}
use Rattle.gj_coords.specs.declared.fault.Rule.TheVariants.{G11, G12, G16}
use Rattle.gj_coords.specs.declared.kind_warnings.KindWarnings.{KindWarnings}
use Rattle.gj_coords.specs.declared.position.Numbers.{Numbers}
use Rattle.gj_coords.specs.declared.position.Values.{Values}
use Rattle.gj_coords.specs.declared.tally.Tally.{Tally}
use Rattle.gj_coords.specs.Fault.{fault_at, lesser, least}
use Rattle.gj_coords.specs.Items.{items, elements_of}
use Rattle.gj_coords.specs.Ring.{exact_value, first_values, agree}
use Rattle.gj_coords.specs.Shape.{few, held_number, number_or, position}
use Rattle.gj_coords.specs.Internal.SentEvents.{event_at, head}
use Rattle.gj_coords.specs.Internal.Gathering.{gathered}
use Rattle.gj_coords.specs.Internal.PositionGather.{no_values, pushed, same_values, number_fault, value_in, numbers_start, number_added, numbers_gathering}
use Rattle.gj_coords.specs.Internal.PositionGather.{position_answer}
use Rattle.gj_coords.specs.Internal.LeastLaws.{lesser-none, lesser_step}
use Rattle.gj_coords.specs.Internal.ElementCountLaws.{gathered_place, few_gathered, both_least}

-- ---- the least fault

-- the faults of a position's elements, of which so many are among the first three
abbrev numbers_faults : ℕ → List Tree → List Fault
numbers_faults left vs = flat_map held_number (take left vs) ++ flat_map (number_or G11) (drop left vs)

held_least : (place : ℕ) (value : Option Exact) → number_fault true place (What.Number value) ≡ least (if is_some value then [] else fault_at place G16 ∷ [])
held_least place (Some value) = refl
held_least place None = refl

any_least : (place : ℕ) (value : Option Exact) → number_fault false place (What.Number value) ≡ None
any_least place (Some value) = refl
any_least place None = refl

held_number_least : (v : Tree) → number_fault true (head v).place (head v).what ≡ least (held_number v)
held_number_least (constant Null place) = refl
held_number_least (number place literal end) = held_least place (value_of literal)
held_number_least _ = refl

any_number_least : (v : Tree) → number_fault false (head v).place (head v).what ≡ least (number_or G11 v)
any_number_least (constant Null place) = refl
any_number_least (number place literal end) = any_least place (value_of literal)
any_number_least _ = refl

pub among_first : (c left : ℕ) → c + suc left ≡ 3 → nat_lt c 3 ≡ true
among_first c left h = grind (arith, nat_tests)

pub not_among_first : (c : ℕ) → c + 0 ≡ 3 → nat_lt c 3 ≡ false
not_among_first c h = grind (arith, nat_tests)

pub pushed_count : (c left : ℕ) (value : Option Exact) (v : Values) → c + suc left ≡ 3 → (pushed c value v).count + left ≡ 3
pushed_count zero left value v h = omega arith
pushed_count (suc zero) left value v h = omega arith
pushed_count (suc (suc zero)) left value v h = omega arith
pushed_count (suc (suc (suc c))) left value v h = absurd (omega arith)

pub pushed_full : (c : ℕ) (value : Option Exact) (v : Values) → c + 0 ≡ 3 → (pushed c value v) ≡ v
pushed_full zero value v h = absurd (omega arith)
pushed_full (suc zero) value v h = absurd (omega arith)
pushed_full (suc (suc zero)) value v h = absurd (omega arith)
pushed_full (suc (suc (suc c))) value v h = refl

numbers_fault : (vs : List Tree) (left : ℕ) (s : Numbers) → s.values.count + left ≡ 3 →
    (gathered numbers_gathering head s vs).fault ≡ lesser s.fault (least (numbers_faults left vs))
numbers_fault [] zero s h = sym (lesser-none s.fault)
numbers_fault [] (suc left) s h = sym (lesser-none s.fault)
numbers_fault (v ∷ more) zero s h =
    lesser_step s.fault (number_fault (nat_lt s.values.count 3) (head v).place (head v).what) (number_or G11 v) (numbers_faults 0 more) _
    (numbers_fault more 0 (number_added s (head v)) (ap (λ x. x.count + 0) (pushed_full s.values.count (value_in (head v).what) s.values h) ∙ h))
    (ap (λ b. number_fault b (head v).place (head v).what) (not_among_first s.values.count h) ∙ any_number_least v)
numbers_fault (v ∷ more) (suc left) s h =
    lesser_step s.fault (number_fault (nat_lt s.values.count 3) (head v).place (head v).what) (held_number v) (numbers_faults left more) _
    (numbers_fault more left (number_added s (head v)) (pushed_count s.values.count left (value_in (head v).what) s.values h))
    (ap (λ b. number_fault b (head v).place (head v).what) (among_first s.values.count left h) ∙ held_number_least v) ∙
    ap (λ xs. lesser s.fault (least xs))
    (sym (append_assoc (held_number v) (flat_map held_number (take left more)) (flat_map (number_or G11) (drop left more))))

pub position_fault : (v : Tree) → (position_answer v).fault ≡ least (position v)
position_fault (array place es close) =
    both_least _ _ (few 2 G12 place (items es)) (numbers_faults 3 (items es))
    (few_gathered numbers_gathering head (λ g. g.tally) (λ g a. refl) 2 (omega arith) G12 place (items es) (numbers_start place) refl)
    (numbers_fault (items es) 3 (numbers_start place) refl)
position_fault _ = refl

-- ---- the values

pub value_head : (v : Tree) → value_in (head v).what ≡ exact_value v
value_head (constant Null place) = refl
value_head _ = refl

-- the record of at most three values
abbrev pub values_from : List (Option Exact) → Values
values_from [] = no_values
values_from (a ∷ []) = record { count = 1; first = a; second = None; third = None }
values_from (a ∷ b ∷ []) = record { count = 2; first = a; second = b; third = None }
values_from (a ∷ b ∷ c ∷ more) = record { count = 3; first = a; second = b; third = c }

abbrev full : Tally → Option Fault → KindWarnings → Option Exact → Option Exact → Option Exact → Numbers
full t f p a b c = record { values = record { count = 3; first = a; second = b; third = c }; tally = t; fault = f; precise = p }

full_stays : (vs : List Tree) (t : Tally) (f : Option Fault) (p : KindWarnings) (a b c : Option Exact) →
    (gathered numbers_gathering head (full t f p a b c) vs).values ≡ record { count = 3; first = a; second = b; third = c }
full_stays [] t f p a b c = refl
full_stays (v ∷ more) t f p a b c =
    let s : Numbers = number_added (full t f p a b c) (head v) in
    full_stays more s.tally s.fault s.precise a b c

gathered_values : (vs : List Tree) (place : ℕ) → (gathered numbers_gathering head (numbers_start place) vs).values ≡ values_from (map exact_value (take 3 vs))
gathered_values [] place = refl
gathered_values (u ∷ []) place = ap (λ a. values_from (a ∷ [])) (value_head u)
gathered_values (u ∷ v ∷ []) place =
    ap (λ a. values_from (a ∷ value_in (head v).what ∷ [])) (value_head u) ∙ ap (λ b. values_from (exact_value u ∷ b ∷ [])) (value_head v)
gathered_values (u ∷ v ∷ w ∷ more) place =
    let s : Numbers = gathered numbers_gathering head (numbers_start place) (u ∷ v ∷ w ∷ []) in
    full_stays more s.tally s.fault s.precise (value_in (head u).what) (value_in (head v).what) (value_in (head w).what) ∙
    (ap (λ a. values_from (a ∷ value_in (head v).what ∷ value_in (head w).what ∷ [])) (value_head u) ∙
    (ap (λ b. values_from (exact_value u ∷ b ∷ value_in (head w).what ∷ [])) (value_head v) ∙
    ap (λ c. values_from (exact_value u ∷ exact_value v ∷ c ∷ [])) (value_head w)))

pub position_values : (v : Tree) → (position_answer v).values ≡ values_from (first_values v)
position_values (array place es close) = gathered_values (items es) place
position_values _ = refl

pub position_head : (v : Tree) → (position_answer v).head ≡ head v
position_head (array place es close) =
    ap (λ p. event_at p What.OpenArray) (gathered_place numbers_gathering head (λ g. g.tally) (λ g a. refl) (items es) (numbers_start place))
position_head _ = refl

-- ---- the same values

abbrev same_value : Tree → Tree → Bool
same_value u v = option_eq same_parts (exact_value u) (exact_value v)

and_false : (b : Bool) → false ≡ (b && false)
and_false true = refl
and_false false = refl

and_true : (b : Bool) → b ≡ (b && true)
and_true true = refl
and_true false = refl

and_and_false : (b c : Bool) → false ≡ (b && (c && false))
and_and_false true c = and_false c
and_and_false false c = refl

-- the record of the first three values
abbrev record_of : List Tree → Values
record_of vs = values_from (map exact_value (take 3 vs))

same_from : (us vs : List Tree) →
    same_values (record_of us) (record_of vs) ≡ pointwise (option_eq same_parts) (map exact_value (take 3 us)) (map exact_value (take 3 vs))
same_from [] (a ∷ b ∷ c ∷ more) = refl
same_from (x ∷ []) (a ∷ b ∷ []) = and_false (same_value x a)
same_from (x ∷ []) (a ∷ b ∷ c ∷ more) = and_false (same_value x a)
same_from (x ∷ y ∷ []) (a ∷ []) = and_false (same_value x a)
same_from (x ∷ y ∷ []) (a ∷ b ∷ c ∷ more) = and_and_false (same_value x a) (same_value y b)
same_from (x ∷ y ∷ z ∷ others) (a ∷ []) = and_false (same_value x a)
same_from (x ∷ y ∷ z ∷ others) (a ∷ b ∷ []) = and_and_false (same_value x a) (same_value y b)
same_from (x ∷ y ∷ z ∷ others) (a ∷ b ∷ c ∷ more) = ap (λ q. same_value x a && (same_value y b && q)) (and_true (same_value z c))
same_from _ _ = refl

pub same_agree : (u v : Tree) → same_values (position_answer u).values (position_answer v).values ≡ agree u v
same_agree u v =
    ap (λ x. same_values x (position_answer v).values) (position_values u) ∙
    (ap (λ x. same_values (values_from (first_values u)) x) (position_values v) ∙ same_from (elements_of u) (elements_of v))
