-- Each role of each level of a value has the faults of its shape.
use Rattle.gj_coords.proofs.Common.{Event, Fault, Gathering, Level, LineString, MultiLineString, MultiPoint, MultiPolygon, Outermost}
use Rattle.gj_coords.proofs.Common.{Point, Polygon, Simple, Tree, WholeSummary, ap, arith, array, coordinates_faults, element, end_of_array}
use Rattle.gj_coords.proofs.Common.{fault_as, fault_at, first_answer, first_gathering, gathered, given, head, items, least, lesser, level, nat_tests}
use Rattle.gj_coords.proofs.Common.{numbers_gathering, other, position, position_answer, ring, ring_least, second_answer}
use Rattle.gj_coords.proofs.Common.{second_gathering, sym, third_answer, third_gathering, ◌∙◌}
use Rattle.std.proofs.Common.{◌≡◌, ℕ, suc, ◌+◌, ◌≤◌, List, [], ◌∷◌, Option, Some, None, false, ◌==◌, refl, add-one, length, nat_lt}
use Rattle.std.proofs.Common.{if◌then◌else◌}
use Rattle.gj_coords.specs.declared.fault.Rule.TheVariants.{G13}
use Rattle.gj_coords.specs.declared.tally.Tally.{Tally}
use Rattle.gj_coords.specs.Shape.{Shape, list, line, several, shape_of}
use Rattle.gj_coords.specs.Internal.ElementCount.{few_in}
use Rattle.gj_coords.specs.Internal.PositionGather.{misshapen_at}
use Rattle.gj_coords.specs.Internal.LevelGather.{LineSummary, LevelSummary, line_of, some_fault_in}
use Rattle.gj_coords.specs.Internal.ElementCountLaws.{gathered_count, several_least}
use Rattle.gj_coords.specs.Internal.PositionLaws.{position_fault, position_head}
use Rattle.gj_coords.specs.Internal.RingLaws.{added_fault}

-- ---- one gathering inside another

pub project : {G H A B C D : Type 0} (r : Gathering G A B) (q : Gathering H C D) (p : G → H) (f : A → C) (x : Tree → A) (y : Tree → C) →
    ((g : G) (a : A) → p (r.added g a) ≡ q.added (p g) (f a)) → ((v : Tree) → f (x v) ≡ y v) →
    (vs : List Tree) (g : G) → p (gathered r x g vs) ≡ gathered q y (p g) vs
project r q p f x y step item [] g = refl
project r q p f x y step item (v ∷ more) g =
    project r q p f x y step item more (r.added g (x v)) ∙ ap (λ h. gathered q y h more) (step g (x v) ∙ ap (λ c. q.added (p g) c) (item v))

-- what one role of a level answers
role : {G H A B C D E : Type 0} (r : Gathering G A B) (q : Gathering H C D) (p : G → H) (f : A → C) (x : Tree → A) (y : Tree → C) (out : B → E) (read : D → E) →
    ((g : G) (a : A) → p (r.added g a) ≡ q.added (p g) (f a)) → ((v : Tree) → f (x v) ≡ y v) →
    ((place : ℕ) → p (r.opened place) ≡ q.opened place) → ((g : G) → out (r.closed g) ≡ read (q.closed (p g))) →
    ((e : Event) → out (r.otherwise e) ≡ read (q.otherwise e)) →
    (v : Tree) → out (given r x v) ≡ read (given q y v)
role r q p f x y out read step item opened closed otherwise (array place es close) =
    closed (gathered r x (r.opened place) (items es)) ∙
    ap (λ h. read (q.closed h)) (project r q p f x y step item (items es) (r.opened place) ∙ ap (λ h. gathered q y h (items es)) (opened place))
role r q p f x y out read step item opened closed otherwise _ = otherwise _

none_needed : (n : ℕ) → nat_lt n 0 ≡ false
none_needed n = grind (arith, nat_tests)

-- a list needs no elements
no_few : (t : Tally) (fault : Option Fault) → fault ≡ lesser (few_in 0 G13 t) fault
no_few t fault = ap (λ b. lesser (if b then Some (fault_at t.place G13) else None) fault) (sym (none_needed t.count))

-- ---- the third level

pub third_position : (v : Tree) → (third_answer v).position ≡ position_answer v
third_position = role third_gathering numbers_gathering (λ g. g.numbers) (λ a. a.head) position_answer head (λ b. b.position) (λ d. d)
    (λ g a. refl) position_head (λ p. refl) (λ g. refl) (λ e. refl)

-- ---- the second level

pub second_position : (v : Tree) → (second_answer v).position ≡ position_answer v
second_position = role second_gathering numbers_gathering (λ g. g.numbers) (λ a. a.position.head) third_answer head (λ b. b.position) (λ d. d)
    (λ g a. refl) (λ v. ap (λ p. p.head) (third_position v) ∙ position_head v) (λ p. refl) (λ g. refl) (λ e. refl)

second_line : (v : Tree) → (second_answer v).line ≡ least (line v)
second_line =
    several_least second_gathering third_answer (λ g. g.numbers.tally) (λ g. g.positions.fault) (λ a. a.position.fault) position 2 (λ b. b.line) (omega arith)
    (λ g a. refl) (λ g a. added_fault g.positions a.position) (λ p. refl) (λ p. refl) (λ g. refl) (λ e. refl)
    (λ v. ap (λ p. p.fault) (third_position v) ∙ position_fault v)

-- what it is as a linear ring, an array two arrays deep is too
pub second_as_ring : {E : Type 0} (out : LevelSummary → E) (read : LineSummary → E) →
    ((g : Level) → out (second_gathering.closed g) ≡ read (third_gathering.closed (line_of g))) →
    ((e : Event) → out (second_gathering.otherwise e) ≡ read (third_gathering.otherwise e)) → (v : Tree) → out (second_answer v) ≡ read (third_answer v)
second_as_ring out read =
    role second_gathering third_gathering line_of (λ a. a.position) third_answer position_answer out read (λ g a. refl) third_position (λ p. refl)

pub second_ring : (v : Tree) → (second_answer v).ring ≡ least (ring v)
second_ring v = second_as_ring (λ b. b.ring) (λ b. b.ring) (λ g. refl) (λ e. refl) v ∙ ring_least v

second_polygon : (v : Tree) → (second_answer v).polygon ≡ least (list ring v)
second_polygon =
    several_least second_gathering third_answer (λ g. g.numbers.tally) (λ g. g.rings) (λ a. a.ring) ring 0 (λ b. b.polygon) (omega arith)
    (λ g a. refl) (λ g a. refl) (λ p. refl) (λ p. refl) (λ g. no_few g.numbers.tally g.rings) (λ e. refl) ring_least

-- ---- the first level

-- as if an empty array were checked too
abbrev judged_as : Simple → WholeSummary → Option Fault
judged_as simple (other place) = misshapen_at place
judged_as simple (level s) = some_fault_in simple s

position_at_second : (v : Tree) → (second_answer v).position.fault ≡ least (position v)
position_at_second v = ap (λ p. p.fault) (second_position v) ∙ position_fault v

judged_point : (v : Tree) → judged_as Point (first_answer v) ≡ least (position v)
judged_point v =
    role first_gathering numbers_gathering (λ g. g.numbers) (λ a. a.position.head) second_answer head (judged_as Point) (λ d. d.fault)
    (λ g a. refl) (λ v. ap (λ p. p.head) (second_position v) ∙ position_head v) (λ p. refl) (λ g. refl) (λ e. refl) v ∙ position_fault v

-- a list of what some role of the elements is
judged_several : (fault : Outermost → Option Fault) (fault_of : LevelSummary → Option Fault) (shape : Shape) (needed : ℕ) (simple : Simple) → needed ≤ 4 →
    ((g : Outermost) (a : LevelSummary) → fault (first_gathering.added g a) ≡ lesser (fault g) (fault_of a)) →
    ((place : ℕ) → fault (first_gathering.opened place) ≡ None) →
    ((g : Outermost) → some_fault_in simple g ≡ lesser (few_in needed G13 g.numbers.tally) (fault g)) →
    ((v : Tree) → fault_of (second_answer v) ≡ least (shape v)) →
    (v : Tree) → judged_as simple (first_answer v) ≡ least (several needed shape v)
judged_several fault fault_of shape needed simple enough joins none closed each =
    several_least first_gathering second_answer (λ g. g.numbers.tally) fault fault_of shape needed (judged_as simple) enough
    (λ g a. refl) joins (λ p. refl) none closed (λ e. refl) each

judged_least : (simple : Simple) (v : Tree) → judged_as simple (first_answer v) ≡ least (shape_of simple v)
judged_least Point v = judged_point v
judged_least MultiPoint v =
    judged_several (λ g. g.positions) (λ a. a.position.fault) position 0 MultiPoint (omega arith) (λ g a. refl) (λ p. refl)
    (λ g. no_few g.numbers.tally g.positions) position_at_second v
judged_least LineString v =
    judged_several (λ g. g.positions) (λ a. a.position.fault) position 2 LineString (omega arith) (λ g a. refl) (λ p. refl) (λ g. refl) position_at_second v
judged_least MultiLineString v =
    judged_several (λ g. g.lines) (λ a. a.line) line 0 MultiLineString (omega arith) (λ g a. refl) (λ p. refl)
    (λ g. no_few g.numbers.tally g.lines) second_line v
judged_least Polygon v =
    judged_several (λ g. g.rings) (λ a. a.ring) ring 0 Polygon (omega arith) (λ g a. refl) (λ p. refl)
    (λ g. no_few g.numbers.tally g.rings) second_ring v
judged_least MultiPolygon v =
    judged_several (λ g. g.polygons) (λ a. a.polygon) (list ring) 0 MultiPolygon (omega arith) (λ g a. refl) (λ p. refl)
    (λ g. no_few g.numbers.tally g.polygons) second_polygon v

-- ---- an empty array has no fault

some_counted : (c n : ℕ) → nat_lt c 1 ≡ nat_lt (0 + suc n) 1 → (c == 0) ≡ false
some_counted c n h = grind (arith, nat_tests, add-one n)

pub not_empty : (place : ℕ) (v : Tree) (more : List Tree) →
    ((gathered first_gathering second_answer (first_gathering.opened place) (v ∷ more)).numbers.tally.count == 0) ≡ false
not_empty place v more =
    some_counted _ (length more)
    (gathered_count first_gathering second_answer (λ g. g.numbers.tally) (λ g a. refl) 1 (omega arith) (v ∷ more) (first_gathering.opened place))

pub first_least : (simple : Simple) (v : Tree) → fault_as simple (first_answer v) ≡ least (coordinates_faults simple v)
first_least simple (array place end_of_array close) = refl
first_least simple (array place (element v more) close) =
    let g : Outermost = gathered first_gathering second_answer (first_gathering.opened place) (v ∷ items more) in
    ap (λ b. if b then None else some_fault_in simple g) (not_empty place v (items more)) ∙
    judged_least simple (array place (element v more) close)
first_least simple v = judged_least simple v
