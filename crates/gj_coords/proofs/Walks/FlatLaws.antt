-- An array of numbers that is reported as one leads where its events lead.
use Rattle.gj_coords.proofs.Common.{Event, Fault, Flat, G11, G14, Gathering, Level, Line, Numbered, Numbers, Outermost, What, ap, arith, done}
use Rattle.gj_coords.proofs.Common.{event_at, fault_at, first_gathering, flat_events, flat_first, flat_position, in_first, in_second, in_third}
use Rattle.gj_coords.proofs.Common.{lesser, nat_tests, no_warned, numbers_gathering, position_closed, run, second_gathering, third_gathering, waiting}
use Rattle.gj_coords.proofs.Common.{◌&&◌, ◌∙◌}
use Rattle.std.proofs.Common.{◌≡◌, ◌≤◌, ℕ, min, Option, Some, None, Bool, true, false, ◌||◌, not, is_none, nat_lt, nat_eq, if◌then◌else◌}
use Rattle.std.proofs.Common.{refl}
use Rattle.std.specs.Option.{option_map_or}
use Rattle.gj_json.specs.Flat.{number_event}
use Rattle.gj_coords.specs.declared.fault.Rule.TheVariants.{G15}
use Rattle.gj_coords.specs.declared.winding.Turn.TheVariants.{Straight}
use Rattle.gj_coords.specs.Internal.PositionGather.{misshapen_at, number_added, no_position}
use Rattle.gj_coords.specs.Internal.LevelGather.{LineSummary, LevelSummary}
use Rattle.gj_coords.specs.Internal.FlatPosition.{least_place, flat_third, flat_second}
use Rattle.gj_coords.specs.Internal.Progress.{in_fourth, step}

-- no number stands before the bracket
record IsOn (first second : Numbered) (third : Option Numbered) (place : ℕ) : Type 0 where
  first_on : place ≤ first.place
  second_on : place ≤ second.place
  third_on : place ≤ option_map_or (λ number. number.place) third place

abbrev flat_of : (first second : Numbered) (third : Option Numbered) (place close : ℕ) → IsOn first second third place → Flat
flat_of first second third place close on =
    record {
      first = first;
      second = second;
      third = third;
      place = place;
      close = close;
      first_on = on.first_on;
      second_on = on.second_on;
      third_on =
          on.third_on;
    }

on_of : (f : Flat) → IsOn f.first f.second f.third f.place
on_of f = record { first_on = f.first_on; second_on = f.second_on; third_on = f.third_on }

-- ---- what an array gathers of the numbers

abbrev third_gathered : {G A B : Type 0} → Gathering G A B → (Event → A) → Option Numbered → G → G
third_gathered r single None g = g
third_gathered r single (Some n) g = r.added g (single (number_event n))

abbrev flat_gathered : {G A B : Type 0} → Gathering G A B → (Event → A) → Numbered → Numbered → Option Numbered → ℕ → G
flat_gathered r single a b third place = third_gathered r single third (r.added (r.added (r.opened place) (single (number_event a))) (single (number_event b)))

-- ---- the least fault of the numbers

picked : (b : Bool) (p q n : ℕ) → (if b then p else q) ≡ n → (if b then Some (fault_at p G11) else Some (fault_at q G11)) ≡ misshapen_at n
picked true p q n e = ap misshapen_at e
picked false p q n e = ap misshapen_at e

least_two : (p q : ℕ) → lesser (misshapen_at p) (misshapen_at q) ≡ misshapen_at (min p q)
least_two p q = picked (nat_lt p q || (nat_eq p q && true)) p q (min p q) (grind (arith, nat_tests))

least_three : (p q n : ℕ) → lesser (lesser (misshapen_at p) (misshapen_at q)) (misshapen_at n) ≡ misshapen_at (min (min p q) n)
least_three p q n = ap (λ x. lesser x (misshapen_at n)) (least_two p q) ∙ least_two (min p q) n

ring_picked : (b c : Bool) (x y : Fault) → (if b || (c && false) then Some x else Some y) ≡ Some (if b then x else y)
ring_picked true c x y = refl
ring_picked false true x y = refl
ring_picked false false x y = refl

-- too few for a linear ring
ring_least : (place least : ℕ) →
    lesser (Some (fault_at place G14)) (misshapen_at least) ≡ Some (if nat_lt place least then fault_at place G14 else fault_at least G11)
ring_least place least = ring_picked (nat_lt place least) (nat_eq place least) (fault_at place G14) (fault_at least G11)

-- by the least fault of the numbers
abbrev ring_of : ℕ → Option Fault → Option Fault
ring_of place fault = lesser (Some (fault_at place G14)) (if is_none fault && not true then Some (fault_at place G15) else fault)

-- ---- the answers of the levels

position_is : (a b : Numbered) (third : Option Numbered) (place close : ℕ) (on : IsOn a b third place) →
    position_closed (flat_gathered numbers_gathering (λ e. e) a b third place) ≡ flat_position (flat_of a b third place close on)
position_is a b None place close on = refl
position_is a b (Some c) place close on = refl

abbrev third_by : Flat → Option Fault → LineSummary
third_by f fault = record { position = flat_position f; ring = ring_of f.place fault; turn = Straight; warned = no_warned }

third_ring : (f : Flat) → third_by f (misshapen_at (least_place f)) ≡ flat_third f
third_ring f =
    let P : Option Fault → LineSummary = λ ring. record { position = flat_position f; ring = ring; turn = Straight; warned = no_warned } in
    ap P (ring_least f.place (least_place f))

third_is : (a b : Numbered) (third : Option Numbered) (place close : ℕ) (on : IsOn a b third place) →
    third_gathering.closed (flat_gathered third_gathering no_position a b third place) ≡ flat_third (flat_of a b third place close on)
third_is a b None place close on =
    let f : Flat = flat_of a b None place close on in
    ap (third_by f) (least_two a.place b.place) ∙ third_ring f
third_is a b (Some c) place close on =
    let f : Flat = flat_of a b (Some c) place close on in
    ap (third_by f) (least_three a.place b.place c.place) ∙ third_ring f

abbrev second_by : Flat → Option Fault → LevelSummary
second_by f fault = record {
  position = flat_position f;
  line = fault;
  ring = ring_of f.place fault;
  polygon = fault;
  turn = Straight;
  warned = no_warned;
  rings_warned = no_warned;
}

second_ring : (f : Flat) → second_by f (misshapen_at (least_place f)) ≡ flat_second f
second_ring f =
    let P : Option Fault → LevelSummary = λ ring. record (flat_second f) { ring = ring } in
    ap P (ring_least f.place (least_place f))

second_is : (a b : Numbered) (third : Option Numbered) (place close : ℕ) (on : IsOn a b third place) →
    second_gathering.closed (flat_gathered second_gathering third_gathering.otherwise a b third place) ≡ flat_second (flat_of a b third place close on)
second_is a b None place close on =
    let f : Flat = flat_of a b None place close on in
    ap (second_by f) (least_two a.place b.place) ∙ second_ring f
second_is a b (Some c) place close on =
    let f : Flat = flat_of a b (Some c) place close on in
    ap (second_by f) (least_three a.place b.place c.place) ∙ second_ring f

abbrev first_by : Flat → Option Fault → Outermost
first_by f fault = record (flat_first f) { positions = fault; lines = fault; rings = fault; polygons = fault }

first_is : (a b : Numbered) (third : Option Numbered) (place close : ℕ) (on : IsOn a b third place) →
    flat_gathered first_gathering second_gathering.otherwise a b third place ≡ flat_first (flat_of a b third place close on)
first_is a b None place close on = ap (first_by (flat_of a b None place close on)) (least_two a.place b.place)
first_is a b (Some c) place close on = ap (first_by (flat_of a b (Some c) place close on)) (least_three a.place b.place c.place)

-- ---- where a position is due

value_of_flat : (a b : Numbered) (third : Option Numbered) (place close : ℕ) (on : IsOn a b third place) →
    let f : Flat = flat_of a b third place close on in
    run step waiting (flat_events f) ≡ done (flat_first f)
value_of_flat a b None place close on = ap done (first_is a b None place close on)
value_of_flat a b (Some c) place close on = ap done (first_is a b (Some c) place close on)

first_of_flat : (a b : Numbered) (third : Option Numbered) (place close : ℕ) (on : IsOn a b third place) (g : Outermost) →
    let f : Flat = flat_of a b third place close on in
    run step (in_first g) (flat_events f) ≡ in_first (first_gathering.added g (flat_second f))
first_of_flat a b None place close on g = ap (λ x. in_first (first_gathering.added g x)) (second_is a b None place close on)
first_of_flat a b (Some c) place close on g = ap (λ x. in_first (first_gathering.added g x)) (second_is a b (Some c) place close on)

second_of_flat : (a b : Numbered) (third : Option Numbered) (place close : ℕ) (on : IsOn a b third place) (g : Outermost) (h : Level) →
    let f : Flat = flat_of a b third place close on in
    run step (in_second g h) (flat_events f) ≡ in_second g (second_gathering.added h (flat_third f))
second_of_flat a b None place close on g h = ap (λ x. in_second g (second_gathering.added h x)) (third_is a b None place close on)
second_of_flat a b (Some c) place close on g h = ap (λ x. in_second g (second_gathering.added h x)) (third_is a b (Some c) place close on)

third_of_flat : (a b : Numbered) (third : Option Numbered) (place close : ℕ) (on : IsOn a b third place) (g : Outermost) (h : Level) (k : Line) →
    let f : Flat = flat_of a b third place close on in
    run step (in_third g h k) (flat_events f) ≡ in_third g h (third_gathering.added k (flat_position f))
third_of_flat a b None place close on g h k = ap (λ x. in_third g h (third_gathering.added k x)) (position_is a b None place close on)
third_of_flat a b (Some c) place close on g h k = ap (λ x. in_third g h (third_gathering.added k x)) (position_is a b (Some c) place close on)

-- an array within a position is read past
fourth_of_flat : (a b : Numbered) (third : Option Numbered) (place close : ℕ) (on : IsOn a b third place) (g : Outermost) (h : Level) (k : Line) (n : Numbers) →
    run step (in_fourth g h k n) (flat_events (flat_of a b third place close on)) ≡ in_fourth g h k (number_added n (event_at place What.OpenArray))
fourth_of_flat a b None place close on g h k n = refl
fourth_of_flat a b (Some c) place close on g h k n = refl

pub flat_value : (f : Flat) → run step waiting (flat_events f) ≡ done (flat_first f)
flat_value f = value_of_flat f.first f.second f.third f.place f.close (on_of f)

pub flat_in_first : (f : Flat) (g : Outermost) → run step (in_first g) (flat_events f) ≡ in_first (first_gathering.added g (flat_second f))
flat_in_first f g = first_of_flat f.first f.second f.third f.place f.close (on_of f) g

pub flat_in_second : (f : Flat) (g : Outermost) (h : Level) →
    run step (in_second g h) (flat_events f) ≡ in_second g (second_gathering.added h (flat_third f))
flat_in_second f g h = second_of_flat f.first f.second f.third f.place f.close (on_of f) g h

pub flat_in_third : (f : Flat) (g : Outermost) (h : Level) (k : Line) →
    run step (in_third g h k) (flat_events f) ≡ in_third g h (third_gathering.added k (flat_position f))
flat_in_third f g h k = third_of_flat f.first f.second f.third f.place f.close (on_of f) g h k

pub flat_in_fourth : (f : Flat) (g : Outermost) (h : Level) (k : Line) (n : Numbers) →
    run step (in_fourth g h k n) (flat_events f) ≡ in_fourth g h k (number_added n (event_at f.place What.OpenArray))
flat_in_fourth f g h k n = fourth_of_flat f.first f.second f.third f.place f.close (on_of f) g h k n
