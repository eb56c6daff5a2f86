-- Each role of each level of a value has the warnings of its concern.
use Rattle.gj_coords.proofs.Common.{Elements, LineString, MultiLineString, MultiPoint, MultiPolygon, Level, Outermost, Point, Polygon, Simple, Tree}
use Rattle.gj_coords.proofs.Common.{added_is, all_in, ap, array, coordinates_warnings, each, element, elements_of, end_of_array, first_answer}
use Rattle.gj_coords.proofs.Common.{first_gathering, flat_map, gathered, head, items, joined_none_first, no_warned, numbers_gathering, place_of}
use Rattle.gj_coords.proofs.Common.{position, position_answer, position_closed, position_warned, position_warnings, ring, ring_least, ring_turn}
use Rattle.gj_coords.proofs.Common.{role_behind, second_answer, second_gathering, sym, taken_is, third_answer, warned_as, W6, ◌∙◌}
use Rattle.std.proofs.Common.{◌≡◌, ℕ, [], ◌∷◌, true, false, refl, if◌then◌else◌}
use Rattle.gj_coords.specs.Internal.PositionGather.{Position}
use Rattle.gj_coords.specs.Shape.{is_empty}
use Rattle.gj_coords.specs.CoordinateWarnings.{sound_position_warnings, rings_warnings, polygon_warnings, concern_of}
use Rattle.gj_coords.specs.Internal.KeptWarnings.{warnings_of, no_warnings, joined}
use Rattle.gj_coords.specs.Internal.GatheredWarnings.{noted_in}
use Rattle.gj_coords.specs.Internal.PositionGather.{judged_noted}
use Rattle.gj_coords.specs.Internal.LevelGather.{some_warned_in}
use Rattle.gj_coords.specs.Internal.PositionLaws.{position_head}
use Rattle.gj_coords.specs.Internal.PositionWarnings.{place_head}
use Rattle.gj_coords.proofs.Readers.WarningsOfElements.{IsShort, elements_short, elements_warned, none_of, from_none, ring_warnings}
use Rattle.gj_coords.proofs.Readers.WarningsOfElements.{ring_turned, ring_positions, ring_warned, gathered_rings}
use Rattle.gj_coords.proofs.Walks.FaultsOfLevels.{project, third_position, second_position, second_as_ring, second_ring, not_empty}

-- where the answer as a position says it is
answered_place : (p : Position) (v : Tree) → p ≡ position_answer v → p.head.place ≡ place_of v
answered_place p v e = ap (λ q. q.head.place) e ∙ (ap (λ h. h.place) (position_head v) ∙ place_head v)

-- ---- the second level

second_warned : (v : Tree) → IsShort v → all_in (second_answer v).warned ≡ warnings_of (each position_warnings v)
second_warned v short = ap all_in (second_as_ring (λ b. b.warned) (λ b. b.warned) (λ g. refl) (λ e. refl) v) ∙ ring_positions v short

second_turn : (v : Tree) → IsShort v → is_empty (ring v) ≡ true → (second_answer v).turn ≡ ring_turn (elements_of v)
second_turn v short sound = second_as_ring (λ b. b.turn) (λ b. b.turn) (λ g. refl) (λ e. refl) v ∙ ring_turned v short sound

second_ring_step : (g : Level) (v : Tree) → IsShort v →
    all_in (second_gathering.added g (third_answer v)).rings_warned ≡ joined (all_in g.rings_warned)
    (warnings_of (ring_warnings (role_behind g.numbers.tally.count) v))
second_ring_step g v short =
    let a = third_answer v in
    ring_warned (role_behind g.numbers.tally.count) g.rings_warned a.position.head.place a.ring a.turn a.warned v
    (answered_place a.position v (third_position v)) (ring_least v) (ring_turned v short) (ring_positions v short)

second_rings_warned : (v : Tree) → IsShort v → all_in (second_answer v).rings_warned ≡ warnings_of (polygon_warnings v)
second_rings_warned (array place es close) short =
    gathered_rings second_gathering third_answer (λ g. g.rings_warned) (λ g. g.numbers.tally.count) (λ g a. refl) second_ring_step
    (items es) (second_gathering.opened place) refl refl (elements_short place es close short)
second_rings_warned _ short = none_of

-- ---- the first level

positions_step : (g : Outermost) (v : Tree) → IsShort v →
    all_in (first_gathering.added g (second_answer v)).positions_warned ≡ joined (all_in g.positions_warned) (warnings_of (position_warnings v))
positions_step g v short =
    ap (λ p. all_in (judged_noted p.fault g.positions_warned p)) (second_position v) ∙ position_warned g.positions_warned v

lines_step : (g : Outermost) (v : Tree) → IsShort v →
    all_in (first_gathering.added g (second_answer v)).lines_warned ≡ joined (all_in g.lines_warned) (warnings_of (each position_warnings v))
lines_step g v short = taken_is g.lines_warned (second_answer v).warned ∙ ap (joined (all_in g.lines_warned)) (second_warned v short)

rings_step : (g : Outermost) (v : Tree) → IsShort v →
    all_in (first_gathering.added g (second_answer v)).rings_warned ≡ joined (all_in g.rings_warned)
    (warnings_of (ring_warnings (role_behind g.numbers.tally.count) v))
rings_step g v short =
    let a = second_answer v in
    ring_warned (role_behind g.numbers.tally.count) g.rings_warned a.position.head.place a.ring a.turn a.warned v
    (answered_place a.position v (second_position v)) (second_ring v) (second_turn v short) (second_warned v short)

polygons_step : (g : Outermost) (v : Tree) → IsShort v →
    all_in (first_gathering.added g (second_answer v)).polygons_warned ≡ joined (all_in g.polygons_warned) (warnings_of (polygon_warnings v))
polygons_step g v short = taken_is g.polygons_warned (second_answer v).rings_warned ∙ ap (joined (all_in g.polygons_warned)) (second_rings_warned v short)

-- of an array, empty or not
array_warned : (simple : Simple) (place : ℕ) (es : Elements) (close : ℕ) → IsShort (array place es close) →
    all_in (some_warned_in simple (gathered first_gathering second_answer (first_gathering.opened place) (items es))) ≡
    warnings_of (concern_of simple (array place es close))
array_warned Point place es close short =
    ap (λ n. let p = position_closed n in all_in (judged_noted p.fault no_warned p))
    (project first_gathering numbers_gathering (λ g. g.numbers) (λ a. a.position.head) second_answer head
    (λ g a. refl) (λ v. ap (λ p. p.head) (second_position v) ∙ position_head v) (items es) (first_gathering.opened place)) ∙
    from_none _ no_warnings (position_warnings (array place es close)) (position_warned no_warned (array place es close)) refl
array_warned MultiPoint place es close short =
    elements_warned first_gathering second_answer (λ g. g.positions_warned) position_warnings positions_step place es close short refl
array_warned LineString place es close short =
    elements_warned first_gathering second_answer (λ g. g.positions_warned) position_warnings positions_step place es close short refl
array_warned MultiLineString place es close short =
    elements_warned first_gathering second_answer (λ g. g.lines_warned) (each position_warnings) lines_step place es close short refl
array_warned Polygon place es close short =
    gathered_rings first_gathering second_answer (λ g. g.rings_warned) (λ g. g.numbers.tally.count) (λ g a. refl) rings_step
    (items es) (first_gathering.opened place) refl refl (elements_short place es close short)
array_warned MultiPolygon place es close short =
    elements_warned first_gathering second_answer (λ g. g.polygons_warned) polygon_warnings polygons_step place es close short refl

-- what is no array has none
none_for : (simple : Simple) (v : Tree) → is_empty (position v) ≡ false → elements_of v ≡ [] → concern_of simple v ≡ []
none_for Point v broken none = ap (λ b. if b then sound_position_warnings v else []) broken
none_for MultiPoint v broken none = ap (flat_map position_warnings) none
none_for LineString v broken none = ap (flat_map position_warnings) none
none_for MultiLineString v broken none = ap (flat_map (each position_warnings)) none
none_for Polygon v broken none = ap rings_warnings none
none_for MultiPolygon v broken none = ap (flat_map polygon_warnings) none

other_warned : (simple : Simple) (v : Tree) → is_empty (position v) ≡ false → elements_of v ≡ [] → no_warnings ≡ warnings_of (concern_of simple v)
other_warned simple v broken none = none_of ∙ sym (ap warnings_of (none_for simple v broken none))

pub first_warned : (simple : Simple) (v : Tree) → IsShort v → all_in (warned_as simple (first_answer v)) ≡ warnings_of (coordinates_warnings simple v)
first_warned simple (array place end_of_array close) short = added_is no_warnings W6 place ∙ joined_none_first _
first_warned simple (array place (element v more) close) short =
    let g : Outermost = gathered first_gathering second_answer (first_gathering.opened place) (v ∷ items more) in
    ap (λ b. all_in (if b then noted_in no_warned W6 g.numbers.tally.place else some_warned_in simple g)) (not_empty place v (items more)) ∙
    array_warned simple place (element v more) close short
first_warned simple v short = other_warned simple v refl refl
