-- What is likely wrong in use with the value of `coordinates`, for each of the six types (RFC 7946, sections 3.1, 3.1.1,
-- 3.1.6, 4 and 11.2). A position or a linear ring that breaks a rule gives no warning.
use Rattle.std.specs.Prelude.{ℕ, List, [], ◌∷◌, ◌++◌, Bool, ◌&&◌, if◌then◌else◌, nat_lt, length, take, Option, Some, None, not}
use Rattle.std.specs.List.{flat_map}
use Rattle.gj_number.specs.Exact.{Exact, places_of}
use Rattle.gj_json.specs.Tree.{Tree, array, end_of_array}
use Rattle.gj_coords.specs.declared.kind.Kind.{Kind}
use Rattle.gj_coords.specs.declared.kind.Kind.TheVariants.{W2, W3, W4, W5, W6}
use Rattle.gj_coords.specs.declared.simple.Simple.{Simple}
use Rattle.gj_coords.specs.declared.simple.Simple.TheVariants.{Point, MultiPoint, LineString, MultiLineString, Polygon, MultiPolygon}
use Rattle.gj_coords.specs.Items.{elements_of, place_of}
use Rattle.gj_coords.specs.Ring.{exact_value}
use Rattle.gj_coords.specs.Shape.{is_empty, position, ring}
use Rattle.gj_coords.specs.Warnings.{Warning, warning_at}
use Rattle.gj_coords.specs.declared.winding.Turn.{Turn}
use Rattle.gj_coords.specs.declared.winding.Turn.TheVariants.{Left, Right}
use Rattle.gj_coords.specs.Winding.{in_range, ring_turn, same_turn}

-- A concern says what to warn of in a value: all warnings, in reading order.
abbrev pub Concern : Type 0
Concern = Tree → List Warning

abbrev pub warned_if : Bool → ℕ → Kind → List Warning
warned_if wrong place kind = if wrong then warning_at place kind ∷ [] else []

-- of each element
abbrev pub each : Concern → Concern
each concern value = flat_map concern (elements_of value)

-- ---- positions

-- more than seven decimal places
abbrev pub is_precise : Option Exact → Bool
is_precise (Some value) = nat_lt 7 (places_of value)
is_precise None = Bool.false

abbrev pub number_warnings : Concern
number_warnings value = warned_if (is_precise (exact_value value)) (place_of value) W4

abbrev pub sound_position_warnings : Concern
sound_position_warnings value =
    warned_if (nat_lt 3 (length (elements_of value))) (place_of value) W3
    ++ (warned_if (not (in_range value)) (place_of value) W5 ++ flat_map number_warnings (take 3 (elements_of value)))

abbrev pub position_warnings : Concern
position_warnings value = if is_empty (position value) then sound_position_warnings value else []

-- ---- linear rings

-- of a ring that is wrong where it runs so
abbrev pub ring_warnings : Turn → Concern
ring_warnings wrong value =
    warned_if (is_empty (ring value) && same_turn (ring_turn (elements_of value)) wrong) (place_of value) W2 ++ each position_warnings value

-- the first ring is the exterior one, which must not run clockwise, and those after it are holes, which must not run the other way
abbrev pub rings_warnings : List Tree → List Warning
rings_warnings [] = []
rings_warnings (exterior ∷ holes) = ring_warnings Right exterior ++ flat_map (ring_warnings Left) holes

abbrev pub polygon_warnings : Concern
polygon_warnings value = rings_warnings (elements_of value)

-- ---- the six types

abbrev pub concern_of : Simple → Concern
concern_of Point = position_warnings
concern_of MultiPoint = each position_warnings
concern_of LineString = each position_warnings
concern_of MultiLineString = each (each position_warnings)
concern_of Polygon = polygon_warnings
concern_of MultiPolygon = each polygon_warnings

-- all warnings of the value of `coordinates`, for a type; an empty array says nothing of where the geometry lies
abbrev pub coordinates_warnings : Simple → Concern
coordinates_warnings simple (array place end_of_array close) = warning_at place W6 ∷ []
coordinates_warnings simple value = concern_of simple value
