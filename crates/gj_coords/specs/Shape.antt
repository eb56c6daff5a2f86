-- What is wrong with the value of `coordinates`, for each of the six types (RFC 7946, sections 3.1.1 to 3.1.7).
use Rattle.std.specs.Prelude.{ℕ, List, [], ◌∷◌, ◌++◌, Bool, true, false, ◌&&◌, is_some, not, if◌then◌else◌, nat_lt, length, take, drop}
use Rattle.std.specs.List.{flat_map}
use Rattle.gj_number.specs.Value.{value_of}
use Rattle.gj_json.specs.Tree.{Tree, number, array, end_of_array}
use Rattle.gj_coords.specs.declared.fault.Fault.{Fault}
use Rattle.gj_coords.specs.declared.fault.Rule.{Rule}
use Rattle.gj_coords.specs.declared.fault.Rule.TheVariants.{G11, G12, G13, G14, G15, G16}
use Rattle.gj_coords.specs.declared.simple.Simple.{Simple}
use Rattle.gj_coords.specs.declared.simple.Simple.TheVariants.{Point, MultiPoint, LineString, MultiLineString, Polygon, MultiPolygon}
use Rattle.gj_coords.specs.Fault.{fault_at}
use Rattle.gj_coords.specs.Items.{items, place_of}
use Rattle.gj_coords.specs.Ring.{agree, last_of}

-- A shape says what is wrong with a value that is to have it: all faults, in reading order.
abbrev pub Shape : Type 0
Shape = Tree → List Fault

-- another value than the shape asks for; nothing inside it is checked
abbrev pub misshapen : Shape
misshapen value = fault_at (place_of value) G11 ∷ []

-- an array with fewer values in it than it needs
abbrev pub few : ℕ → Rule → ℕ → List Tree → List Fault
few needed rule place values = if nat_lt (length values) needed then fault_at place rule ∷ [] else []

-- ---- positions (section 3.1.1)

-- a number that is held
abbrev pub held_number : Shape
held_number (number place literal end) = if is_some (value_of literal) then [] else fault_at place G16 ∷ []
held_number value = misshapen value

-- a number, held or not; another value breaks this rule
abbrev pub number_or : Rule → Shape
number_or rule (number place literal end) = []
number_or rule value = fault_at (place_of value) rule ∷ []

-- the first three elements are checked as numbers that are held, and those after them as numbers
abbrev pub position : Shape
position (array place elements close) =
    few 2 G12 place (items elements) ++ (flat_map held_number (take 3 (items elements)) ++ flat_map (number_or G11) (drop 3 (items elements)))
position value = misshapen value

-- ---- lists, lines and linear rings (sections 3.1.3 to 3.1.7)

-- an array of values of one shape, at least as many as needed
abbrev pub several : ℕ → Shape → Shape
several needed shape (array place elements close) = few needed G13 place (items elements) ++ flat_map shape (items elements)
several needed shape value = misshapen value

abbrev pub list : Shape → Shape
list = several 0

abbrev pub line : Shape
line = several 2 position

abbrev pub is_empty : List Fault → Bool
is_empty [] = true
is_empty (fault ∷ faults) = false

-- positions without a fault, of which the first and the last differ
abbrev pub unclosed : ℕ → List Tree → List Fault
unclosed place [] = []
unclosed place (first ∷ more) =
    if is_empty (flat_map position (first ∷ more)) && not (agree first (last_of first more)) then fault_at place G15 ∷ [] else []

abbrev pub ring : Shape
ring (array place elements close) = few 4 G14 place (items elements) ++ (flat_map position (items elements) ++ unclosed place (items elements))
ring value = misshapen value

-- ---- the six types

abbrev pub shape_of : Simple → Shape
shape_of Point = position
shape_of MultiPoint = list position
shape_of LineString = line
shape_of MultiLineString = list line
shape_of Polygon = list ring
shape_of MultiPolygon = list (list ring)

-- All faults of the value of `coordinates`, for a type. An empty array is right for each type, whatever its shape asks for: it
-- may be read as a null object (section 3.1).
abbrev pub coordinates_faults : Simple → Shape
coordinates_faults simple (array place end_of_array close) = []
coordinates_faults simple value = shape_of simple value
