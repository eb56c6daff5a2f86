-- What each level of a value gathers, for the six types at once.
use Rattle.std.specs.Prelude.{ℕ, Option, None, is_some, is_none, Bool, false, ◌&&◌, ◌==◌, if◌then◌else◌}
use Rattle.gj_coords.specs.declared.fault.Fault.{Fault}
use Rattle.gj_coords.specs.declared.position.Numbers.{Numbers}
use Rattle.gj_coords.specs.Internal.PositionGather.{Position}
use Rattle.gj_coords.specs.declared.ring.Positions.{Positions}
use Rattle.gj_coords.specs.declared.simple.Simple.{Simple}
use Rattle.gj_coords.specs.declared.simple.Simple.TheVariants.{Point, MultiPoint, LineString, MultiLineString, Polygon, MultiPolygon}
use Rattle.gj_coords.specs.declared.walk.level.Level.{Level}
use Rattle.gj_coords.specs.declared.walk.outermost.Outermost.{Outermost}
use Rattle.gj_coords.specs.declared.kind.Kind.TheVariants.{W6}
use Rattle.gj_coords.specs.declared.warned.Warned.{Warned}
use Rattle.gj_coords.specs.declared.winding.Turn.{Turn}
use Rattle.gj_coords.specs.declared.winding.Turn.TheVariants.{Unjudged}
use Rattle.gj_coords.specs.Fault.{lesser}
use Rattle.gj_coords.specs.Internal.Gathering.{Gathering}
use Rattle.gj_coords.specs.Internal.ElementCount.{line_closed}
use Rattle.gj_coords.specs.Internal.GatheredWarnings.{no_warned, noted_in, taken}
use Rattle.gj_coords.specs.Internal.WindingGather.{turn_in}
use Rattle.gj_coords.specs.Internal.PositionGather.{numbers_start, number_added, position_least, position_closed, no_position, misshapen_at}
use Rattle.gj_coords.specs.Internal.PositionGather.{judged_noted}
use Rattle.gj_coords.specs.Internal.PositionsGather.{no_positions, position_added, ring_closed, role_behind, ring_noted}

-- an array two arrays deep
pub record Line : Type 0 where
  pub numbers : Numbers
  pub positions : Positions

abbrev pub line_of : Level → Line
line_of s = record { numbers = s.numbers; positions = s.positions }

-- what is known of it, or of what stands in its place
pub record LineSummary : Type 0 where
  pub position : Position
  pub ring : Option Fault
  -- how its positions run
  pub turn : Turn
  -- what deserves a warning in its positions
  pub warned : Warned

-- of an array one array deep
pub record LevelSummary : Type 0 where
  pub position : Position
  pub line : Option Fault
  pub ring : Option Fault
  pub polygon : Option Fault
  pub turn : Turn
  pub warned : Warned
  -- what deserves a warning in its elements as the rings of a polygon
  pub rings_warned : Warned

-- of the whole value: where it begins, if it is no array
pub data WholeSummary : Type 0 where
  other : (place : ℕ) → WholeSummary
  level : (gathered : Outermost) → WholeSummary

abbrev pub third_gathering : Gathering Line Position LineSummary
third_gathering = record {
  opened = λ place. record { numbers = numbers_start place; positions = no_positions };
  added = λ s p. record { numbers = number_added s.numbers p.head; positions = position_added s.positions p };
  closed = λ s. record {
    position = position_closed s.numbers;
    ring = ring_closed s.numbers.tally s.positions;
    turn = turn_in s.positions.winding;
    warned = s.positions.warned;
  };
  otherwise = λ e. record { position = no_position e; ring = misshapen_at e.place; turn = Unjudged; warned = no_warned };
}

abbrev pub second_gathering : Gathering Level LineSummary LevelSummary
second_gathering = record {
  opened = λ place. record { numbers = numbers_start place; positions = no_positions; rings_warned = no_warned; rings = None };
  added = λ s a. record {
    numbers = number_added s.numbers a.position.head;
    positions = position_added s.positions a.position;
    rings_warned = ring_noted (role_behind s.numbers.tally.count) s.rings_warned a.position.head.place a.ring a.turn a.warned;
    rings = lesser s.rings a.ring;
  };
  closed = λ s. record {
    position = position_closed s.numbers;
    line = line_closed s.numbers.tally s.positions.fault;
    ring = ring_closed s.numbers.tally s.positions;
    polygon = s.rings;
    turn = turn_in s.positions.winding;
    warned = s.positions.warned;
    rings_warned = s.rings_warned;
  };
  otherwise = λ e. record {
    position = no_position e;
    line = misshapen_at e.place;
    ring = misshapen_at e.place;
    polygon = misshapen_at e.place;
    turn = Unjudged;
    warned = no_warned;
    rings_warned = no_warned;
  };
}

abbrev pub first_gathering : Gathering Outermost LevelSummary WholeSummary
first_gathering = record {
  opened = λ place. record {
    numbers = numbers_start place;
    positions_warned = no_warned;
    lines_warned = no_warned;
    rings_warned = no_warned;
    polygons_warned = no_warned;
    positions = None;
    lines = None;
    rings = None;
    polygons = None;
  };
  added = λ s a. record {
    numbers = number_added s.numbers a.position.head;
    positions_warned = judged_noted a.position.fault s.positions_warned a.position;
    lines_warned = taken s.lines_warned a.warned;
    rings_warned = ring_noted (role_behind s.numbers.tally.count) s.rings_warned a.position.head.place a.ring a.turn a.warned;
    polygons_warned = taken s.polygons_warned a.rings_warned;
    positions = lesser s.positions a.position.fault;
    lines = lesser s.lines a.line;
    rings = lesser s.rings a.ring;
    polygons = lesser s.polygons a.polygon;
  };
  closed = level;
  otherwise = λ e. other e.place;
}

-- ---- the least fault for a type

-- of an array that is not empty
abbrev pub some_fault_in : Simple → Outermost → Option Fault
some_fault_in Point s = position_least s.numbers
some_fault_in MultiPoint s = s.positions
some_fault_in LineString s = line_closed s.numbers.tally s.positions
some_fault_in MultiLineString s = s.lines
some_fault_in Polygon s = s.rings
some_fault_in MultiPolygon s = s.polygons

abbrev pub fault_in : Simple → Outermost → Option Fault
fault_in simple s = if s.numbers.tally.count == 0 then None else some_fault_in simple s

abbrev pub fault_as : Simple → WholeSummary → Option Fault
fault_as simple (other place) = misshapen_at place
fault_as simple (level s) = fault_in simple s

-- ---- what is worth a warning for a type

abbrev pub point_warned_in : Outermost → Warned
point_warned_in s = judged_noted (position_least s.numbers) no_warned (position_closed s.numbers)

-- of an array that is not empty
abbrev pub some_warned_in : Simple → Outermost → Warned
some_warned_in Point s = point_warned_in s
some_warned_in MultiPoint s = s.positions_warned
some_warned_in LineString s = s.positions_warned
some_warned_in MultiLineString s = s.lines_warned
some_warned_in Polygon s = s.rings_warned
some_warned_in MultiPolygon s = s.polygons_warned

abbrev pub warned_in : Simple → Outermost → Warned
warned_in simple s = if s.numbers.tally.count == 0 then noted_in no_warned W6 s.numbers.tally.place else some_warned_in simple s

abbrev pub warned_as : Simple → WholeSummary → Warned
warned_as simple (other place) = no_warned
warned_as simple (level s) = warned_in simple s

-- ---- a few looks that show that there is nothing worth a warning for any type

abbrev pub some_quiet_in : Outermost → Bool
some_quiet_in s =
    is_some s.numbers.fault &&
    (is_none s.positions_warned.warnings && (is_none s.lines_warned.warnings && (is_none s.rings_warned.warnings && is_none s.polygons_warned.warnings)))

abbrev pub quiet_in : Outermost → Bool
quiet_in s = if s.numbers.tally.count == 0 then false else some_quiet_in s

abbrev pub quiet_as : WholeSummary → Bool
quiet_as (other place) = false
quiet_as (level s) = quiet_in s
