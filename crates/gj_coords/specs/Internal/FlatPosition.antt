-- What each level of a value gathers of a position that is reported as one.
use Rattle.std.specs.Prelude.{ℕ, min, Option, Some, None, if◌then◌else◌, nat_lt}
use Rattle.gj_number.specs.Exact.{Exact}
use Rattle.gj_number.specs.Short.{exact_of}
use Rattle.gj_json.specs.declared.event.What.{What}
use Rattle.gj_json.specs.declared.flat.Flat.{Flat}
use Rattle.gj_json.specs.declared.flat.Numbered.{Numbered}
use Rattle.gj_coords.specs.declared.fault.Fault.{Fault}
use Rattle.gj_coords.specs.declared.fault.Rule.TheVariants.{G11, G14}
use Rattle.gj_coords.specs.declared.kind_warnings.KindWarnings.{KindWarnings}
use Rattle.gj_coords.specs.declared.position.Numbers.{Numbers}
use Rattle.gj_coords.specs.Internal.PositionGather.{Position}
use Rattle.gj_coords.specs.declared.position.Values.{Values}
use Rattle.gj_coords.specs.declared.walk.outermost.Outermost.{Outermost}
use Rattle.gj_coords.specs.declared.winding.Turn.TheVariants.{Straight}
use Rattle.gj_coords.specs.Fault.{fault_at}
use Rattle.gj_coords.specs.Internal.SentEvents.{event_at}
use Rattle.gj_coords.specs.declared.kind.Kind.TheVariants.{W4}
use Rattle.gj_coords.specs.Internal.KeptWarnings.{nothing_noted, is_nothing}
use Rattle.gj_coords.specs.CoordinateWarnings.{is_precise}
use Rattle.gj_coords.specs.declared.simple.Simple.{Simple}
use Rattle.gj_coords.specs.declared.simple.Simple.TheVariants.{Point}
use Rattle.gj_coords.specs.declared.warned.Warned.{Warned}
use Rattle.gj_coords.specs.Internal.GatheredWarnings.{no_warned, some_noted}
use Rattle.gj_coords.specs.Internal.PositionGather.{precise_with, misshapen_at, sound_noted}
use Rattle.gj_coords.specs.Internal.LevelGather.{LineSummary, LevelSummary}

-- ---- as a position, which breaks no rule

abbrev pub third_value : Option Numbered → Option Exact
third_value None = None
third_value (Some number) = Some (exact_of number.value)

abbrev pub flat_count : Option Numbered → ℕ
flat_count None = 2
flat_count (Some number) = 3

abbrev pub flat_values : Flat → Values
flat_values f = record
    { count = flat_count f.third; first = Some (exact_of f.first.value); second = Some (exact_of f.second.value); third = third_value f.third }

abbrev pub number_precise : Numbered → KindWarnings → KindWarnings
number_precise number noted = precise_with (is_precise (Some (exact_of number.value))) number.place noted

abbrev pub third_precise : Option Numbered → KindWarnings → KindWarnings
third_precise None noted = noted
third_precise (Some number) noted = number_precise number noted

abbrev pub flat_precise : Flat → KindWarnings
flat_precise f = third_precise f.third (number_precise f.second (number_precise f.first nothing_noted))

-- with what is noted of numbers that are too precise
abbrev pub precise_noted : Warned → KindWarnings → Warned
precise_noted w precise = some_noted (is_nothing precise) w W4 precise

abbrev pub flat_numbers : Flat → Numbers
flat_numbers f = record {
  values = flat_values f;
  tally = record { place = f.place; count = flat_count f.third };
  fault = None;
  precise = flat_precise f;
}

abbrev pub flat_position : Flat → Position
flat_position f = record {
  values = flat_values f;
  head = event_at f.place What.OpenArray;
  fault = None;
  count = flat_count f.third;
  precise = flat_precise f;
}

-- ---- as an array of positions: no number has that shape

-- the least place of a number
abbrev pub least_with : Option Numbered → ℕ → ℕ
least_with None place = place
least_with (Some number) place = min place number.place

abbrev pub least_place : Flat → ℕ
least_place f = least_with f.third (min f.first.place f.second.place)

abbrev pub flat_misshapen : Flat → Option Fault
flat_misshapen f = misshapen_at (least_place f)

-- as a linear ring it has too few elements
abbrev pub flat_ring : Flat → Option Fault
flat_ring f = Some (if nat_lt f.place (least_place f) then fault_at f.place G14 else fault_at (least_place f) G11)

-- ---- what the levels know of it

abbrev pub flat_third : Flat → LineSummary
flat_third f = record { position = flat_position f; ring = flat_ring f; turn = Straight; warned = no_warned }

abbrev pub flat_second : Flat → LevelSummary
flat_second f = record {
  position = flat_position f;
  line = flat_misshapen f;
  ring = flat_ring f;
  polygon = flat_misshapen f;
  turn = Straight;
  warned = no_warned;
  rings_warned = no_warned;
}

abbrev pub flat_first : Flat → Outermost
flat_first f = record {
  numbers = flat_numbers f;
  positions_warned = no_warned;
  lines_warned = no_warned;
  rings_warned = no_warned;
  polygons_warned = no_warned;
  positions = flat_misshapen f;
  lines = flat_misshapen f;
  rings = flat_misshapen f;
  polygons = flat_misshapen f;
}

-- ---- what is held of it where it is the value itself: little, of which all that the six types ask for is read

abbrev pub flat_held : Flat → Outermost → Outermost
flat_held f s = record s { positions = flat_misshapen f; positions_warned = sound_noted no_warned (flat_position f) }

abbrev pub held_fault : Simple → Option Fault → Option Fault
held_fault Point misshapen = None
held_fault _ misshapen = misshapen

abbrev pub held_warned : Simple → Warned → Warned
held_warned Point warned = warned
held_warned _ warned = no_warned
