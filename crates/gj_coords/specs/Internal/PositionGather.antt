-- What a position gathers of its elements.
use Rattle.std.specs.Prelude.{ℕ, zero, suc, Option, Some, None, is_none, Bool, ◌&&◌, ◌==◌, if◌then◌else◌, nat_lt}
use Rattle.std.specs.Option.{option_eq}
use Rattle.gj_number.specs.Exact.{Exact, same_parts}
use Rattle.gj_json.specs.declared.event.Event.{Event}
use Rattle.gj_json.specs.declared.event.What.{What}
use Rattle.gj_json.specs.Tree.{Tree}
use Rattle.gj_coords.specs.declared.fault.Fault.{Fault}
use Rattle.gj_coords.specs.declared.fault.Rule.TheVariants.{G11, G12, G16}
use Rattle.gj_coords.specs.declared.kind.Kind.TheVariants.{W3, W4, W5}
use Rattle.gj_coords.specs.declared.kind_warnings.KindWarnings.{KindWarnings}
use Rattle.gj_coords.specs.declared.position.Values.{Values}
use Rattle.gj_coords.specs.declared.position.Numbers.{Numbers}
use Rattle.gj_coords.specs.declared.warned.Warned.{Warned}
use Rattle.gj_coords.specs.declared.winding.Corner.{Corner}
use Rattle.gj_coords.specs.Fault.{fault_at, lesser}
use Rattle.gj_coords.specs.Internal.SentEvents.{event_at, head}
use Rattle.gj_coords.specs.Internal.Gathering.{Gathering, given}
use Rattle.gj_coords.specs.Internal.ElementCount.{tally_at, counted, few_in}
use Rattle.gj_coords.specs.Internal.KeptWarnings.{noted_as, nothing_noted, is_nothing, joined_noted}
use Rattle.gj_coords.specs.Winding.{corner_of}
use Rattle.gj_coords.specs.CoordinateWarnings.{is_precise}
use Rattle.gj_coords.specs.Internal.GatheredWarnings.{noted_when, some_noted}

-- What is known of a value that was read as a position: its values, its first event, its least fault, how many elements it has as far
-- as they are counted, and which of its numbers are too precise.
pub record Position : Type 0 where
  pub values : Values
  pub head : Event
  pub fault : Option Fault
  pub count : ℕ
  pub precise : KindWarnings

abbrev pub misshapen_at : ℕ → Option Fault
misshapen_at place = Some (fault_at place G11)

abbrev pub no_values : Values
no_values = record { count = 0; first = None; second = None; third = None }

-- one value more than so many
abbrev pub pushed : ℕ → Option Exact → Values → Values
pushed zero value v = record v { count = 1; first = value }
pushed (suc zero) value v = record v { count = 2; second = value }
pushed (suc (suc zero)) value v = record v { count = 3; third = value }
pushed (suc (suc (suc n))) value v = v

abbrev pub same_values : Values → Values → Bool
same_values a b =
    a.count == b.count && (option_eq same_parts a.first b.first && (option_eq same_parts a.second b.second && option_eq same_parts a.third b.third))

-- the fault of an element, which is one of the first three or not
abbrev pub number_fault : Bool → ℕ → What → Option Fault
number_fault among_first place (What.Number (Some value)) = None
number_fault among_first place (What.Number None) = if among_first then Some (fault_at place G16) else None
number_fault among_first place _ = Some (fault_at place G11)

abbrev pub value_in : What → Option Exact
value_in (What.Number value) = value
value_in _ = None

abbrev pub numbers_start : ℕ → Numbers
numbers_start place = record { values = no_values; tally = tally_at place; fault = None; precise = nothing_noted }

-- one number more, if it is too precise
abbrev pub precise_with : Bool → ℕ → KindWarnings → KindWarnings
precise_with precise place noted = if precise then joined_noted noted (noted_as 1 place) else noted

abbrev pub first_judged : Numbers → ℕ → Option Exact → Numbers
first_judged s place value = record s {
  fault = lesser s.fault (number_fault Bool.true place (What.Number value));
  precise = precise_with (is_precise value) place s.precise;
}

abbrev pub number_added : Numbers → Event → Numbers
number_added s e = record {
  values = pushed s.values.count (value_in e.what) s.values;
  tally = counted s.tally;
  fault = lesser s.fault (number_fault (nat_lt s.values.count 3) e.place e.what);
  precise = precise_with (nat_lt s.values.count 3 && is_precise (value_in e.what)) e.place s.precise;
}

-- one array more, whose fault changes nothing
abbrev pub array_counted : Numbers → Numbers
array_counted s = record s { values = pushed s.values.count None s.values; tally = counted s.tally }

-- so many arrays more
abbrev pub arrays_counted : ℕ → Numbers → Numbers
arrays_counted zero s = s
arrays_counted (suc n) s = arrays_counted n (array_counted s)

abbrev pub position_least : Numbers → Option Fault
position_least s = lesser (few_in 2 G12 s.tally) s.fault

abbrev pub position_closed : Numbers → Position
position_closed s = record {
  values = s.values;
  head = event_at s.tally.place What.OpenArray;
  fault = position_least s;
  count = s.tally.count;
  precise = s.precise;
}

abbrev pub no_position : Event → Position
no_position e = record { values = no_values; head = e; fault = misshapen_at e.place; count = 0; precise = nothing_noted }

abbrev pub numbers_gathering : Gathering Numbers Event Position
numbers_gathering = record { opened = numbers_start; added = number_added; closed = position_closed; otherwise = no_position }

abbrev pub position_answer : Tree → Position
position_answer = given numbers_gathering head

-- ---- what is worth a warning

abbrev pub corner_in : Values → Option Corner
corner_in v = corner_of v.first v.second

-- of a position at this place that breaks no rule, by its count, its corner and those of its numbers that are too precise
abbrev pub position_noted : Warned → ℕ → ℕ → Option Corner → KindWarnings → Warned
position_noted w place count corner precise =
    some_noted (is_nothing precise) (noted_when (is_none corner) (noted_when (nat_lt 3 count) w W3 place) W5 place) W4 precise

abbrev pub sound_noted : Warned → Position → Warned
sound_noted w p = position_noted w p.head.place p.count (corner_in p.values) p.precise

-- a position that breaks a rule gives none
abbrev pub judged_noted : Option Fault → Warned → Position → Warned
judged_noted None w p = sound_noted w p
judged_noted (Some fault) w p = w
