-- What a bounding box gathers of its elements, and where each event leads.
use Rattle.std.specs.Prelude.{ℕ, zero, suc, Bool, Option, Some, None, not, false, ◌||◌, nat_lt, if◌then◌else◌}
use Rattle.gj_number.specs.Exact.{Exact}
use Rattle.gj_json.specs.declared.event.Event.{Event}
use Rattle.gj_json.specs.declared.event.What.{What}
use Rattle.gj_json.specs.Tree.{Tree}
use Rattle.gj_coords.specs.declared.bbox.Bbox.{Bbox}
use Rattle.gj_coords.specs.declared.bbox.BoxElements.{BoxElements}
use Rattle.gj_coords.specs.declared.bbox.latitudes.Latitudes.{Latitudes}
use Rattle.gj_coords.specs.declared.fault.Fault.{Fault}
use Rattle.gj_coords.specs.declared.fault.Rule.TheVariants.{G20, G21}
use Rattle.gj_coords.specs.declared.kind.Kind.TheVariants.{W8}
use Rattle.gj_coords.specs.declared.warnings.Warnings.{Warnings}
use Rattle.gj_coords.specs.Fault.{fault_at, lesser}
use Rattle.gj_coords.specs.Internal.ElementReader.{element_after, element_ended}
use Rattle.gj_coords.specs.Internal.Gathering.{Gathering, given}
use Rattle.gj_coords.specs.Internal.KeptWarnings.{no_warnings, added}
use Rattle.gj_coords.specs.Internal.PositionGather.{value_in}
use Rattle.gj_coords.specs.Internal.SentEvents.{head}
use Rattle.gj_coords.specs.Internal.ValueMachine.{Machine}
use Rattle.gj_coords.specs.Winding.{cut_value}
use Rattle.gj_coords.specs.BoxWarnings.{is_above}

abbrev pub misplaced_at : ℕ → Option Fault
misplaced_at place = Some (fault_at place G20)

abbrev pub unlike_number : ℕ → What → Option Fault
unlike_number place (What.Number value) = None
unlike_number place _ = misplaced_at place

abbrev pub no_latitudes : Latitudes
no_latitudes = record { second = None; fourth = None; fifth = None; count = 0 }

-- one element more than so many
abbrev pub latitude_added : ℕ → Option Exact → Latitudes → Latitudes
latitude_added zero value s = record s { count = 1 }
latitude_added (suc zero) value s = record s { second = cut_value value; count = 2 }
latitude_added (suc (suc zero)) value s = record s { count = 3 }
latitude_added (suc (suc (suc zero))) value s = record s { fourth = cut_value value; count = 4 }
latitude_added (suc (suc (suc (suc zero)))) value s = record s { fifth = cut_value value; count = 5 }
latitude_added (suc (suc (suc (suc (suc zero))))) value s = record s { count = 6 }
latitude_added (suc (suc (suc (suc (suc (suc zero)))))) value s = record s { count = 7 }
latitude_added (suc (suc (suc (suc (suc (suc (suc n))))))) value s = s

-- of so many elements
abbrev pub is_upside_down : ℕ → Latitudes → Bool
is_upside_down (suc (suc (suc (suc zero)))) s = is_above s.second s.fourth
is_upside_down (suc (suc (suc (suc (suc (suc zero)))))) s = is_above s.second s.fifth
is_upside_down _ s = false

abbrev pub no_elements : BoxElements
no_elements = record { fault = None; odd = false; latitudes = no_latitudes }

abbrev pub element_added : BoxElements → Event → BoxElements
element_added s e = record {
  fault = lesser s.fault (unlike_number e.place e.what);
  odd = not s.odd;
  latitudes = latitude_added s.latitudes.count (value_in e.what) s.latitudes;
}

-- an event of the array itself
abbrev pub element_taken : What → BoxElements → Event → BoxElements
element_taken What.CloseArray s e = s
element_taken _ s e = element_added s e

-- ---- what they are, by the first event of the value

abbrev pub wrong_length : ℕ → BoxElements → Option Fault
wrong_length place s = if nat_lt s.latitudes.count 4 || s.odd then Some (fault_at place G21) else None

abbrev pub fault_by : What → ℕ → BoxElements → Option Fault
fault_by What.OpenArray place s = lesser (wrong_length place s) s.fault
fault_by _ place s = misplaced_at place

abbrev pub warnings_by : What → ℕ → BoxElements → Warnings
warnings_by What.OpenArray place s = if is_upside_down s.latitudes.count s.latitudes then added no_warnings W8 place else no_warnings
warnings_by _ place s = no_warnings

-- ---- the value

pub record BoxFindings : Type 0 where
  pub fault : Option Fault
  pub warnings : Warnings

abbrev pub found_by : Event → BoxElements → BoxFindings
found_by e s = record { fault = fault_by e.what e.place s; warnings = warnings_by e.what e.place s }

-- an event where so many levels are open
abbrev pub taken_at : ℕ → BoxElements → Event → BoxElements
taken_at (suc zero) s e = element_taken e.what s e
taken_at _ s e = s

abbrev pub box_machine : Machine Bbox BoxFindings
box_machine = record {
  after = λ s e. record { value = element_after s.value e; elements = taken_at s.value.levels s.elements e };
  ended = λ s. element_ended s.value;
  answered = λ s. found_by s.value.first s.elements;
}

abbrev pub box_gathering : Gathering BoxElements Event BoxElements
box_gathering = record { opened = λ place. no_elements; added = element_added; closed = λ s. s; otherwise = λ e. no_elements }

abbrev pub box_answer : Tree → BoxFindings
box_answer v = found_by (head v) (given box_gathering head v)
