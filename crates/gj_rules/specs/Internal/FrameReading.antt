-- As what a frame is read. What was kept of an object that has closed is left in it, and does not show here: a
-- member counts where it is present, what a coordinates value shows where it was set, warnings where there are some.
use Rattle.std.specs.Prelude.{ℕ, Bool, true, false, if◌then◌else◌, nat_eq, List, slice_index_or, Option, Some, None, is_none}
use Rattle.std.specs.Int.{bit_at}
use Rattle.gj_coords.specs.declared.fault.Fault.{Fault}
use Rattle.gj_coords.specs.declared.fault.Rule.TheVariants.{G1, G10}
use Rattle.gj_coords.specs.Fault.{fault_at}
use Rattle.gj_coords.specs.declared.simple.Simple.{Simple}
use Rattle.gj_coords.specs.declared.simple_faults.SimpleFaults.{SimpleFaults}
use Rattle.gj_coords.specs.declared.warned.Warned.{Warned}
use Rattle.gj_coords.specs.declared.warnings.Warnings.{Warnings}
use Rattle.gj_coords.specs.Internal.KeptWarnings.{no_warnings}
use Rattle.gj_coords.specs.Internal.GatheredWarnings.{all_in}
use Rattle.gj_rules.specs.declared.findings.Findings as D
use Rattle.gj_rules.specs.declared.frame.Frame as DF
use Rattle.gj_rules.specs.declared.member_warnings.MemberWarnings as DG
use Rattle.gj_rules.specs.declared.lazy_warned.LazyWarned.{LazyWarned}
use Rattle.gj_rules.specs.declared.shapes.Shapes as DS
use Rattle.gj_rules.specs.declared.member_slots.MemberSlots as DW
use Rattle.gj_rules.specs.declared.member_slots.Shaped.{Shaped}
use Rattle.gj_rules.specs.declared.member_slots.Slot.{Slot}
use Rattle.gj_rules.specs.Internal.FrameMeaning.{Findings, Shapes, MemberSlots, MemberWarnings, Frame}
use Rattle.gj_rules.specs.Internal.MemberRules.{index_of}
use Rattle.gj_rules.specs.Internal.Summaries.{no_shapes, alike}

abbrev pub found_in : D.Findings → Findings
found_in x = record { fault = x.fault; warned = all_in x.warned }

-- by the faults and the warnings for each type
abbrev pub shapes_by : SimpleFaults → (Simple → Warnings) → Shapes
shapes_by faults warned = record {
  point = record { fault = faults.point; warned = warned Simple.Point };
  multi_point = record { fault = faults.multi_point; warned = warned Simple.MultiPoint };
  line_string = faults.line_string;
  multi_line_string = record { fault = faults.multi_line_string; warned = warned Simple.MultiLineString };
  polygon = record { fault = faults.polygon; warned = warned Simple.Polygon };
  multi_polygon = record { fault = faults.multi_polygon; warned = warned Simple.MultiPolygon };
}

abbrev pub warned_in : DS.Shapes → Simple → Warnings
warned_in x Simple.Point = all_in x.point_or_one
warned_in x Simple.MultiPoint = all_in x.multi_point
warned_in x Simple.LineString = all_in x.multi_point
warned_in x Simple.MultiLineString = all_in x.multi_line_string
warned_in x Simple.Polygon = all_in x.polygon
warned_in x Simple.MultiPolygon = all_in x.multi_polygon

abbrev pub shapes_in : DS.Shapes → Shapes
shapes_in x = shapes_by x.faults (warned_in x)

-- what is found for one type alone, in the room of what is found for a Point
abbrev pub one_in : DS.Shapes → Findings
one_in x = record { fault = x.faults.point; warned = all_in x.point_or_one }

-- those that were set
abbrev pub shapes_if : Shaped → DS.Shapes → Shapes
shapes_if Shaped.No shapes = no_shapes
shapes_if Shaped.One shapes = alike (one_in shapes)
shapes_if Shaped.Each shapes = shapes_in shapes

-- whether nothing was set of the warnings, or nothing is held of those for one type: those for each are not looked through
abbrev pub looks_unwarned : Shaped → DS.Shapes → Bool
looks_unwarned Shaped.No shapes = true
looks_unwarned Shaped.One shapes = is_none shapes.point_or_one.warnings
looks_unwarned Shaped.Each shapes = false

-- at a place where no fault lies
abbrev pub unset_fault : Fault
unset_fault = fault_at 0 G1

-- the slot at a place, with its fault where a bit says that it counts
abbrev pub counted_slot : ℕ → List ℕ → List Fault → ℕ → Slot
counted_slot faulty names_at faults index = record {
  name_at = slice_index_or names_at index 0;
  fault = if nat_eq (bit_at faulty index) 1 then Some (slice_index_or faults index unset_fault) else None;
}

-- where a member of its name is present
unfoldable pub slot_in : ℕ → ℕ → List ℕ → List Fault → ℕ → Option Slot
slot_in present faulty names_at faults index =
    if nat_eq (bit_at present index) 1 then Some (counted_slot faulty names_at faults index) else None

-- the fault of the least repeated name
abbrev pub repeated_in : Option ℕ → Option Fault
repeated_in None = None
repeated_in (Some place) = Some (fault_at place G10)

abbrev pub slots_in : DW.MemberSlots → MemberSlots
slots_in x = record {
  place = x.place;
  role = x.role;
  repeated = repeated_in x.repeated;
  type_value = x.type_value;
  shapes = shapes_if x.shaped x.shapes;
  slots = λ name. slot_in x.present x.faulty x.names_at x.faults (index_of name);
}

abbrev pub warnings_if : Bool → Warned → Warnings
warnings_if true warned = all_in warned
warnings_if false warned = no_warnings

-- those that count
abbrev pub counted_in : LazyWarned → Warnings
counted_in x = warnings_if x.counts x.warned

abbrev pub gathered_in : DG.MemberWarnings → MemberWarnings
gathered_in x = record { own = counted_in x.own; geometries = counted_in x.geometries; geometry = counted_in x.geometry; features = counted_in x.features }

abbrev pub frame_in : DF.Frame → Frame
frame_in x = record { slots = slots_in x.slots; gathered = gathered_in x.gathered }
