-- What the calls do to what an open object has shown.
use Rattle.std.specs.Prelude.{ℕ, Bool, true, false, if◌then◌else◌, List, Option, Some, None}
use Rattle.gj_json.specs.declared.names.Known.{Known}
use Rattle.gj_json.specs.declared.names.Known.TheVariants.{TypeName, Coordinates, Geometries, Geometry, Properties, Features, Bbox, Id, Other}
use Rattle.gj_json.specs.declared.names.Word.{Word}
use Rattle.gj_json.specs.Tree.{Tree, Members, end_of_object, member}
use Rattle.gj_json.specs.Names.{known_of}
use Rattle.gj_coords.specs.declared.fault.Fault.{Fault}
use Rattle.gj_coords.specs.declared.fault.Rule.TheVariants.{G2, G3, G10}
use Rattle.gj_coords.specs.declared.simple.Simple.{Simple}
use Rattle.gj_coords.specs.Fault.{fault_at, lesser, least}
use Rattle.gj_rules.specs.declared.role.Role.{Role}
use Rattle.gj_rules.specs.declared.member_slots.Slot.{Slot}
use Rattle.gj_rules.specs.declared.member_slots.TypeValue.{TypeValue}
use Rattle.gj_rules.specs.declared.member_slots.member_rules.MemberRules.{MemberRules}
use Rattle.gj_rules.specs.Internal.FrameMeaning.{MemberSlots}
use Rattle.gj_rules.specs.Internal.FrameMeaning.{Shapes}
use Rattle.gj_coords.specs.Items.{place_of}
use Rattle.gj_rules.specs.Members.{is_known, same, type_of}
use Rattle.gj_rules.specs.Role.{is_allowed}
use Rattle.gj_rules.specs.Faults.{selected, faults, listed}
use Rattle.gj_rules.specs.Internal.MemberRules.{rules_of, member_fault}
use Rattle.gj_rules.specs.Internal.Summaries.{no_shapes, shape_for, shapes_of, asked}
use Rattle.gj_rules.specs.Members.{simple_of}

-- the faults of the value of a first member
abbrev pub judge : Known → Tree → List Fault
judge name value = selected name value (faults Role.Geometry value) (listed Role.Part value) (listed Role.Feature value)

abbrev pub blank : Role → ℕ → MemberSlots
blank role place = record {
  place = place;
  role = role;
  repeated = None;
  type_value = None;
  shapes = no_shapes;
  slots = λ name. None;
}

-- ---- slots

abbrev pub slot_of : Known → MemberSlots → Option Slot
slot_of name slots = if is_known name then slots.slots name else None

abbrev pub with_slot : Known → Slot → MemberSlots → MemberSlots
with_slot name slot slots = record slots { slots = λ n. if same n name then Some slot else slots.slots n }

abbrev pub joined_to : Known → Option Fault → Option Slot → MemberSlots → MemberSlots
joined_to name fault None slots = slots
joined_to name fault (Some slot) slots = with_slot name (record { name_at = slot.name_at; fault = lesser slot.fault fault }) slots

abbrev pub joined : Known → Option Fault → MemberSlots → MemberSlots
joined name fault slots = joined_to name fault (slot_of name slots) slots

-- ---- which values are looked at

abbrev pub geometry_uses : Known → Bool
geometry_uses TypeName = true
geometry_uses Coordinates = true
geometry_uses Geometries = true
geometry_uses Bbox = true
geometry_uses _ = false

abbrev pub feature_uses : Known → Bool
feature_uses TypeName = true
feature_uses Geometry = true
feature_uses Properties = true
feature_uses Id = true
feature_uses Bbox = true
feature_uses _ = false

-- the values that some type uses which an object with the role may have
abbrev pub uses : Role → Known → Bool
uses Role.Root name = true
uses Role.Geometry name = geometry_uses name
uses Role.Part name = geometry_uses name
uses Role.Feature name = feature_uses name

abbrev pub repeated_at : ℕ → MemberSlots → MemberSlots
repeated_at place slots = record slots { repeated = lesser slots.repeated (Some (fault_at place G10)) }

abbrev pub named_known : Known → ℕ → Option Slot → MemberSlots → MemberSlots
named_known name place (Some slot) slots = repeated_at place slots
named_known name place None slots = with_slot name (record { name_at = place; fault = None }) slots

abbrev pub named : Known → ℕ → MemberSlots → MemberSlots
named name place slots = if is_known name then named_known name place (slot_of name slots) slots else slots

abbrev pub used : Role → Known → Known
used role name = if uses role name then name else Other

abbrev pub due_known : Known → Option Slot → Role → Known
due_known name (Some slot) role = Other
due_known name None role = used role name

-- as the first member of which name the value after a name is checked, `Other` where it is not
abbrev pub due_after : Known → MemberSlots → Known
due_after name slots = if is_known name then due_known name (slot_of name slots) slots.role else Other

abbrev pub type_set : ℕ → Word → MemberSlots → MemberSlots
type_set place word slots = record slots { type_value = Some (record { place = place; word = word }) }

abbrev pub shapes_set : Shapes → MemberSlots → MemberSlots
shapes_set shapes slots = record slots { shapes = shapes }

-- ---- whole members

-- the value of the first member of a name
abbrev pub filled : Known → Tree → MemberSlots → MemberSlots
filled TypeName value slots = type_set (place_of value) (type_of value) slots
filled Coordinates value slots = shapes_set (asked slots.type_value (shapes_of value)) slots
filled name value slots = joined name (least (judge name value)) slots

abbrev pub member_taken : ℕ → Known → Tree → MemberSlots → MemberSlots
member_taken place name value slots = filled (due_after name slots) value (named name place slots)

abbrev pub members_taken : Members → MemberSlots → MemberSlots
members_taken end_of_object slots = slots
members_taken (member place name end value more) slots = members_taken more (member_taken place (known_of name) value slots)

-- ---- at the close

abbrev pub fault_of : Known → MemberRules → MemberSlots → Option Fault
fault_of name rules f = member_fault rules f.place name (slot_of name f)

-- what is wrong with the members
unfoldable pub members_fault : MemberRules → MemberSlots → Option Fault
members_fault rules f =
    lesser (fault_of Bbox rules f) (lesser (fault_of Coordinates rules f) (lesser (fault_of Geometries rules f) (lesser (fault_of Geometry rules f)
    (lesser (fault_of Properties rules f) (lesser (fault_of Features rules f) (fault_of Id rules f))))))

-- in the coordinates, where the type has some
abbrev pub shape_as : Option Simple → Shapes → Option Fault
shape_as None shapes = None
shape_as (Some simple) shapes = shape_for simple shapes

abbrev pub as_type : Word → MemberSlots → Option Fault
as_type word f = lesser (members_fault (rules_of word) f) (shape_as (simple_of word) f.shapes)

-- where the type is missing or wrong
abbrev pub as_none : Fault → MemberSlots → Option Fault
as_none fault f = lesser (members_fault (rules_of Word.Other) f) (Some fault)

abbrev pub rest_by : Option TypeValue → MemberSlots → Option Fault
rest_by None f = as_none (fault_at f.place G2) f
rest_by (Some value) f = if is_allowed f.role value.word then as_type value.word f else as_none (fault_at value.place G3) f

abbrev pub settled : MemberSlots → Option Fault
settled f = lesser f.repeated (rest_by f.type_value f)
