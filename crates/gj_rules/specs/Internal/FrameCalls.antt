-- What the calls of a frame do to it.
use Rattle.std.specs.Prelude.{ℕ, Bool, true, false, if◌then◌else◌, Option, Some, None}
use Rattle.gj_json.specs.declared.names.Known.{Known}
use Rattle.gj_json.specs.declared.names.Word.{Word}
use Rattle.gj_json.specs.Names.{known_of}
use Rattle.gj_json.specs.Tree.{Tree, Members, end_of_object, member}
use Rattle.gj_coords.specs.declared.fault.Fault.{Fault}
use Rattle.gj_coords.specs.declared.kind.Kind.TheVariants.{W7}
use Rattle.gj_coords.specs.declared.simple.Simple.{Simple}
use Rattle.gj_coords.specs.declared.warnings.Warnings.{Warnings}
use Rattle.gj_coords.specs.Internal.KeptWarnings as Noted
use Rattle.gj_coords.specs.Internal.KeptWarnings.{no_warnings, added}
use Rattle.gj_rules.specs.Internal.FrameMeaning.{Findings}
use Rattle.gj_rules.specs.Internal.FrameMeaning.{Frame}
use Rattle.gj_rules.specs.declared.role.Role.{Role}
use Rattle.gj_rules.specs.Internal.FrameMeaning.{Shapes}
use Rattle.gj_rules.specs.declared.member_slots.TypeValue.{TypeValue}
use Rattle.gj_rules.specs.Internal.GatheredWarnings.{none_gathered, gathered, gathered_any, gathered_at}
use Rattle.gj_rules.specs.Role.{is_allowed}
use Rattle.gj_rules.specs.Internal.OpenMembers as MemberSlots
use Rattle.gj_rules.specs.Internal.Summaries.{warned_for}
use Rattle.gj_rules.specs.Internal.TextKept.{judged_kept}

abbrev pub blank : Role → ℕ → Frame
blank role place = record { slots = MemberSlots.blank role place; gathered = none_gathered }

abbrev pub joined : Known → Option Fault → Frame → Frame
joined name fault frame = record frame { slots = MemberSlots.joined name fault frame.slots }

abbrev pub warned : Known → Warnings → Frame → Frame
warned name warnings frame = record frame { gathered = gathered name warnings frame.gathered }

abbrev pub taken_in : Known → Findings → Frame → Frame
taken_in name found frame = record { slots = MemberSlots.joined name found.fault frame.slots; gathered = gathered name found.warned frame.gathered }

-- what values of a first member come to: a fault, and warnings where one of them is an object with a role
abbrev pub taken_any : Known → Option Fault → Option Warnings → Frame → Frame
taken_any name fault warnings frame = record { slots = MemberSlots.joined name fault frame.slots; gathered = gathered_any name warnings frame.gathered }

abbrev pub named : Known → ℕ → Frame → Frame
named name place frame = record { slots = MemberSlots.named name place frame.slots; gathered = gathered_at name place frame.gathered }

-- as the first member of which name the value after a name is checked, `Other` where it is not
abbrev pub due_after : Known → Frame → Known
due_after name frame = MemberSlots.due_after name frame.slots

abbrev pub type_set : ℕ → Word → Frame → Frame
type_set place word frame = record frame { slots = MemberSlots.type_set place word frame.slots }

abbrev pub shapes_set : Shapes → Frame → Frame
shapes_set shapes frame = record frame { slots = MemberSlots.shapes_set shapes frame.slots }

-- ---- whole members

-- the value of the first member of a name
abbrev pub filled : Known → Tree → Frame → Frame
filled name value frame = record { slots = MemberSlots.filled name value frame.slots; gathered = gathered_any name (judged_kept name value) frame.gathered }

abbrev pub member_taken : ℕ → Known → Tree → Frame → Frame
member_taken place name value frame = filled (due_after name frame) value (named name place frame)

abbrev pub members_taken : Members → Frame → Frame
members_taken end_of_object frame = frame
members_taken (member place name end value more) frame = members_taken more (member_taken place (known_of name) value frame)

-- ---- at the close

abbrev pub is_collection : Word → Bool
is_collection Word.GeometryCollection = true
is_collection _ = false

-- as a GeometryCollection
abbrev pub collected : Role → ℕ → Warnings → Warnings
collected Role.Part place geometries = added geometries W7 place
collected _ place geometries = geometries

abbrev pub warned_as : Word → Frame → Warnings
warned_as Word.Point f = warned_for Simple.Point f.slots.shapes
warned_as Word.MultiPoint f = warned_for Simple.MultiPoint f.slots.shapes
warned_as Word.LineString f = warned_for Simple.LineString f.slots.shapes
warned_as Word.MultiLineString f = warned_for Simple.MultiLineString f.slots.shapes
warned_as Word.Polygon f = warned_for Simple.Polygon f.slots.shapes
warned_as Word.MultiPolygon f = warned_for Simple.MultiPolygon f.slots.shapes
warned_as Word.GeometryCollection f = collected f.slots.role f.slots.place f.gathered.geometries
warned_as Word.Feature f = f.gathered.geometry
warned_as Word.FeatureCollection f = f.gathered.features
warned_as Word.Other f = no_warnings

abbrev pub warned_by : Option TypeValue → Frame → Warnings
warned_by None f = no_warnings
warned_by (Some value) f = if is_allowed f.slots.role value.word then warned_as value.word f else no_warnings

-- a GeometryCollection that is one of another's geometries
abbrev pub is_nested : Role → Option TypeValue → Bool
is_nested Role.Part (Some value) = is_collection value.word
is_nested _ _ = false

abbrev pub settled : Frame → Findings
settled f = record { fault = MemberSlots.settled f.slots; warned = Noted.joined f.gathered.own (warned_by f.slots.type_value f) }
