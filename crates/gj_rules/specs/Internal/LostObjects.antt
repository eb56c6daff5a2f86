-- Whether what the object of a text has shown breaks a rule, whatever its members to come are.
use denote.Enum.Bare.{sameb}
use Rattle.std.specs.Prelude.{Bool, ◌&&◌, ◌||◌, List, [], ◌∷◌, Option, Some, None, is_some}
use Rattle.gj_json.specs.contracts.names.Word.{the_type}
use Rattle.gj_json.specs.declared.names.Word.{Word}
use Rattle.gj_rules.specs.Internal.FrameMeaning.{Frame, MemberSlots}
use Rattle.gj_rules.specs.declared.member_slots.TypeValue.{TypeValue}
use Rattle.gj_rules.specs.Internal.EventSteps.{Core}
use Rattle.gj_rules.specs.Internal.MemberRules.{rules_of, without_due}
use Rattle.gj_rules.specs.Internal.OpenMembers.{members_fault, shape_as}
use Rattle.gj_rules.specs.Members.{simple_of}

-- ---- as one of a type

-- by its members and its coordinates, where each member may still come
abbrev pub fails_by : Word → MemberSlots → Bool
fails_by word f = is_some (members_fault (without_due (rules_of word)) f) || is_some (shape_as (simple_of word) f.shapes)

-- none of the nine types fails always
abbrev pub fails_as : Word → MemberSlots → Bool
fails_as word f = sameb the_type word Word.Other || fails_by word f

-- ---- whatever its type

abbrev pub all_fail : MemberSlots → Bool
all_fail f =
    fails_as Word.Point f && (fails_as Word.MultiPoint f && (fails_as Word.LineString f && (fails_as Word.MultiLineString f
    && (fails_as Word.Polygon f && (fails_as Word.MultiPolygon f && (fails_as Word.GeometryCollection f
    && (fails_as Word.Feature f && fails_as Word.FeatureCollection f)))))))

abbrev pub type_lost : Option TypeValue → MemberSlots → Bool
type_lost None f = all_fail f
type_lost (Some value) f = fails_as value.word f

abbrev pub is_lost : MemberSlots → Bool
is_lost f = is_some f.repeated || type_lost f.type_value f

-- ---- of all that is kept

-- what the outermost open object has shown
abbrev pub root_of : Frame → List Frame → MemberSlots
root_of top [] = top.slots
root_of top (parent ∷ outer) = root_of parent outer

-- the text has ended with a fault, or its object has one
abbrev pub core_lost : Core → Bool
core_lost s = is_some s.answer.fault || is_lost (root_of s.top s.outer)
