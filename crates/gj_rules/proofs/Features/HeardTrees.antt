-- What the events of a value do to what was heard of features.
use Rattle.gj_rules.proofs.Common.{Features, Frame, Geometries, Geometry, Id, Members, Role, Tree, array, blank, complete_at, element, end_of_array}
use Rattle.gj_rules.proofs.Common.{end_of_object, length, member, object, place_of, ◌+◌}
use Rattle.std.proofs.Common.{ℕ, None, Some}
use Rattle.std.specs.Option.{unwrap_or}
use Rattle.gj_json.specs.declared.names.Known.{Known}
use Rattle.gj_json.specs.Names.{known_of}
use Rattle.gj_json.specs.Tree as Tree
use Rattle.gj_rules.specs.Internal.FrameCalls.{named, due_after, member_taken}
use Rattle.gj_rules.specs.Internal.FeatureSteps.{Heard, unheard, begins, ends, feature_found, no_feature, is_feature}
use Rattle.gj_rules.proofs.Objects.ClosedFrames.{found_in}

-- at the end of an array that is an element
abbrev pub array_heard : Role → ℕ → Heard → Heard
array_heard r close h = ends (is_feature r) (close + 1) (no_feature (length h.told) (unwrap_or h.begun 0) (Some close)) h

-- at the end of an object with the role
abbrev pub object_heard : Role → (place close : ℕ) → Members → Heard → Heard
object_heard r place close ms h = ends (is_feature r) (close + 1) (feature_found (found_in r place close ms) (length h.told) place close h.begun) h

abbrev mutual
  pub element_heard : Role → Tree → Heard → Heard
  element_heard r (array place es close) h = array_heard r close (begins (is_feature r) place h)
  element_heard r (object place ms close) h = object_heard r place close ms (members_heard (blank r place) ms h)
  element_heard r v h = ends (is_feature r) (complete_at v) (no_feature (length h.told) (place_of v) None) h

  pub elements_heard : Role → Tree.Elements → Heard → Heard
  elements_heard r end_of_array h = h
  elements_heard r (element v more) h = elements_heard r more (element_heard r v h)

  -- of the value that is checked as that of a name, in an object with the role
  pub due_heard : Known → Role → Tree → Heard → Heard
  due_heard Id role v h = begins (is_feature role) (place_of v) h
  due_heard Geometries role (array place es close) h = elements_heard Role.Part es h
  due_heard Features role (array place es close) h = elements_heard Role.Feature es h
  due_heard Geometry role (object place ms close) h = members_heard (blank Role.Geometry place) ms h
  due_heard _ role v h = h

  pub members_heard : Frame → Members → Heard → Heard
  members_heard f end_of_object h = h
  members_heard f (member place name end v more) h =
      members_heard (member_taken place (known_of name) v f) more (due_heard (due_after (known_of name) f) (named (known_of name) place f).slots.role v h)

-- of the value of the text
abbrev pub root_heard : Tree → Heard
root_heard (object place ms close) = members_heard (blank Role.Root place) ms unheard
root_heard _ = unheard
