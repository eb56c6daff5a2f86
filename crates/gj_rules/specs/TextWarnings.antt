-- What is likely wrong in use in a text: all warnings, by recursion on the tree, over the objects whose faults count
-- (RFC 7946, sections 3.1 to 3.3, 3.1.8, 4 and 5; RFC 8259, section 8.1). They are reported of a text that breaks no rule.
use Rattle.std.specs.Prelude.{ℕ, if◌then◌else◌, List, [], ◌∷◌, ◌++◌, Option, Some, None}
use Rattle.gj_json.specs.declared.names.Known.{Known}
use Rattle.gj_json.specs.declared.names.Known.TheVariants.{Coordinates, Geometries, Geometry, Features, Bbox, Crs}
use Rattle.gj_json.specs.declared.names.Word.{Word}
use Rattle.gj_json.specs.Names.{known_of}
use Rattle.gj_json.specs.Tree.{Tree, array, object, Elements, end_of_array, element, Members, end_of_object, member, Text}
use Rattle.gj_coords.specs.declared.kind.Kind.TheVariants.{W1, W7, W9}
use Rattle.gj_coords.specs.declared.simple.Simple.{Simple}
use Rattle.gj_coords.specs.Warnings.{Warning, warning_at}
use Rattle.gj_coords.specs.CoordinateWarnings.{coordinates_warnings, warned_if}
use Rattle.gj_coords.specs.BoxWarnings.{bbox_warnings}
use Rattle.gj_rules.specs.declared.member_slots.TypeValue.{TypeValue}
use Rattle.gj_rules.specs.declared.role.Role.{Role}
use Rattle.gj_rules.specs.Members.{same, simple_of, first_type}
use Rattle.gj_rules.specs.Role.{is_allowed}

-- each member `crs`, at its name (section 4)
abbrev pub crs_warnings : Members → List Warning
crs_warnings end_of_object = []
crs_warnings (member place name end value more) = warned_if (same Crs (known_of name)) place W9 ++ crs_warnings more

-- the value of the first member of a name
abbrev pub first_value : Known → Members → Option Tree
first_value name end_of_object = None
first_value name (member place found end value more) = if same name (known_of found) then Some value else first_value name more

-- as a simple type, of the value of `coordinates` where it is there
abbrev pub simple_warnings : Option Simple → Option Tree → List Warning
simple_warnings (Some simple) (Some value) = coordinates_warnings simple value
simple_warnings _ _ = []

-- what of an object depends on its type: those of its coordinates, of its geometries, of its geometry or of its features
abbrev pub typed_warnings : Word → Role → ℕ → Option Tree → List Warning → List Warning → List Warning → List Warning
-- a GeometryCollection inside another (section 3.1.8)
typed_warnings Word.GeometryCollection Role.Part place coordinates geometries geometry features = warning_at place W7 ∷ geometries
typed_warnings Word.GeometryCollection role place coordinates geometries geometry features = geometries
typed_warnings Word.Feature role place coordinates geometries geometry features = geometry
typed_warnings Word.FeatureCollection role place coordinates geometries geometry features = features
typed_warnings word role place coordinates geometries geometry features = simple_warnings (simple_of word) coordinates

abbrev pub by_type_warnings : Option TypeValue → Role → ℕ → Option Tree → List Warning → List Warning → List Warning → List Warning
by_type_warnings None role place coordinates geometries geometry features = []
by_type_warnings (Some value) role place coordinates geometries geometry features =
    if is_allowed role value.word then typed_warnings value.word role place coordinates geometries geometry features else []

-- the warnings of the value of a first member that do not depend on its object's type, given those that it has as a geometry,
-- as a list of geometries and as a list of features
abbrev pub selected_warnings : Known → Tree → List Warning → List Warning → List Warning → List Warning
selected_warnings Geometry value geometry geometries features = geometry
selected_warnings Geometries value geometry geometries features = geometries
selected_warnings Features value geometry geometries features = features
selected_warnings Bbox value geometry geometries features = bbox_warnings value
selected_warnings _ value geometry geometries features = []

abbrev mutual
  -- the warnings of a value with a role
  pub warnings : Role → Tree → List Warning
  warnings role (object place members close) =
      crs_warnings members ++ (first_warnings Bbox members
      ++ by_type_warnings (first_type members) role place (first_value Coordinates members)
      (first_warnings Geometries members) (first_warnings Geometry members) (first_warnings Features members))
  warnings role _ = []

  -- the warnings of the elements of a value, which have this role
  pub list_warnings : Role → Tree → List Warning
  list_warnings role (array place elements close) = all_warnings role elements
  list_warnings role _ = []

  pub all_warnings : Role → Elements → List Warning
  all_warnings role end_of_array = []
  all_warnings role (element value more) = warnings role value ++ all_warnings role more

  -- the warnings of the value of the first member of a name
  pub first_warnings : Known → Members → List Warning
  first_warnings name end_of_object = []
  first_warnings name (member place found end value more) =
      if same name (known_of found) then selected_warnings name value (warnings Role.Geometry value) (list_warnings Role.Part value)
      (list_warnings Role.Feature value)
      else first_warnings name more

-- all warnings of a text, with that of a byte order mark
abbrev pub text_warnings : Text → List Warning
text_warnings text = warned_if text.marked 0 W1 ++ warnings Role.Root text.value
