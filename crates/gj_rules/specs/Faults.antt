-- The faults of a text (RFC 7946, sections 1.4, 3.1 to 3.3, 5 and 7): a list by recursion on the tree, whatever the
-- order of the members. Only the least of it, by place and then by rule, is reported.
use Rattle.std.specs.Prelude.{ℕ, if◌then◌else◌, List, [], ◌++◌, Option, Some, None}
use Rattle.std.specs.List.{flat_map}
use Rattle.gj_json.specs.declared.constant.Constant.{Constant}
use Rattle.gj_json.specs.declared.constant.Constant.TheVariants.{Null}
use Rattle.gj_json.specs.declared.names.Known.{Known}
use Rattle.gj_json.specs.declared.names.Known.TheVariants.{Coordinates, Geometries, Geometry, Properties, Features, Bbox, Id}
use Rattle.gj_json.specs.declared.names.Word.{Word}
use Rattle.gj_json.specs.Names.{known_of}
use Rattle.gj_json.specs.Tree.{Tree, constant, number, string, array, object, Elements, end_of_array, element, Members, end_of_object, member, Text}
use Rattle.gj_coords.specs.declared.fault.Fault.{Fault}
use Rattle.gj_coords.specs.declared.fault.Rule.{Rule}
use Rattle.gj_coords.specs.declared.fault.Rule.TheVariants.{G1, G2, G3, G4, G5, G6, G7, G8, G9, G17, G18, G19}
use Rattle.gj_coords.specs.declared.simple.Simple.{Simple}
use Rattle.gj_coords.specs.Shape.{coordinates_faults}
use Rattle.gj_coords.specs.Box.{bbox_faults}
use Rattle.gj_rules.specs.declared.member_slots.TypeValue.{TypeValue}
use Rattle.gj_rules.specs.declared.role.Role.{Role}
use Rattle.gj_coords.specs.Items.{place_of}
use Rattle.gj_rules.specs.Members.{one, same, simple_of, first_type, forbidden_by, repeated}
use Rattle.gj_rules.specs.Role.{is_allowed}

-- ---- values that hold no other value with a role

-- the value of a Feature's `properties` is an object or null (section 3.2)
abbrev pub properties_faults : Tree → List Fault
properties_faults (object place members close) = []
properties_faults (constant Null place) = []
properties_faults value = one (place_of value) G18

-- the value of a Feature's `id` is a string or a number (section 3.2)
abbrev pub id_faults : Tree → List Fault
id_faults (string place content end) = []
id_faults (number place literal end) = []
id_faults value = one (place_of value) G19

-- null is the geometry of an unlocated feature (section 3.2), and no value with another role
abbrev pub constant_faults : Constant → Role → ℕ → List Fault
constant_faults Null Role.Geometry place = []
constant_faults which role place = one place G1

-- ---- an object, as the members of it that count

-- the first member of a name: the place of the name, the value, and the value's faults. Those of `coordinates` depend on
-- the type of the object, and are not among them.
pub record First : Type 0 where
  pub name_at : ℕ
  pub value : Tree
  pub faults : List Fault

-- a member that the type forbids (section 7.1)
abbrev pub forbidden : Option First → List Fault
forbidden None = []
forbidden (Some first) = one first.name_at G9

-- a member that the type asks for
abbrev pub due : ℕ → Rule → Option First → List Fault
due place rule None = one place rule
due place rule (Some first) = first.faults

-- a member that may be there
abbrev pub optional : Option First → List Fault
optional None = []
optional (Some first) = first.faults

-- `coordinates`, which a simple type asks for
abbrev pub due_coordinates : Option Simple → ℕ → Option First → List Fault
due_coordinates None place found = []
due_coordinates (Some simple) place None = one place G4
due_coordinates (Some simple) place (Some first) = coordinates_faults simple first.value

-- what an object lacks as one of a type, and what is wrong with the members that the type uses (sections 3.1.2 to 3.3); `m` has
-- the first member of each name, where there is one
abbrev pub as_type : Word → ℕ → (Known → Option First) → List Fault
as_type Word.GeometryCollection place m = due place G5 (m Geometries)
as_type Word.Feature place m = due place G6 (m Geometry) ++ (due place G7 (m Properties) ++ optional (m Id))
as_type Word.FeatureCollection place m = due place G8 (m Features)
as_type word place m = due_coordinates (simple_of word) place (m Coordinates)

-- with a type missing or not allowed nothing else of the object is checked
abbrev pub by_type : Option TypeValue → Role → ℕ → (Known → Option First) → List Fault
by_type None role place m = one place G2
by_type (Some value) role place m =
    if is_allowed role value.word then flat_map (λ name. forbidden (m name)) (forbidden_by value.word) ++ as_type value.word place m else one value.place G3

-- ---- the recursion

-- the faults of the value of a member, given those that it has as a geometry, as a list of geometries and as a list of
-- features
abbrev pub selected : Known → Tree → List Fault → List Fault → List Fault → List Fault
selected Geometry value geometry geometries features = geometry
selected Geometries value geometry geometries features = geometries
selected Features value geometry geometries features = features
selected Properties value geometry geometries features = properties_faults value
selected Bbox value geometry geometries features = bbox_faults value
selected Id value geometry geometries features = id_faults value
selected _ value geometry geometries features = []

abbrev mutual
  -- the faults of a value with a role
  pub faults : Role → Tree → List Fault
  -- a bounding box is checked in each object, also where its type is missing or wrong (section 5)
  faults role (object place members close) =
      repeated [] members ++ (optional (first Bbox members) ++ by_type (first_type members) role place (λ name. first name members))
  faults role (constant which place) = constant_faults which role place
  faults role value = one (place_of value) G1

  -- the faults of a value that is to be an array of values with a role
  pub listed : Role → Tree → List Fault
  listed role (array place elements close) = all_faults role elements
  listed role value = one (place_of value) G17

  -- the faults of the elements of such an array
  pub all_faults : Role → Elements → List Fault
  all_faults role end_of_array = []
  all_faults role (element value more) = faults role value ++ all_faults role more

  -- the first member of a name
  pub first : Known → Members → Option First
  first name end_of_object = None
  first name (member place found end value more) =
      if same name (known_of found) then Some (record {
        name_at = place;
        value = value;
        faults = selected name value (faults Role.Geometry value) (listed Role.Part value) (listed Role.Feature value);
      }) else first name more

-- the faults of a text
abbrev pub text_faults : Text → List Fault
text_faults text = faults Role.Root text.value
