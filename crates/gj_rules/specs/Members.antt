-- The members of an object that the rules look at: of each known name the first one, and those that repeat a name
-- (RFC 7946, sections 3 to 3.3, 5 and 7.1).
use denote.Enum.Bare.{sameb}
use Rattle.std.specs.Prelude.{ℕ, Bool, true, false, ◌&&◌, if◌then◌else◌, List, [], ◌∷◌, ◌++◌, Option, Some, None}
use Rattle.gj_json.specs.declared.names.Known.{Known}
use Rattle.gj_json.specs.declared.names.Known.TheVariants.{TypeName, Coordinates, Geometries, Geometry, Properties, Features, Crs, Other}
use Rattle.gj_json.specs.contracts.names.Known.{the_type}
use Rattle.gj_json.specs.declared.names.Word.{Word}
use Rattle.gj_json.specs.Names.{known_of, word_of}
use Rattle.gj_json.specs.Tree.{Tree, string, Members, end_of_object, member}
use Rattle.gj_coords.specs.declared.fault.Fault.{Fault}
use Rattle.gj_coords.specs.declared.fault.Rule.{Rule}
use Rattle.gj_coords.specs.declared.fault.Rule.TheVariants.{G10}
use Rattle.gj_coords.specs.declared.simple.Simple.{Simple}
use Rattle.gj_coords.specs.Fault.{fault_at}
use Rattle.gj_coords.specs.Items.{place_of}
use Rattle.gj_rules.specs.declared.member_slots.TypeValue.{TypeValue}

-- the type that a value of `type` names
abbrev pub type_of : Tree → Word
type_of (string place content end) = word_of content
type_of _ = Word.Other

abbrev pub one : ℕ → Rule → List Fault
one place rule = fault_at place rule ∷ []

-- ---- names

-- the names that the rules know
abbrev pub is_known : Known → Bool
is_known Other = false
is_known Crs = false
is_known _ = true

abbrev pub same : Known → Known → Bool
same = sameb the_type

-- whether the name is among these
abbrev pub mentions : List Known → Known → Bool
mentions [] name = false
mentions (x ∷ xs) name = if same name x then true else mentions xs name

-- the names that section 7.1 forbids to a type
abbrev pub forbidden_by : Word → List Known
forbidden_by Word.Feature = Coordinates ∷ Geometries ∷ Features ∷ []
forbidden_by Word.FeatureCollection = Coordinates ∷ Geometries ∷ Geometry ∷ Properties ∷ []
forbidden_by Word.Other = []
forbidden_by _ = Geometry ∷ Properties ∷ Features ∷ []

-- ---- types

-- as which of the six types an object of a type has its coordinates, where it has some
abbrev pub simple_of : Word → Option Simple
simple_of Word.Point = Some Simple.Point
simple_of Word.MultiPoint = Some Simple.MultiPoint
simple_of Word.LineString = Some Simple.LineString
simple_of Word.MultiLineString = Some Simple.MultiLineString
simple_of Word.Polygon = Some Simple.Polygon
simple_of Word.MultiPolygon = Some Simple.MultiPolygon
simple_of _ = None

-- ---- members

-- the value of the first member `type`
abbrev pub first_type : Members → Option TypeValue
first_type end_of_object = None
first_type (member place name end value more) =
    if same TypeName (known_of name) then Some (record { place = place_of value; word = type_of value }) else first_type more

-- G10 at the name of each member with a known name that is not the first of it, among members after others of the
-- names `before`
abbrev pub repeated : List Known → Members → List Fault
repeated before end_of_object = []
repeated before (member place name end value more) =
    (if is_known (known_of name) && mentions before (known_of name) then one place G10 else []) ++ repeated (known_of name ∷ before) more
