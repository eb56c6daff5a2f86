-- What the rules keep of the warnings of a text, by recursion on the tree beside `TextWarnings`: it is what is kept of
-- the list of them where a summary can count all positions of a ring.
use Rattle.std.specs.Prelude.{ℕ, Bool, true, false, if◌then◌else◌, Option, Some, None}
use Rattle.gj_json.specs.declared.names.Known.{Known}
use Rattle.gj_json.specs.declared.names.Known.TheVariants.{Coordinates, Geometries, Geometry, Features, Bbox}
use Rattle.gj_json.specs.declared.names.Word.{Word}
use Rattle.gj_json.specs.Names.{known_of}
use Rattle.gj_json.specs.Tree.{Tree, constant, number, string, array, object, Elements, end_of_array, element, Members, end_of_object, member, Text}
use Rattle.gj_coords.specs.declared.kind.Kind.TheVariants.{W1, W7}
use Rattle.gj_coords.specs.declared.simple.Simple.{Simple}
use Rattle.gj_coords.specs.declared.warnings.Warnings.{Warnings}
use Rattle.gj_coords.specs.Internal.KeptWarnings.{warnings_of, no_warnings, joined, added}
use Rattle.gj_coords.specs.BoxWarnings.{bbox_warnings}
use Rattle.gj_coords.specs.Internal.CoordinatesKept.{coordinates_kept}
use Rattle.gj_rules.specs.declared.role.Role.{Role}
use Rattle.gj_rules.specs.declared.member_slots.TypeValue.{TypeValue}
use Rattle.gj_rules.specs.Members.{same, first_type}
use Rattle.gj_rules.specs.Role.{is_allowed}
use Rattle.gj_rules.specs.TextWarnings.{crs_warnings, first_value}

-- those of two values, where either has any
abbrev pub both : Option Warnings → Option Warnings → Option Warnings
both None b = b
both (Some a) None = Some a
both (Some a) (Some b) = Some (joined a b)

abbrev pub or_none : Option Warnings → Warnings
or_none None = no_warnings
or_none (Some a) = a

abbrev pub simple_kept : Simple → Option Tree → Warnings
simple_kept simple None = no_warnings
simple_kept simple (Some value) = coordinates_kept simple value

abbrev pub collected_kept : Role → ℕ → Warnings → Warnings
collected_kept Role.Part place geometries = added geometries W7 place
collected_kept role place geometries = geometries

-- a LineString has the warnings of a MultiPoint
abbrev pub typed_kept : Word → Role → ℕ → Option Tree → Warnings → Warnings → Warnings → Warnings
typed_kept Word.Point role place coordinates geometries geometry features = simple_kept Simple.Point coordinates
typed_kept Word.MultiPoint role place coordinates geometries geometry features = simple_kept Simple.MultiPoint coordinates
typed_kept Word.LineString role place coordinates geometries geometry features = simple_kept Simple.MultiPoint coordinates
typed_kept Word.MultiLineString role place coordinates geometries geometry features = simple_kept Simple.MultiLineString coordinates
typed_kept Word.Polygon role place coordinates geometries geometry features = simple_kept Simple.Polygon coordinates
typed_kept Word.MultiPolygon role place coordinates geometries geometry features = simple_kept Simple.MultiPolygon coordinates
typed_kept Word.GeometryCollection role place coordinates geometries geometry features = collected_kept role place geometries
typed_kept Word.Feature role place coordinates geometries geometry features = geometry
typed_kept Word.FeatureCollection role place coordinates geometries geometry features = features
typed_kept Word.Other role place coordinates geometries geometry features = no_warnings

abbrev pub by_type_kept : Option TypeValue → Role → ℕ → Option Tree → Warnings → Warnings → Warnings → Warnings
by_type_kept None role place coordinates geometries geometry features = no_warnings
by_type_kept (Some value) role place coordinates geometries geometry features =
    if is_allowed role value.word then typed_kept value.word role place coordinates geometries geometry features else no_warnings

-- of the value of a first member, but for `coordinates`
abbrev pub selected_kept : Known → Tree → Option Warnings → Option Warnings → Option Warnings → Option Warnings
selected_kept Geometry value geometry geometries features = geometry
selected_kept Geometries value geometry geometries features = geometries
selected_kept Features value geometry geometries features = features
selected_kept Bbox value geometry geometries features = Some (warnings_of (bbox_warnings value))
selected_kept _ value geometry geometries features = None

abbrev mutual
  pub kept : Role → Tree → Option Warnings
  kept role (object place members close) =
      Some (joined (joined (warnings_of (crs_warnings members)) (or_none (first_kept Bbox members)))
      (by_type_kept (first_type members) role place (first_value Coordinates members)
      (or_none (first_kept Geometries members)) (or_none (first_kept Geometry members)) (or_none (first_kept Features members))))
  kept role (constant which place) = None
  kept role (number place literal end) = None
  kept role (string place content end) = None
  kept role (array place elements close) = None

  pub list_kept : Role → Tree → Option Warnings
  list_kept role (array place elements close) = all_kept role elements
  list_kept role (constant which place) = None
  list_kept role (number place literal end) = None
  list_kept role (string place content end) = None
  list_kept role (object place members close) = None

  pub all_kept : Role → Elements → Option Warnings
  all_kept role end_of_array = None
  all_kept role (element value more) = both (kept role value) (all_kept role more)

  pub first_kept : Known → Members → Option Warnings
  first_kept name end_of_object = None
  first_kept name (member place found end value more) =
      if same name (known_of found) then selected_kept name value (kept Role.Geometry value) (list_kept Role.Part value) (list_kept Role.Feature value)
      else first_kept name more

-- of the value of a first member
abbrev pub judged_kept : Known → Tree → Option Warnings
judged_kept name value = selected_kept name value (kept Role.Geometry value) (list_kept Role.Part value) (list_kept Role.Feature value)

-- after a byte order mark
abbrev pub marked_kept : Bool → Warnings
marked_kept true = added no_warnings W1 0
marked_kept false = no_warnings

-- with the warnings of one value more, where it has any
abbrev pub and_kept : Warnings → Option Warnings → Warnings
and_kept had None = had
and_kept had (Some more) = joined had more

abbrev pub text_kept : Text → Warnings
text_kept text = and_kept (marked_kept text.marked) (kept Role.Root text.value)
