-- The places that the warnings of a text name are places of it.
use Rattle.gj_rules.proofs.Common.{AllByRecursion, Bool, Coordinates, Crs, Features, Geometries, Geometry, Id, IsText, Kind, List, Members, Other}
use Rattle.gj_rules.proofs.Common.{Properties, Role, Simple, Text, Tree, TypeName, TypeValue, W1, W9, Warning, Word, ap, arith, array, constant}
use Rattle.gj_rules.proofs.Common.{coordinates_warnings, element, elements_of, end_of_array, end_of_object, false, flat_map, if◌then◌else◌}
use Rattle.gj_rules.proofs.Common.{is_allowed, length, member, nat_lt, not, number, object, place_of, refl, same, string, sym, take, true, warned_if}
use Rattle.gj_rules.proofs.Common.{[], ◌&&◌, ◌∙◌, ◌∷◌, ◌≤◌}
use Rattle.std.proofs.Common.{◌≡◌, ℕ, Option, Some, None, unwrap_or}
use Rattle.gj_json.specs.declared.names.Known.{Known}
use Rattle.gj_json.specs.declared.names.Known.TheVariants.{Bbox}
use Rattle.gj_json.specs.Names.{known_of}
use Rattle.gj_json.specs.Tree.{Elements}
use Rattle.gj_coords.specs.declared.kind.Kind.TheVariants.{W2, W3, W4, W5, W8}
use Rattle.gj_coords.specs.BoxWarnings.{south_above_north, bbox_warnings}
use Rattle.gj_coords.specs.CoordinateWarnings.{Concern, each, is_precise, number_warnings, sound_position_warnings, position_warnings}
use Rattle.gj_coords.specs.CoordinateWarnings.{ring_warnings, rings_warnings, polygon_warnings, concern_of}
use Rattle.gj_coords.specs.Ring.{exact_value}
use Rattle.gj_coords.specs.Shape.{is_empty, position, ring}
use Rattle.gj_coords.specs.Warnings.{same_kind, places_of, least_place, lesser_place, first_of}
use Rattle.gj_coords.specs.declared.winding.Turn.{Turn}
use Rattle.gj_coords.specs.declared.winding.Turn.TheVariants.{Left, Right}
use Rattle.gj_coords.specs.Winding.{in_range, ring_turn, same_turn}
use Rattle.gj_rules.specs.Members.{first_type}
use Rattle.gj_rules.specs.TextWarnings
use Rattle.gj_rules.proofs.Texts.PlacesOfFaults.{Within, WithinElements, WithinMembers, all_append, all_flat, all_if, all_take, elements_within, place_within}
use Rattle.gj_rules.proofs.Texts.PlacesOfFaults.{text_within}

abbrev WarningsIn : ℕ → List Warning → Type 0
WarningsIn n warnings = AllByRecursion (λ warning. warning.place ≤ n) warnings

abbrev InWarning : ℕ → Warning → Type 0
InWarning n warning = warning.place ≤ n

abbrev FitsConcern : ℕ → Concern → Type 0
FitsConcern n concern = (t : Tree) → Within n t → WarningsIn n (concern t)

warned_in : (n : ℕ) (b : Bool) (place : ℕ) (kind : Kind) → place ≤ n → WarningsIn n (warned_if b place kind)
warned_in n true place kind h = (h, tt)
warned_in n false place kind h = tt

each_in : (n : ℕ) (concern : Concern) → FitsConcern n concern → FitsConcern n (each concern)
each_in n concern one t h = all_flat (Within n) (InWarning n) concern one (elements_of t) (elements_within n t h)

number_in : (n : ℕ) → FitsConcern n number_warnings
number_in n t h = warned_in n (is_precise (exact_value t)) (place_of t) W4 (place_within n t h)

sound_position_in : (n : ℕ) → FitsConcern n sound_position_warnings
sound_position_in n t h =
    all_append (InWarning n) _ _ (warned_in n (nat_lt 3 (length (elements_of t))) (place_of t) W3 (place_within n t h))
    (all_append (InWarning n) _ _ (warned_in n (not (in_range t)) (place_of t) W5 (place_within n t h))
    (all_flat (Within n) (InWarning n) number_warnings (number_in n) (take 3 (elements_of t)) (all_take (Within n) 3 (elements_of t) (elements_within n t h))))

position_in : (n : ℕ) → FitsConcern n position_warnings
position_in n t h = all_if (InWarning n) (is_empty (position t)) (sound_position_warnings t) (sound_position_in n t h)

ring_in : (n : ℕ) (wrong : Turn) → FitsConcern n (ring_warnings wrong)
ring_in n wrong t h =
    all_append (InWarning n) _ (each position_warnings t)
    (warned_in n (is_empty (ring t) && same_turn (ring_turn (elements_of t)) wrong) (place_of t) W2 (place_within n t h))
    (each_in n position_warnings (position_in n) t h)

rings_in : (n : ℕ) (ts : List Tree) → AllByRecursion (Within n) ts → WarningsIn n (rings_warnings ts)
rings_in n [] h = tt
rings_in n (exterior ∷ holes) h =
    all_append (InWarning n) (ring_warnings Right exterior) (flat_map (ring_warnings Left) holes) (ring_in n Right exterior h.0)
    (all_flat (Within n) (InWarning n) (ring_warnings Left) (ring_in n Left) holes h.1)

polygon_in : (n : ℕ) → FitsConcern n polygon_warnings
polygon_in n t h = rings_in n (elements_of t) (elements_within n t h)

concern_in : (n : ℕ) (simple : Simple) → FitsConcern n (concern_of simple)
concern_in n Simple.Point = position_in n
concern_in n Simple.MultiPoint = each_in n position_warnings (position_in n)
concern_in n Simple.LineString = each_in n position_warnings (position_in n)
concern_in n Simple.MultiLineString = each_in n (each position_warnings) (each_in n position_warnings (position_in n))
concern_in n Simple.Polygon = polygon_in n
concern_in n Simple.MultiPolygon = each_in n polygon_warnings (polygon_in n)

coordinates_in : (n : ℕ) (simple : Simple) → FitsConcern n (coordinates_warnings simple)
coordinates_in n simple (array place end_of_array close) h = (h.0, tt)
coordinates_in n simple (array place (element v more) close) h = concern_in n simple (array place (element v more) close) h
coordinates_in n simple (constant which place) h = concern_in n simple (constant which place) h
coordinates_in n simple (number place literal end) h = concern_in n simple (number place literal end) h
coordinates_in n simple (string place content end) h = concern_in n simple (string place content end) h
coordinates_in n simple (object place ms close) h = concern_in n simple (object place ms close) h

bbox_in : (n : ℕ) → FitsConcern n bbox_warnings
bbox_in n t h = warned_in n (south_above_north (elements_of t)) (place_of t) W8 (place_within n t h)

crs_in : (n : ℕ) (ms : Members) → WithinMembers n ms → WarningsIn n (TextWarnings.crs_warnings ms)
crs_in n end_of_object h = tt
crs_in n (member place name end v more) h = all_append (InWarning n) _ _ (warned_in n (same Crs (known_of name)) place W9 h.0) (crs_in n more h.2)

abbrev ValueIn : ℕ → Option Tree → Type 0
ValueIn n None = Unit {0}
ValueIn n (Some v) = Within n v

value_if : (n : ℕ) (b : Bool) (a c : Option Tree) → ValueIn n a → ValueIn n c → ValueIn n (if b then a else c)
value_if n true a c h k = h
value_if n false a c h k = k

first_value_in : (n : ℕ) (name : Known) (ms : Members) → WithinMembers n ms → ValueIn n (TextWarnings.first_value name ms)
first_value_in n name end_of_object h = tt
first_value_in n name (member place found end v more) h =
    value_if n (same name (known_of found)) (Some v) (TextWarnings.first_value name more) h.1 (first_value_in n name more h.2)

simple_in : (n : ℕ) (simple : Simple) (value : Option Tree) → ValueIn n value → WarningsIn n (TextWarnings.simple_warnings (Some simple) value)
simple_in n simple None h = tt
simple_in n simple (Some v) h = coordinates_in n simple v h

typed_in : (n : ℕ) (word : Word) (role : Role) (place : ℕ) (coordinates : Option Tree) (geometries geometry features : List Warning) → place ≤ n
    → ValueIn n coordinates
    → WarningsIn n geometries → WarningsIn n geometry → WarningsIn n features
    → WarningsIn n (TextWarnings.typed_warnings word role place coordinates geometries geometry features)
typed_in n Word.Point role place coordinates geometries geometry features l h a b c = simple_in n Simple.Point coordinates h
typed_in n Word.MultiPoint role place coordinates geometries geometry features l h a b c = simple_in n Simple.MultiPoint coordinates h
typed_in n Word.LineString role place coordinates geometries geometry features l h a b c = simple_in n Simple.LineString coordinates h
typed_in n Word.MultiLineString role place coordinates geometries geometry features l h a b c = simple_in n Simple.MultiLineString coordinates h
typed_in n Word.Polygon role place coordinates geometries geometry features l h a b c = simple_in n Simple.Polygon coordinates h
typed_in n Word.MultiPolygon role place coordinates geometries geometry features l h a b c = simple_in n Simple.MultiPolygon coordinates h
typed_in n Word.GeometryCollection Role.Part place coordinates geometries geometry features l h a b c = (l, a)
typed_in n Word.GeometryCollection Role.Root place coordinates geometries geometry features l h a b c = a
typed_in n Word.GeometryCollection Role.Geometry place coordinates geometries geometry features l h a b c = a
typed_in n Word.GeometryCollection Role.Feature place coordinates geometries geometry features l h a b c = a
typed_in n Word.Feature role place coordinates geometries geometry features l h a b c = b
typed_in n Word.FeatureCollection role place coordinates geometries geometry features l h a b c = c
typed_in n Word.Other role place coordinates geometries geometry features l h a b c = tt

by_type_in : (n : ℕ) (value : Option TypeValue) (role : Role) (place : ℕ) (coordinates : Option Tree) (geometries geometry features : List Warning) → place ≤ n
    → ValueIn n coordinates
    → WarningsIn n geometries → WarningsIn n geometry → WarningsIn n features
    → WarningsIn n (TextWarnings.by_type_warnings value role place coordinates geometries geometry features)
by_type_in n None role place coordinates geometries geometry features l h a b c = tt
by_type_in n (Some value) role place coordinates geometries geometry features l h a b c =
    all_if (InWarning n) (is_allowed role value.word) _ (typed_in n value.word role place coordinates geometries geometry features l h a b c)

selected_in : (n : ℕ) (name : Known) (v : Tree) (geometry geometries features : List Warning) → Within n v → WarningsIn n geometry → WarningsIn n geometries
    → WarningsIn n features
    → WarningsIn n (TextWarnings.selected_warnings name v geometry geometries features)
selected_in n TypeName v geometry geometries features h a b c = tt
selected_in n Coordinates v geometry geometries features h a b c = tt
selected_in n Geometries v geometry geometries features h a b c = b
selected_in n Geometry v geometry geometries features h a b c = a
selected_in n Properties v geometry geometries features h a b c = tt
selected_in n Features v geometry geometries features h a b c = c
selected_in n Bbox v geometry geometries features h a b c = bbox_in n v h
selected_in n other v geometry geometries features h a b c = tt

list_if : (n : ℕ) (b : Bool) (a c : List Warning) → WarningsIn n a → WarningsIn n c → WarningsIn n (if b then a else c)
list_if n true a c h k = h
list_if n false a c h k = k

mutual
  warnings_in : (n : ℕ) (role : Role) (t : Tree) → Within n t → WarningsIn n (TextWarnings.warnings role t)
  warnings_in n role (object place ms close) h =
      all_append (InWarning n) _ _ (crs_in n ms h.1)
      (all_append (InWarning n) _ _ (first_warnings_in n Bbox ms h.1)
      (by_type_in n (first_type ms) role place (TextWarnings.first_value Coordinates ms) _ _ _ h.0 (first_value_in n Coordinates ms h.1)
      (first_warnings_in n Geometries ms h.1) (first_warnings_in n Geometry ms h.1) (first_warnings_in n Features ms h.1)))
  warnings_in n role other h = tt

  list_warnings_in : (n : ℕ) (role : Role) (t : Tree) → Within n t → WarningsIn n (TextWarnings.list_warnings role t)
  list_warnings_in n role (array place es close) h = all_warnings_in n role es h.1
  list_warnings_in n role other h = tt

  all_warnings_in : (n : ℕ) (role : Role) (es : Elements) → WithinElements n es → WarningsIn n (TextWarnings.all_warnings role es)
  all_warnings_in n role end_of_array h = tt
  all_warnings_in n role (element v more) h = all_append (InWarning n) _ _ (warnings_in n role v h.0) (all_warnings_in n role more h.1)

  first_warnings_in : (n : ℕ) (name : Known) (ms : Members) → WithinMembers n ms → WarningsIn n (TextWarnings.first_warnings name ms)
  first_warnings_in n name end_of_object h = tt
  first_warnings_in n name (member place found end v more) h =
      list_if n (same name (known_of found)) _ (TextWarnings.first_warnings name more)
      (selected_in n name v _ _ _ h.1 (warnings_in n Role.Geometry v h.1) (list_warnings_in n Role.Part v h.1) (list_warnings_in n Role.Feature v h.1))
      (first_warnings_in n name more h.2)

text_in : (text : Text) (bytes : List ℕ) → IsText text bytes → WarningsIn (length bytes) (TextWarnings.text_warnings text)
text_in text bytes t =
    all_append (InWarning (length bytes)) _ _ (warned_in (length bytes) text.marked 0 W1 (omega arith))
    (warnings_in (length bytes) Role.Root text.value (text_within text bytes t))

-- ---- the least of a kind

abbrev PlacesIn : ℕ → List ℕ → Type 0
PlacesIn n places = AllByRecursion (λ place. place ≤ n) places

one_kind : (n : ℕ) (kind : Kind) (warning : Warning) (more : List Warning) (t : Bool) → same_kind warning.kind kind ≡ t → warning.place ≤ n
    → PlacesIn n (places_of kind more)
    → PlacesIn n (places_of kind (warning ∷ more))
one_kind n kind warning more true e h k = rw e (h, k)
one_kind n kind warning more false e h k = rw e k

places_in : (n : ℕ) (kind : Kind) (warnings : List Warning) → WarningsIn n warnings → PlacesIn n (places_of kind warnings)
places_in n kind [] h = tt
places_in n kind (warning ∷ more) h = one_kind n kind warning more _ refl h.0 (places_in n kind more h.1)

lesser_in : (n x : ℕ) (o : Option ℕ) → x ≤ n → unwrap_or o 0 ≤ n → unwrap_or (lesser_place (Some x) o) 0 ≤ n
lesser_in n x None h k = h
lesser_in n x (Some y) h k = omega (arith, h)

least_in : (n : ℕ) (places : List ℕ) → PlacesIn n places → unwrap_or (least_place places) 0 ≤ n
least_in n [] h = omega arith
least_in n (x ∷ xs) h = lesser_in n x (least_place xs) h.0 (least_in n xs h.1)

pub warnings_within : (text : Text) (bytes : List ℕ) (warnings : List Warning) (kind : Kind) (place : ℕ) → IsText text bytes
    → warnings ≡ TextWarnings.text_warnings text
    → first_of kind warnings ≡ Some place → place ≤ length bytes
warnings_within text bytes warnings kind place t e f =
    let first : first_of kind (TextWarnings.text_warnings text) ≡ Some place = ap (first_of kind) (sym e) ∙ f in
    let there : unwrap_or (first_of kind (TextWarnings.text_warnings text)) 0 ≡ place = ap (λ o. unwrap_or o 0) first in
    let least = least_in (length bytes) (places_of kind (TextWarnings.text_warnings text))
    (places_in (length bytes) kind (TextWarnings.text_warnings text) (text_in text bytes t)) in
    omega (arith, there, least)
