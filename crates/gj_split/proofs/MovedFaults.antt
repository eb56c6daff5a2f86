-- A value has as many faults wherever it stands, and a feature without a fault has none as a text.
use Rattle.gj_split.proofs.Common.{Bool, Constant, False, Fault, List, Members, None, Null, Option, Some, Tree, True, ap, array, constant, element}
use Rattle.gj_split.proofs.Common.{end_of_array, end_of_object, false, if◌then◌else◌, length, member, number, object, place_of, refl, string, true, ℕ}
use Rattle.gj_split.proofs.Common.{[], ◌++◌, ◌∙◌, ◌∷◌, ◌≡◌}
use Rattle.std.proofs.Common.{◌&&◌}
use Rattle.std.specs.List.{flat_map}
use Rattle.gj_json.specs.declared.names.Known.{Known}
use Rattle.gj_json.specs.declared.names.Known.TheVariants.{TypeName, Coordinates, Geometries, Geometry, Properties, Features, Bbox, Id, Crs, Other}
use Rattle.gj_json.specs.declared.names.Word.{Word}
use Rattle.gj_json.specs.Names.{known_of}
use Rattle.gj_json.specs.Tree as Tree
use Rattle.gj_coords.specs.declared.fault.Rule.{Rule}
use Rattle.gj_coords.specs.declared.fault.Rule.TheVariants.{G3, G5, G6, G7, G8, G10}
use Rattle.gj_coords.specs.declared.simple.Simple.{Simple}
use Rattle.gj_coords.specs.Shape.{coordinates_faults}
use Rattle.gj_rules.specs.declared.member_slots.TypeValue.{TypeValue}
use Rattle.gj_rules.specs.declared.role.Role.{Role}
use Rattle.gj_rules.specs.Members.{one, same, type_of, first_type, is_known, mentions, forbidden_by, repeated}
use Rattle.gj_rules.specs.Faults.{properties_faults, id_faults, constant_faults, First, forbidden, due, optional, due_coordinates, as_type}
use Rattle.gj_rules.specs.Faults.{by_type, selected, faults, listed, all_faults, first}
use Rattle.gj_rules.specs.Role.{is_allowed}
use Rattle.gj_split.proofs.MovedTrees.{moved, moved_elements, moved_members}
use Rattle.gj_split.proofs.MovedShapes.{SameCount, both_count, coordinates_count, bbox_count}
use Rattle.gj_rules.proofs.Features.ByFeature.{no_parts}

-- ---- values without a part that has a role

properties_count : (f : ℕ → ℕ) (v : Tree) → SameCount (properties_faults (moved f v)) (properties_faults v)
properties_count f (object place members close) = refl
properties_count f (constant Null place) = refl
properties_count f (constant True place) = refl
properties_count f (constant False place) = refl
properties_count f (number place literal end) = refl
properties_count f (string place content end) = refl
properties_count f (array place elements close) = refl

id_count : (f : ℕ → ℕ) (v : Tree) → SameCount (id_faults (moved f v)) (id_faults v)
id_count f (constant which place) = refl
id_count f other = refl

constant_count : (which : Constant) (role : Role) (p q : ℕ) → SameCount (constant_faults which role p) (constant_faults which role q)
constant_count Null Role.Root p q = refl
constant_count other another p q = refl

-- ---- the first members of an object

abbrev Alike : (ℕ → ℕ) → Option First → Option First → Type 0
Alike f None None = Unit {0}
Alike f (Some a) (Some b) = (a.value ≡ moved f b.value) × SameCount a.faults b.faults
Alike f _ _ = ⊥

either_alike : (f : ℕ → ℕ) (t : Bool) (x y : First) (xs ys : Option First) → Alike f (Some x) (Some y) → Alike f xs ys
    → Alike f (if t then Some x else xs) (if t then Some y else ys)
either_alike f true x y xs ys h k = h
either_alike f false x y xs ys h k = k

forbidden_count : (f : ℕ → ℕ) (a b : Option First) → Alike f a b → SameCount (forbidden a) (forbidden b)
forbidden_count f None None h = refl
forbidden_count f (Some a) (Some b) h = refl
forbidden_count f other another h = absurd h

due_count : (f : ℕ → ℕ) (p q : ℕ) (rule : Rule) (a b : Option First) → Alike f a b → SameCount (due p rule a) (due q rule b)
due_count f p q rule None None h = refl
due_count f p q rule (Some a) (Some b) h = h.1
due_count f p q rule other another h = absurd h

optional_count : (f : ℕ → ℕ) (a b : Option First) → Alike f a b → SameCount (optional a) (optional b)
optional_count f None None h = refl
optional_count f (Some a) (Some b) h = h.1
optional_count f other another h = absurd h

coordinates_due_count : (f : ℕ → ℕ) (simple : Simple) (p q : ℕ) (a b : Option First) → Alike f a b
    → SameCount (due_coordinates (Some simple) p a) (due_coordinates (Some simple) q b)
coordinates_due_count f simple p q None None h = refl
coordinates_due_count f simple p q (Some a) (Some b) h = ap (λ v. length (coordinates_faults simple v)) h.0 ∙ coordinates_count f simple b.value
coordinates_due_count f simple p q other another h = absurd h

each_forbidden : (f : ℕ → ℕ) (m o : Known → Option First) → ((name : Known) → Alike f (m name) (o name)) → (names : List Known) →
    SameCount (flat_map (λ name. forbidden (m name)) names) (flat_map (λ name. forbidden (o name)) names)
each_forbidden f m o h [] = refl
each_forbidden f m o h (name ∷ names) =
    both_count (forbidden (m name)) _ (forbidden (o name)) _ (forbidden_count f (m name) (o name) (h name)) (each_forbidden f m o h names)

type_count : (f : ℕ → ℕ) (word : Word) (p q : ℕ) (m o : Known → Option First) → ((name : Known) → Alike f (m name) (o name))
    → SameCount (as_type word p m) (as_type word q o)
type_count f Word.Point p q m o h = coordinates_due_count f Simple.Point p q (m Coordinates) (o Coordinates) (h Coordinates)
type_count f Word.MultiPoint p q m o h = coordinates_due_count f Simple.MultiPoint p q (m Coordinates) (o Coordinates) (h Coordinates)
type_count f Word.LineString p q m o h = coordinates_due_count f Simple.LineString p q (m Coordinates) (o Coordinates) (h Coordinates)
type_count f Word.MultiLineString p q m o h = coordinates_due_count f Simple.MultiLineString p q (m Coordinates) (o Coordinates) (h Coordinates)
type_count f Word.Polygon p q m o h = coordinates_due_count f Simple.Polygon p q (m Coordinates) (o Coordinates) (h Coordinates)
type_count f Word.MultiPolygon p q m o h = coordinates_due_count f Simple.MultiPolygon p q (m Coordinates) (o Coordinates) (h Coordinates)
type_count f Word.GeometryCollection p q m o h = due_count f p q G5 (m Geometries) (o Geometries) (h Geometries)
type_count f Word.Feature p q m o h =
    both_count (due p G6 (m Geometry)) _ (due q G6 (o Geometry)) _ (due_count f p q G6 (m Geometry) (o Geometry) (h Geometry))
    (both_count (due p G7 (m Properties)) _ (due q G7 (o Properties)) _ (due_count f p q G7 (m Properties) (o Properties) (h Properties))
    (optional_count f (m Id) (o Id) (h Id)))
type_count f Word.FeatureCollection p q m o h = due_count f p q G8 (m Features) (o Features) (h Features)
type_count f Word.Other p q m o h = refl

-- ---- the type of an object, and its repeated names

abbrev moved_type : (ℕ → ℕ) → Option TypeValue → Option TypeValue
moved_type f None = None
moved_type f (Some value) = Some (record { place = f value.place; word = value.word })

moved_place : (f : ℕ → ℕ) (v : Tree) → place_of (moved f v) ≡ f (place_of v)
moved_place f (constant which place) = refl
moved_place f other = refl

same_type : (f : ℕ → ℕ) (v : Tree) → type_of (moved f v) ≡ type_of v
same_type f (constant which place) = refl
same_type f other = refl

first_moved_type : (f : ℕ → ℕ) (ms : Members) → first_type (moved_members f ms) ≡ moved_type f (first_type ms)
first_moved_type f end_of_object = refl
first_moved_type f (member place name end v more) =
    by_test (same TypeName (known_of name)) (first_type (moved_members f more)) (first_type more) (first_moved_type f more)
  where
    by_test : (t : Bool) (xs ys : Option TypeValue) → xs ≡ moved_type f ys →
        (if t then Some (record { place = place_of (moved f v); word = type_of (moved f v) }) else xs) ≡ moved_type f
        (if t then Some (record { place = place_of v; word = type_of v }) else ys)
    by_test true xs ys e = rw (moved_place f v, same_type f v) refl
    by_test false xs ys e = e

-- a known name that was mentioned before
abbrev again : Bool → Bool → ℕ → List Fault
again known before place = if known && before then one place G10 else []

again_count : (a b : Bool) (p q : ℕ) → SameCount (again a b p) (again a b q)
again_count true true p q = refl
again_count other another p q = refl

repeated_count : (f : ℕ → ℕ) (before : List Known) (ms : Members) → SameCount (repeated before (moved_members f ms)) (repeated before ms)
repeated_count f before end_of_object = refl
repeated_count f before (member place name end v more) =
    both_count (again (is_known (known_of name)) (mentions before (known_of name)) (f place)) _
    (again (is_known (known_of name)) (mentions before (known_of name)) place) _
    (again_count (is_known (known_of name)) (mentions before (known_of name)) (f place) place) (repeated_count f (known_of name ∷ before) more)

by_type_count : (f : ℕ → ℕ) (t : Option TypeValue) (role : Role) (p q : ℕ) (m o : Known → Option First) → ((name : Known) → Alike f (m name) (o name)) →
    SameCount (by_type (moved_type f t) role p m) (by_type t role q o)
by_type_count f None role p q m o h = refl
by_type_count f (Some value) role p q m o h =
    if_count (is_allowed role value.word) _ _ _ _
    (both_count (flat_map (λ name. forbidden (m name)) (forbidden_by value.word)) _ (flat_map (λ name. forbidden (o name)) (forbidden_by value.word)) _
    (each_forbidden f m o h (forbidden_by value.word)) (type_count f value.word p q m o h))
  where
    if_count : (t : Bool) (xs ys : List Fault) (place other : ℕ) → SameCount xs ys → SameCount (if t then xs else one place G3) (if t then ys else one other G3)
    if_count true xs ys place other e = e
    if_count false xs ys place other e = refl

object_count : (f : ℕ → ℕ) (role : Role) (p q : ℕ) (ms : Members) (m o : Known → Option First) → ((name : Known) → Alike f (m name) (o name)) →
    SameCount (repeated [] (moved_members f ms) ++ (optional (m Bbox) ++ by_type (first_type (moved_members f ms)) role p m))
    (repeated [] ms ++ (optional (o Bbox) ++ by_type (first_type ms) role q o))
object_count f role p q ms m o h =
    both_count (repeated [] (moved_members f ms)) _ (repeated [] ms) _ (repeated_count f [] ms)
    (both_count (optional (m Bbox)) _ (optional (o Bbox)) _ (optional_count f (m Bbox) (o Bbox) (h Bbox))
    (ap (λ t. length (by_type t role p m)) (first_moved_type f ms) ∙ by_type_count f (first_type ms) role p q m o h))

-- ---- the recursion

selected_count : (f : ℕ → ℕ) (name : Known) (v : Tree) (us bs cs xs ys zs : List Fault) → SameCount us xs → SameCount bs ys → SameCount cs zs →
    SameCount (selected name (moved f v) us bs cs) (selected name v xs ys zs)
selected_count f Geometry v us bs cs xs ys zs e g h = e
selected_count f Geometries v us bs cs xs ys zs e g h = g
selected_count f Features v us bs cs xs ys zs e g h = h
selected_count f Properties v us bs cs xs ys zs e g h = properties_count f v
selected_count f Bbox v us bs cs xs ys zs e g h = bbox_count f v
selected_count f Id v us bs cs xs ys zs e g h = id_count f v
selected_count f other v us bs cs xs ys zs e g h = refl

mutual
  pub faults_count : (f : ℕ → ℕ) (role : Role) (v : Tree) → SameCount (faults role (moved f v)) (faults role v)
  faults_count f role (object place members close) =
      object_count f role (f place) place members (λ name. first name (moved_members f members)) (λ name. first name members)
      (λ name. first_alike f name members)
  faults_count f role (constant which place) = constant_count which role (f place) place
  faults_count f role other = refl

  listed_count : (f : ℕ → ℕ) (role : Role) (v : Tree) → SameCount (listed role (moved f v)) (listed role v)
  listed_count f role (array place elements close) = all_count f role elements
  listed_count f role other = refl

  all_count : (f : ℕ → ℕ) (role : Role) (es : Tree.Elements) → SameCount (all_faults role (moved_elements f es)) (all_faults role es)
  all_count f role end_of_array = refl
  all_count f role (element v more) = both_count (faults role (moved f v)) _ (faults role v) _ (faults_count f role v) (all_count f role more)

  first_alike : (f : ℕ → ℕ) (name : Known) (ms : Members) → Alike f (first name (moved_members f ms)) (first name ms)
  first_alike f name end_of_object = tt
  first_alike f name (member place found end v more) =
      either_alike f (same name (known_of found)) _ _ (first name (moved_members f more)) (first name more)
      (refl, selected_count f name v _ _ _ _ _ _ (faults_count f Role.Geometry v) (listed_count f Role.Part v) (listed_count f Role.Feature v))
      (first_alike f name more)

-- ---- a feature as a text

none_counted : (xs ys : List Fault) → SameCount xs ys → ys ≡ [] → xs ≡ []
none_counted [] ys e h = refl
none_counted (x ∷ xs) ys e h = let l : length ys ≡ 0 = ap length h in cc

allowed_text : (word : Word) (xs : List Fault) (place : ℕ) → (if is_allowed Role.Feature word then xs else one place G3) ≡ []
    → (if is_allowed Role.Root word then xs else one place G3) ≡ []
allowed_text Word.Feature xs place e = e
allowed_text Word.Point xs place e = cc
allowed_text Word.MultiPoint xs place e = cc
allowed_text Word.LineString xs place e = cc
allowed_text Word.MultiLineString xs place e = cc
allowed_text Word.Polygon xs place e = cc
allowed_text Word.MultiPolygon xs place e = cc
allowed_text Word.GeometryCollection xs place e = cc
allowed_text Word.FeatureCollection xs place e = cc
allowed_text Word.Other xs place e = e

typed_text : (t : Option TypeValue) (place : ℕ) (m : Known → Option First) → by_type t Role.Feature place m ≡ [] → by_type t Role.Root place m ≡ []
typed_text None place m e = e
typed_text (Some value) place m e = allowed_text value.word _ value.place e

object_text : (place : ℕ) (repeats : List Fault) (t : Option TypeValue) (m : Known → Option First)
    → repeats ++ (optional (m Bbox) ++ by_type t Role.Feature place m) ≡ []
    → repeats ++ (optional (m Bbox) ++ by_type t Role.Root place m) ≡ []
object_text place repeats t m e =
    let p = no_parts repeats (optional (m Bbox) ++ by_type t Role.Feature place m) e in
    let q = no_parts (optional (m Bbox)) (by_type t Role.Feature place m) p.1 in
    rw (p.0, q.0) (typed_text t place m q.1)

-- a feature without a fault has none as a text
sound_text : (v : Tree) → faults Role.Feature v ≡ [] → faults Role.Root v ≡ []
sound_text (object place members close) e = object_text place (repeated [] members) (first_type members) (λ name. first name members) e
sound_text (constant Null place) e = cc
sound_text (constant True place) e = cc
sound_text (constant False place) e = cc
sound_text (number place literal end) e = cc
sound_text (string place content end) e = cc
sound_text (array place elements close) e = cc

-- nor wherever it stands
pub sound_moved : (f : ℕ → ℕ) (v : Tree) → faults Role.Feature v ≡ [] → faults Role.Root (moved f v) ≡ []
sound_moved f v e = none_counted (faults Role.Root (moved f v)) (faults Role.Root v) (faults_count f Role.Root v) (sound_text v e)
