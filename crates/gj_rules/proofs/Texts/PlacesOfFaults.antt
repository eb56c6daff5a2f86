-- The places that the faults and the warnings of a text name are places of it.
use Rattle.gj_rules.proofs.Common.{AllByRecursion, Bool, Coordinates, Crs, False, Fault, Features, First, Geometries, Geometry, Id, IsText, List}
use Rattle.gj_rules.proofs.Common.{Members, Null, Other, Properties, Role, Rule, Simple, Spells, SpellsElements, SpellsMembers, SpellsMoreElements}
use Rattle.gj_rules.proofs.Common.{SpellsMoreMembers, Text, Tree, True, TypeName, TypeValue, Word, arith, array, comes_first, constant}
use Rattle.gj_rules.proofs.Common.{coordinates_faults, drop, element, elements_of, end_of_array, end_of_object, false, fault_at, flat_map}
use Rattle.gj_rules.proofs.Common.{forbidden_by, if◌then◌else◌, is_known, is_some, items, least, length, lesser, member, mentions, number, object}
use Rattle.gj_rules.proofs.Common.{one, place_of, repeated, same, string, subst, suc, take, true, zero, [], ◌&&◌, ◌++◌, ◌+◌, ◌∷◌, ◌≤◌}
use Rattle.std.proofs.Common.{◌≡◌, ℕ, Option}
use Rattle.std.proofs.Common.{Some, None}
use Rattle.gj_json.specs.declared.constant.Constant.{Constant}
use Rattle.gj_json.specs.declared.names.Known.{Known}
use Rattle.gj_json.specs.declared.names.Known.TheVariants.{Bbox}
use Rattle.gj_json.specs.Names.{known_of}
use Rattle.gj_json.specs.Tree.{Elements}
use Rattle.gj_number.specs.Exact.{Exact}
use Rattle.gj_number.specs.Value.{value_of}
use Rattle.gj_coords.specs.Box.{is_wrong_length, bbox_faults}
use Rattle.gj_coords.specs.Shape.{Shape, few, held_number, number_or, position, several, list, line, unclosed, ring, shape_of}
use Rattle.gj_rules.specs.Faults
use Rattle.gj_rules.specs.Members.{first_type}
use Rattle.gj_rules.proofs.Texts.EventOrder.{then_length}

-- ---- the places of a tree

abbrev mutual
  pub Within : ℕ → Tree → Type 0
  Within n (constant which place) = place ≤ n
  Within n (number place literal end) = place ≤ n
  Within n (string place content end) = place ≤ n
  Within n (array place elements close) = (place ≤ n) × WithinElements n elements
  Within n (object place members close) = (place ≤ n) × WithinMembers n members

  pub WithinElements : ℕ → Elements → Type 0
  WithinElements n end_of_array = Unit {0}
  WithinElements n (element value more) = Within n value × WithinElements n more

  pub WithinMembers : ℕ → Members → Type 0
  WithinMembers n end_of_object = Unit {0}
  WithinMembers n (member place name end value more) = (place ≤ n) × Within n value × WithinMembers n more

mutual
  within : (t : Tree) (all n : ℕ) (bytes : List ℕ) → n + length bytes ≤ all → Spells t n bytes → Within all t
  within (constant which place) all n bytes l h = omega (arith, h.0)
  within (number place literal end) all n bytes l h = omega (arith, h.0)
  within (string place content end) all n bytes l h = omega (arith, h.0)
  within (array place es close) all n bytes l h =
      (omega (arith, h.0), within_elements es close all _ _ (omega (arith, then_length h.1, then_length h.1.after)) h.1.after.after)
  within (object place ms close) all n bytes l h =
      (omega (arith, h.0), within_members ms close all _ _ (omega (arith, then_length h.1, then_length h.1.after)) h.1.after.after)

  within_elements : (es : Elements) (close all n : ℕ) (bytes : List ℕ) → n + length bytes ≤ all → SpellsElements es close n bytes → WithinElements all es
  within_elements end_of_array close all n bytes l h = tt
  within_elements (element v more) close all n bytes l h = (
    within v all _ _ (omega (arith, then_length h)) h.before,
    within_more_elements more close all _ _ (omega (arith, then_length h, then_length h.after)) h.after.after,
  )

  within_more_elements : (es : Elements) (close all n : ℕ) (bytes : List ℕ) → n + length bytes ≤ all → SpellsMoreElements es close n bytes
      → WithinElements all es
  within_more_elements end_of_array close all n bytes l h = tt
  within_more_elements (element v more) close all n bytes l h =
      let k = h.after.after in (
        within v all _ _ (omega (arith, then_length h, then_length h.after, then_length k)) k.before,
        within_more_elements more close all _ _ (omega (arith, then_length h, then_length h.after, then_length k, then_length k.after)) k.after.after,
      )

  within_members : (ms : Members) (close all n : ℕ) (bytes : List ℕ) → n + length bytes ≤ all → SpellsMembers ms close n bytes → WithinMembers all ms
  within_members end_of_object close all n bytes l h = tt
  within_members (member place name end v more) close all n bytes l h =
      let k = h.after.after in
      let i = k.after.after in (
        omega (arith, h.before.0),
        within v all _ _ (omega (arith, then_length h, then_length h.after, then_length k, then_length k.after, then_length i)) i.before,
        within_more_members more close all _ _
            (omega (arith, then_length h, then_length h.after, then_length k, then_length k.after, then_length i, then_length i.after)) i.after.after,
      )

  within_more_members : (ms : Members) (close all n : ℕ) (bytes : List ℕ) → n + length bytes ≤ all → SpellsMoreMembers ms close n bytes → WithinMembers all ms
  within_more_members end_of_object close all n bytes l h = tt
  within_more_members (member place name end v more) close all n bytes l h =
      let j = h.after.after in
      let k = j.after.after in
      let i = k.after.after in (
        omega (arith, j.before.0, then_length h, then_length h.after),
        within v all _ _ (omega
            (arith, then_length h, then_length h.after, then_length j, then_length j.after, then_length k, then_length k.after, then_length i)) i.before,
        within_more_members more close all _ _
            (omega (
              arith,
              then_length h,
              then_length h.after,
              then_length j,
              then_length j.after,
              then_length k,
              then_length k.after,
              then_length i,
              then_length i.after,
            )) i.after.after,
      )

pub text_within : (text : Text) (bytes : List ℕ) → IsText text bytes → Within (length bytes) text.value
text_within text bytes h =
    let k = h.after.after in
    within text.value (length bytes) _ _ (omega (arith, then_length h, then_length h.after, then_length k)) k.before

-- ---- lists

pub all_append : {A : Type 0} (P : A → Type 0) (xs ys : List A) → AllByRecursion P xs → AllByRecursion P ys → AllByRecursion P (xs ++ ys)
all_append P [] ys h k = k
all_append P (x ∷ xs) ys h k = (h.0, all_append P xs ys h.1 k)

pub all_flat : {A B : Type 0} (P : A → Type 0) (Q : B → Type 0) (f : A → List B) → ((x : A) → P x → AllByRecursion Q (f x)) → (xs : List A)
    → AllByRecursion P xs → AllByRecursion Q (flat_map f xs)
all_flat P Q f one [] h = tt
all_flat P Q f one (x ∷ xs) h = all_append Q (f x) (flat_map f xs) (one x h.0) (all_flat P Q f one xs h.1)

pub all_if : {A : Type 0} (P : A → Type 0) (b : Bool) (xs : List A) → AllByRecursion P xs → AllByRecursion P (if b then xs else [])
all_if P true xs h = h
all_if P false xs h = tt

pub all_take : {A : Type 0} (P : A → Type 0) (k : ℕ) (xs : List A) → AllByRecursion P xs → AllByRecursion P (take k xs)
all_take P zero xs h = tt
all_take P (suc k) [] h = tt
all_take P (suc k) (x ∷ xs) h = (h.0, all_take P k xs h.1)

pub all_drop : {A : Type 0} (P : A → Type 0) (k : ℕ) (xs : List A) → AllByRecursion P xs → AllByRecursion P (drop k xs)
all_drop P zero xs h = h
all_drop P (suc k) [] h = tt
all_drop P (suc k) (x ∷ xs) h = all_drop P k xs h.1

pub items_within : (n : ℕ) (es : Elements) → WithinElements n es → AllByRecursion (Within n) (items es)
items_within n end_of_array h = tt
items_within n (element v more) h = (h.0, items_within n more h.1)

pub elements_within : (n : ℕ) (t : Tree) → Within n t → AllByRecursion (Within n) (elements_of t)
elements_within n (constant which place) h = tt
elements_within n (number place literal end) h = tt
elements_within n (string place content end) h = tt
elements_within n (array place es close) h = items_within n es h.1
elements_within n (object place ms close) h = tt

pub place_within : (n : ℕ) (t : Tree) → Within n t → place_of t ≤ n
place_within n (constant which place) h = h
place_within n (number place literal end) h = h
place_within n (string place content end) h = h
place_within n other h = h.0

-- ---- faults

abbrev pub FaultsIn : ℕ → List Fault → Type 0
FaultsIn n faults = AllByRecursion (λ fault. fault.place ≤ n) faults

abbrev InFault : ℕ → Fault → Type 0
InFault n fault = fault.place ≤ n

abbrev FitsShape : ℕ → Shape → Type 0
FitsShape n shape = (t : Tree) → Within n t → FaultsIn n (shape t)

one_if : (n : ℕ) (b : Bool) (place : ℕ) (rule : Rule) → place ≤ n → FaultsIn n (if b then fault_at place rule ∷ [] else [])
one_if n true place rule h = (h, tt)
one_if n false place rule h = tt

few_in : (n needed : ℕ) (rule : Rule) (place : ℕ) (values : List Tree) → place ≤ n → FaultsIn n (few needed rule place values)
few_in n needed rule place values h = one_if n _ place rule h

unheld_in : (n place : ℕ) (value : Option Exact) → place ≤ n → FaultsIn n (if is_some value then [] else fault_at place Rule.G16 ∷ [])
unheld_in n place None h = (h, tt)
unheld_in n place (Some value) h = tt

held_in : (n : ℕ) → FitsShape n held_number
held_in n (number place literal end) h = unheld_in n place (value_of literal) h
held_in n (constant which place) h = (h, tt)
held_in n (string place content end) h = (h, tt)
held_in n other h = (h.0, tt)

number_in : (n : ℕ) (rule : Rule) → FitsShape n (number_or rule)
number_in n rule (number place literal end) h = tt
number_in n rule (constant which place) h = (h, tt)
number_in n rule (string place content end) h = (h, tt)
number_in n rule other h = (h.0, tt)

position_in : (n : ℕ) → FitsShape n position
position_in n (array place es close) h =
    let i = items_within n es h.1 in
    all_append (InFault n) _ _ (few_in n 2 Rule.G12 place (items es) h.0)
    (all_append (InFault n) (flat_map held_number (take 3 (items es))) (flat_map (number_or Rule.G11) (drop 3 (items es)))
    (all_flat (Within n) (InFault n) held_number (held_in n) (take 3 (items es)) (all_take (Within n) 3 (items es) i))
    (all_flat (Within n) (InFault n) (number_or Rule.G11) (number_in n Rule.G11) (drop 3 (items es)) (all_drop (Within n) 3 (items es) i)))
position_in n (constant which place) h = (h, tt)
position_in n (number place literal end) h = (h, tt)
position_in n (string place content end) h = (h, tt)
position_in n (object place ms close) h = (h.0, tt)

several_in : (n needed : ℕ) (shape : Shape) → FitsShape n shape → FitsShape n (several needed shape)
several_in n needed shape one (array place es close) h =
    all_append (InFault n) _ (flat_map shape (items es)) (few_in n needed Rule.G13 place (items es) h.0)
    (all_flat (Within n) (InFault n) shape one (items es) (items_within n es h.1))
several_in n needed shape one (constant which place) h = (h, tt)
several_in n needed shape one (number place literal end) h = (h, tt)
several_in n needed shape one (string place content end) h = (h, tt)
several_in n needed shape one (object place ms close) h = (h.0, tt)

unclosed_in : (n place : ℕ) (values : List Tree) → place ≤ n → FaultsIn n (unclosed place values)
unclosed_in n place [] h = tt
unclosed_in n place (first ∷ more) h = one_if n _ place Rule.G15 h

ring_in : (n : ℕ) → FitsShape n ring
ring_in n (array place es close) h =
    all_append (InFault n) _ (flat_map position (items es) ++ unclosed place (items es)) (few_in n 4 Rule.G14 place (items es) h.0)
    (all_append (InFault n) (flat_map position (items es)) (unclosed place (items es))
    (all_flat (Within n) (InFault n) position (position_in n) (items es) (items_within n es h.1))
    (unclosed_in n place (items es) h.0))
ring_in n (constant which place) h = (h, tt)
ring_in n (number place literal end) h = (h, tt)
ring_in n (string place content end) h = (h, tt)
ring_in n (object place ms close) h = (h.0, tt)

shape_in : (n : ℕ) (simple : Simple) → FitsShape n (shape_of simple)
shape_in n Simple.Point = position_in n
shape_in n Simple.MultiPoint = several_in n 0 position (position_in n)
shape_in n Simple.LineString = several_in n 2 position (position_in n)
shape_in n Simple.MultiLineString = several_in n 0 line (several_in n 2 position (position_in n))
shape_in n Simple.Polygon = several_in n 0 ring (ring_in n)
shape_in n Simple.MultiPolygon = several_in n 0 (list ring) (several_in n 0 ring (ring_in n))

coordinates_in : (n : ℕ) (simple : Simple) → FitsShape n (coordinates_faults simple)
coordinates_in n simple (array place end_of_array close) h = tt
coordinates_in n simple (array place (element v more) close) h = shape_in n simple (array place (element v more) close) h
coordinates_in n simple (constant which place) h = shape_in n simple (constant which place) h
coordinates_in n simple (number place literal end) h = shape_in n simple (number place literal end) h
coordinates_in n simple (string place content end) h = shape_in n simple (string place content end) h
coordinates_in n simple (object place ms close) h = shape_in n simple (object place ms close) h

bbox_in : (n : ℕ) → FitsShape n bbox_faults
bbox_in n (array place es close) h =
    all_append (InFault n) _ (flat_map (number_or Rule.G20) (items es)) (one_if n (is_wrong_length (length (items es))) place Rule.G21 h.0)
    (all_flat (Within n) (InFault n) (number_or Rule.G20) (number_in n Rule.G20) (items es) (items_within n es h.1))
bbox_in n (constant which place) h = (h, tt)
bbox_in n (number place literal end) h = (h, tt)
bbox_in n (string place content end) h = (h, tt)
bbox_in n (object place ms close) h = (h.0, tt)

properties_in : (n : ℕ) → FitsShape n Faults.properties_faults
properties_in n (object place ms close) h = tt
properties_in n (constant Null place) h = tt
properties_in n (constant True place) h = (h, tt)
properties_in n (constant False place) h = (h, tt)
properties_in n (number place literal end) h = (h, tt)
properties_in n (string place content end) h = (h, tt)
properties_in n (array place es close) h = (h.0, tt)

id_in : (n : ℕ) → FitsShape n Faults.id_faults
id_in n (string place content end) h = tt
id_in n (number place literal end) h = tt
id_in n (constant which place) h = (h, tt)
id_in n other h = (h.0, tt)

constant_in : (n : ℕ) (which : Constant) (role : Role) (place : ℕ) → place ≤ n → FaultsIn n (Faults.constant_faults which role place)
constant_in n Null Role.Root place h = (h, tt)
constant_in n Null Role.Geometry place h = tt
constant_in n other another place h = (h, tt)

-- ---- members

abbrev FirstIn : ℕ → Option First → Type 0
FirstIn n None = Unit {0}
FirstIn n (Some first) = (first.name_at ≤ n) × Within n first.value × FaultsIn n first.faults

abbrev TypeIn : ℕ → Option TypeValue → Type 0
TypeIn n None = Unit {0}
TypeIn n (Some value) = value.place ≤ n

record MembersIn (n : ℕ) (repeats : List Fault) (type_value : Option TypeValue) (m : Known → Option First) : Type 0 where
  repeated_in : FaultsIn n repeats
  type_in : TypeIn n type_value
  at : (name : Known) → FirstIn n (m name)

forbidden_in : (n : ℕ) (first : Option First) → FirstIn n first → FaultsIn n (Faults.forbidden first)
forbidden_in n None h = tt
forbidden_in n (Some first) h = (h.0, tt)

due_in : (n place : ℕ) (rule : Rule) (first : Option First) → place ≤ n → FirstIn n first → FaultsIn n (Faults.due place rule first)
due_in n place rule None l h = (l, tt)
due_in n place rule (Some first) l h = h.2

optional_in : (n : ℕ) (first : Option First) → FirstIn n first → FaultsIn n (Faults.optional first)
optional_in n None h = tt
optional_in n (Some first) h = h.2

due_coordinates_in : (n : ℕ) (simple : Simple) (place : ℕ) (first : Option First) → place ≤ n → FirstIn n first
    → FaultsIn n (Faults.due_coordinates (Some simple) place first)
due_coordinates_in n simple place None l h = (l, tt)
due_coordinates_in n simple place (Some first) l h = coordinates_in n simple first.value h.1

module _ (n place : ℕ) (repeats : List Fault) (type_value : Option TypeValue) (m : Known → Option First) (l : place ≤ n)
    (h : MembersIn n repeats type_value m) where
  all_forbidden_in : (names : List Known) → FaultsIn n (flat_map (λ name. Faults.forbidden (m name)) names)
  all_forbidden_in [] = tt
  all_forbidden_in (name ∷ more) = all_append (InFault n) _ _ (forbidden_in n (m name) (h.at name)) (all_forbidden_in more)

  as_type_in : (word : Word) → FaultsIn n (Faults.as_type word place m)
  as_type_in Word.Point = due_coordinates_in n Simple.Point place (m Coordinates) l (h.at Coordinates)
  as_type_in Word.MultiPoint = due_coordinates_in n Simple.MultiPoint place (m Coordinates) l (h.at Coordinates)
  as_type_in Word.LineString = due_coordinates_in n Simple.LineString place (m Coordinates) l (h.at Coordinates)
  as_type_in Word.MultiLineString = due_coordinates_in n Simple.MultiLineString place (m Coordinates) l (h.at Coordinates)
  as_type_in Word.Polygon = due_coordinates_in n Simple.Polygon place (m Coordinates) l (h.at Coordinates)
  as_type_in Word.MultiPolygon = due_coordinates_in n Simple.MultiPolygon place (m Coordinates) l (h.at Coordinates)
  as_type_in Word.GeometryCollection = due_in n place Rule.G5 (m Geometries) l (h.at Geometries)
  as_type_in Word.Feature =
      all_append (InFault n) _ _ (due_in n place Rule.G6 (m Geometry) l (h.at Geometry))
      (all_append (InFault n) _ _ (due_in n place Rule.G7 (m Properties) l (h.at Properties)) (optional_in n (m Id) (h.at Id)))
  as_type_in Word.FeatureCollection = due_in n place Rule.G8 (m Features) l (h.at Features)
  as_type_in Word.Other = tt

  chosen_in : (b : Bool) (value : TypeValue) → value.place ≤ n
      → FaultsIn n (if b then flat_map (λ name. Faults.forbidden (m name)) (forbidden_by value.word) ++ Faults.as_type value.word place m else
      (record { place = value.place; rule = Rule.G3 }) ∷ [])
  chosen_in true value k = all_append (InFault n) _ _ (all_forbidden_in (forbidden_by value.word)) (as_type_in value.word)
  chosen_in false value k = (k, tt)

  by_type_in : (role : Role) (value : Option TypeValue) → TypeIn n value → FaultsIn n (Faults.by_type value role place m)
  by_type_in role None k = (l, tt)
  by_type_in role (Some value) k = chosen_in _ value k

  object_in : (role : Role) → FaultsIn n (repeats ++ (Faults.optional (m Bbox) ++ Faults.by_type type_value role place m))
  object_in role =
      all_append (InFault n) _ _ h.repeated_in (all_append (InFault n) _ _ (optional_in n (m Bbox) (h.at Bbox)) (by_type_in role type_value h.type_in))

again_in : (n : ℕ) (a b : Bool) (place : ℕ) → place ≤ n → FaultsIn n (if a && b then one place Rule.G10 else [])
again_in n true true place h = (h, tt)
again_in n other another place h = tt

repeated_in_members : (n : ℕ) (before : List Known) (ms : Members) → WithinMembers n ms → FaultsIn n (repeated before ms)
repeated_in_members n before end_of_object h = tt
repeated_in_members n before (member place name end v more) h =
    all_append (InFault n) _ _ (again_in n (is_known (known_of name)) (mentions before (known_of name)) place h.0)
    (repeated_in_members n (known_of name ∷ before) more h.2)

type_if : (n : ℕ) (b : Bool) (a c : Option TypeValue) → TypeIn n a → TypeIn n c → TypeIn n (if b then a else c)
type_if n true a c h k = h
type_if n false a c h k = k

first_if : (n : ℕ) (b : Bool) (a c : Option First) → FirstIn n a → FirstIn n c → FirstIn n (if b then a else c)
first_if n true a c h k = h
first_if n false a c h k = k

first_type_in : (n : ℕ) (ms : Members) → WithinMembers n ms → TypeIn n (first_type ms)
first_type_in n end_of_object h = tt
first_type_in n (member place name end v more) h =
    type_if n (same TypeName (known_of name)) _ (first_type more) (place_within n v h.1) (first_type_in n more h.2)

selected_in : (n : ℕ) (name : Known) (v : Tree) (geometry geometries features : List Fault) → Within n v → FaultsIn n geometry → FaultsIn n geometries
    → FaultsIn n features
    → FaultsIn n (Faults.selected name v geometry geometries features)
selected_in n TypeName v geometry geometries features h a b c = tt
selected_in n Coordinates v geometry geometries features h a b c = tt
selected_in n Geometries v geometry geometries features h a b c = b
selected_in n Geometry v geometry geometries features h a b c = a
selected_in n Properties v geometry geometries features h a b c = properties_in n v h
selected_in n Features v geometry geometries features h a b c = c
selected_in n Bbox v geometry geometries features h a b c = bbox_in n v h
selected_in n Id v geometry geometries features h a b c = id_in n v h
selected_in n other v geometry geometries features h a b c = tt

mutual
  faults_in : (n : ℕ) (role : Role) (t : Tree) → Within n t → FaultsIn n (Faults.faults role t)
  faults_in n role (object place ms close) h = object_in n place _ _ (λ name. Faults.first name ms) h.0 (record {
    repeated_in = repeated_in_members n [] ms h.1;
    type_in = first_type_in n ms h.1;
    at = λ name. first_member_in n name ms h.1;
  }) role
  faults_in n role (constant which place) h = constant_in n which role place h
  faults_in n role (number place literal end) h = (h, tt)
  faults_in n role (string place content end) h = (h, tt)
  faults_in n role (array place es close) h = (h.0, tt)

  listed_in : (n : ℕ) (role : Role) (t : Tree) → Within n t → FaultsIn n (Faults.listed role t)
  listed_in n role (array place es close) h = all_in n role es h.1
  listed_in n role (constant which place) h = (h, tt)
  listed_in n role (number place literal end) h = (h, tt)
  listed_in n role (string place content end) h = (h, tt)
  listed_in n role (object place ms close) h = (h.0, tt)

  all_in : (n : ℕ) (role : Role) (es : Elements) → WithinElements n es → FaultsIn n (Faults.all_faults role es)
  all_in n role end_of_array h = tt
  all_in n role (element v more) h = all_append (InFault n) _ _ (faults_in n role v h.0) (all_in n role more h.1)

  first_member_in : (n : ℕ) (name : Known) (ms : Members) → WithinMembers n ms → FirstIn n (Faults.first name ms)
  first_member_in n name end_of_object h = tt
  first_member_in n name (member place found end v more) h =
      first_if n (same name (known_of found)) _ (Faults.first name more)
      (h.0, h.1, selected_in n name v _ _ _ h.1 (faults_in n Role.Geometry v h.1) (listed_in n Role.Part v h.1) (listed_in n Role.Feature v h.1))
      (first_member_in n name more h.2)

-- ---- the least

abbrev SomeIn : ℕ → Option Fault → Type 0
SomeIn n None = Unit {0}
SomeIn n (Some fault) = fault.place ≤ n

lesser_if : (n : ℕ) (b : Bool) (x y : Fault) → x.place ≤ n → y.place ≤ n → SomeIn n (if b then Some x else Some y)
lesser_if n true x y h k = h
lesser_if n false x y h k = k

lesser_in : (n : ℕ) (a b : Option Fault) → SomeIn n a → SomeIn n b → SomeIn n (lesser a b)
lesser_in n None b h k = k
lesser_in n (Some x) None h k = h
lesser_in n (Some x) (Some y) h k = lesser_if n (comes_first x y) x y h k

least_in : (n : ℕ) (faults : List Fault) → FaultsIn n faults → SomeIn n (least faults)
least_in n [] h = tt
least_in n (x ∷ xs) h = lesser_in n (Some x) (least xs) h.0 (least_in n xs h.1)

pub least_within : (text : Text) (bytes : List ℕ) (fault : Fault) → IsText text bytes → least (Faults.text_faults text) ≡ Some fault
    → fault.place ≤ length bytes
least_within text bytes fault t e =
    let P : Option Fault → Type 0 = λ o. SomeIn (length bytes) o in
    subst P e (least_in (length bytes) (Faults.text_faults text) (faults_in (length bytes) Role.Root text.value (text_within text bytes t)))
