-- At its close an object has shown its least fault.
use Rattle.gj_rules.proofs.Common.{Bool, Coordinates, Fault, Features, First, G2, G8, Geometries, Geometry, Id, List, MemberRules, MemberSlots}
use Rattle.gj_rules.proofs.Common.{Members, Properties, Role, Rule, Shapes, Simple, Slot, Tree, TypeValue, Word, ap, append_assoc, asked, asked_as}
use Rattle.gj_rules.proofs.Common.{asked_fault, coordinates_faults, false, fault_at, faults, flat_map, forbidden_by, fun_ext, if◌then◌else◌}
use Rattle.gj_rules.proofs.Common.{is_allowed, is_among, is_known, is_some, least, least-append, lesser, lesser-none, lesser_assoc, missing}
use Rattle.gj_rules.proofs.Common.{no_shapes, object, one, refl, repeated, rules_of, shape_for, shapes_of, simple_of, subst, sym, true, [], ◌++◌, ◌∙◌}
use Rattle.gj_rules.proofs.Common.{◌∷◌}
use Rattle.std.proofs.Common.{◌≡◌, ℕ, Option, Some, None}
use Rattle.std.proofs.Common.{append-nil}
use Rattle.gj_json.specs.declared.names.Known.{Known}
use Rattle.gj_json.specs.declared.names.Known.TheVariants.{Bbox}
use Rattle.gj_coords.specs.declared.fault.Rule.TheVariants.{G3, G4, G5, G6, G7}
use Rattle.gj_rules.specs.Internal.OpenMembers as F
use Rattle.gj_rules.specs.Faults as R
use Rattle.gj_rules.specs.Members.{first_type}
use Rattle.gj_rules.specs.Internal.OpenMembers.{members_taken}
use Rattle.gj_rules.proofs.Objects.FaultsInAnyOrder.{lesser_comm, least_after, least_swap}
use Rattle.gj_rules.specs.Internal.MemberRules.{member_fault}
use Rattle.gj_rules.proofs.Objects.OneMember.{or_slot, slot_from}
use Rattle.gj_rules.proofs.Objects.AllMembers.{IsSameObject, members_object, slots_after, type_from, type_after, shapes_from, shapes_after, repeated_after}
use Rattle.gj_rules.specs.Internal.Summaries.{shape_found}
use Rattle.gj_rules.proofs.Objects.AskedShapes.{no_fault, one_fault}

-- the members of an object that its faults are read off: those that repeat a name, the first `type`, and the first of each name
pub record ObjectMembers : Type 0 where
  pub repeated : List Fault
  pub type_value : Option TypeValue
  pub of : Known → Option R.First

-- what an object has shown at its end
abbrev pub shown_with : Role → ℕ → Shapes → ObjectMembers → MemberSlots
shown_with role place shapes p = record {
  place = place;
  role = role;
  repeated = least p.repeated;
  type_value = p.type_value;
  shapes = shapes;
  slots = λ name. if is_known name then slot_from (F.uses role name) (p.of name) else None;
}

-- where its type had not come before its coordinates
abbrev pub shown_for : Role → ℕ → ObjectMembers → MemberSlots
shown_for role place p = shown_with role place (shapes_from (F.uses role Coordinates) None None no_shapes (p.of Coordinates)) p

-- ---- of one name

-- of `coordinates`, whose faults depend on the type
abbrev lacking : ℕ → Rule → Option First → List Fault
lacking place rule None = one place rule
lacking place rule (Some first) = []

-- what is asked of a name: whether it is due, used and forbidden, and whether its value is looked at
abbrev IsAsked : Bool → Bool → Bool → Bool → Type 0
IsAsked false false forbidden looked = Unit {0}
IsAsked true false false looked = Unit {0}
IsAsked due true false true = Unit {0}
IsAsked _ _ _ _ = ⊥

abbrev asked_faults : Bool → Bool → Bool → ℕ → Rule → Option First → List Fault
asked_faults false false false place rule o = []
asked_faults false used true place rule o = R.forbidden o
asked_faults true false forbidden place rule o = lacking place rule o
asked_faults true true forbidden place rule o = R.due place rule o
asked_faults false true false place rule o = R.optional o

asked_is : (d u b k : Bool) (place : ℕ) (rule : Rule) (o : Option First) → IsAsked d u b k
    → asked_fault d u b (fault_at place rule) (slot_from k o) ≡ least (asked_faults d u b place rule o)
asked_is false false false k place rule None a = refl
asked_is false false false k place rule (Some first) a = refl
asked_is false false true k place rule None a = refl
asked_is false false true k place rule (Some first) a = refl
asked_is true false false k place rule None a = refl
asked_is true false false k place rule (Some first) a = refl
asked_is true true false true place rule None a = refl
asked_is true true false true place rule (Some first) a = refl
asked_is false true false true place rule None a = refl
asked_is false true false true place rule (Some first) a = refl
asked_is _ _ _ _ place rule o a = absurd a

-- ---- of some names

-- joined before what is known of the rest
also : (x : Option Fault) (xs : List Fault) (y : Option Fault) (ys : List Fault) → x ≡ least xs → y ≡ least ys → lesser x y ≡ least (xs ++ ys)
also x xs y ys e f = ap (λ z. lesser z y) e ∙ (ap (λ z. lesser (least xs) z) f ∙ sym (least-append xs ys))

abbrev forbidden_members : List Known → ObjectMembers → List Fault
forbidden_members names p = flat_map (λ name. R.forbidden (p.of name)) names

-- the bounding box, then others and the forbidden ones, then the coordinates
turned : (b c r d : List Fault) (x : Option Fault) → lesser (least c) x ≡ least d → lesser (least (b ++ (c ++ r))) x ≡ least (b ++ (r ++ d))
turned b c r d x e =
    rw (least-append b (c ++ r), least-append c r, least-append b (r ++ d), least-append r d, ← e)
    (lesser_assoc (least b) (lesser (least c) (least r)) x
    ∙ ap (lesser (least b)) (ap (λ (y : Option Fault). lesser y x) (lesser_comm (least c) (least r)) ∙ lesser_assoc (least r) (least c) x))

three_first : (a b c x : List Fault) → a ++ (b ++ (c ++ x)) ≡ (a ++ (b ++ (c ++ []))) ++ x
three_first a b c x = simp append_assoc

four_first : (a b c d x : List Fault) → a ++ (b ++ (c ++ (d ++ (x ++ [])))) ≡ (a ++ (b ++ (c ++ (d ++ [])))) ++ x
four_first a b c d x = simp (append_assoc, append-nil)

-- a forbidden one behind two that are due
passed : (b c d g q f i : List Fault) → least (b ++ (c ++ (d ++ (g ++ (q ++ (f ++ i)))))) ≡ least (b ++ ((c ++ (d ++ (f ++ []))) ++ (g ++ (q ++ i))))
passed b c d g q f i =
    least_after b _ _ (least_after c _ _ (least_after d _ _ (least_after g _ _ (least_swap q f i) ∙ least_swap g f (q ++ i))))
    ∙ ap (λ (xs : List Fault). least (b ++ xs)) (three_first c d f (g ++ (q ++ i)))

-- ---- of each type

shape_is : (simple : Simple) (v : Tree) → shape_for simple (shapes_of v) ≡ least (coordinates_faults simple v)
shape_is Simple.Point v = refl
shape_is other v = refl

coordinates_is : (simple : Simple) (place : ℕ) (o : Option First)
    → lesser (least (lacking place G4 o)) (shape_for simple (shapes_from true None None no_shapes o)) ≡ least (R.due_coordinates (Some simple) place o)
coordinates_is simple place None = rw (no_fault simple) refl
coordinates_is simple place (Some first) = shape_is simple first.value

abbrev faults_of : MemberRules → ℕ → ObjectMembers → Known → List Fault
faults_of rules place p n = asked_faults (is_among rules.due n) (is_among rules.used n) (is_among rules.forbidden n) place (missing n) (p.of n)

abbrev Asks : MemberRules → Role → Known → Type 0
Asks rules role n = IsAsked (is_among rules.due n) (is_among rules.used n) (is_among rules.forbidden n) (F.uses role n)

members_is : (rules : MemberRules) (role : Role) (place : ℕ) (x : Shapes) (p : ObjectMembers) → Asks rules role Bbox → Asks rules role Coordinates
    → Asks rules role Geometries → Asks rules role Geometry → Asks rules role Properties → Asks rules role Features → Asks rules role Id
    → F.members_fault rules (shown_with role place x p)
    ≡ least (faults_of rules place p Bbox ++ (faults_of rules place p Coordinates ++ (faults_of rules place p Geometries
    ++ (faults_of rules place p Geometry ++ (faults_of rules place p Properties ++ (faults_of rules place p Features ++ faults_of rules place p Id))))))
unfolding F.members_fault
members_is rules role place x p a b c d e f g =
    next Bbox _ _ a (next Coordinates _ _ b (next Geometries _ _ c (next Geometry _ _ d (next Properties _ _ e (next Features _ _ f (of Id g))))))
  where
    of : (n : Known) → Asks rules role n → member_fault rules place n (slot_from (F.uses role n) (p.of n)) ≡ least (faults_of rules place p n)
    of n h = asked_is (is_among rules.due n) (is_among rules.used n) (is_among rules.forbidden n) (F.uses role n) place (missing n) (p.of n) h

    next : (n : Known) (y : Option Fault) (ys : List Fault) → Asks rules role n → y ≡ least ys
        → lesser (member_fault rules place n (slot_from (F.uses role n) (p.of n))) y ≡ least (faults_of rules place p n ++ ys)
    next n y ys h k = also _ (faults_of rules place p n) y ys (of n h) k

simple_is : (simple : Simple) (place : ℕ) (p : ObjectMembers) (y : Option Fault)
    → y ≡ least (R.optional (p.of Bbox) ++ (lacking place G4 (p.of Coordinates) ++ forbidden_members (Geometry ∷ Properties ∷ Features ∷ []) p))
    → lesser y (shape_for simple (shapes_from true None None no_shapes (p.of Coordinates)))
    ≡ least (R.optional (p.of Bbox)
    ++ (forbidden_members (Geometry ∷ Properties ∷ Features ∷ []) p ++ R.due_coordinates (Some simple) place (p.of Coordinates)))
simple_is simple place p y e =
    ap (λ (x : Option Fault). lesser x (shape_for simple (shapes_from true None None no_shapes (p.of Coordinates)))) e
    ∙ turned (R.optional (p.of Bbox)) (lacking place G4 (p.of Coordinates)) (forbidden_members (Geometry ∷ Properties ∷ Features ∷ []) p)
    (R.due_coordinates (Some simple) place (p.of Coordinates)) _ (coordinates_is simple place (p.of Coordinates))

collection_is : (place : ℕ) (p : ObjectMembers) (y : Option Fault)
    → y ≡ least (R.optional (p.of Bbox) ++ (R.due place G5 (p.of Geometries) ++ forbidden_members (Geometry ∷ Properties ∷ Features ∷ []) p))
    → lesser y None
    ≡ least (R.optional (p.of Bbox) ++ (forbidden_members (Geometry ∷ Properties ∷ Features ∷ []) p ++ R.due place G5 (p.of Geometries)))
collection_is place p y e =
    ap (λ (x : Option Fault). lesser x None) e
    ∙ turned (R.optional (p.of Bbox)) (R.due place G5 (p.of Geometries)) (forbidden_members (Geometry ∷ Properties ∷ Features ∷ []) p)
    (R.due place G5 (p.of Geometries)) None (lesser-none (least (R.due place G5 (p.of Geometries))))

feature_is : (place : ℕ) (p : ObjectMembers) (y : Option Fault)
    → y ≡ least (R.optional (p.of Bbox) ++ (R.forbidden (p.of Coordinates) ++ (R.forbidden (p.of Geometries) ++ (R.due place G6 (p.of Geometry)
    ++ (R.due place G7 (p.of Properties) ++ (R.forbidden (p.of Features) ++ R.optional (p.of Id)))))))
    → lesser y None
    ≡ least (R.optional (p.of Bbox) ++ (forbidden_members (Coordinates ∷ Geometries ∷ Features ∷ []) p ++ R.as_type Word.Feature place p.of))
feature_is place p y e =
    lesser-none y
    ∙ (e ∙ passed (R.optional (p.of Bbox)) (R.forbidden (p.of Coordinates)) (R.forbidden (p.of Geometries)) (R.due place G6 (p.of Geometry))
    (R.due place G7 (p.of Properties)) (R.forbidden (p.of Features)) (R.optional (p.of Id)))

features_is : (place : ℕ) (p : ObjectMembers) (y : Option Fault)
    → y ≡ least (R.optional (p.of Bbox) ++ (R.forbidden (p.of Coordinates) ++ (R.forbidden (p.of Geometries) ++ (R.forbidden (p.of Geometry)
    ++ (R.forbidden (p.of Properties) ++ (R.due place G8 (p.of Features) ++ []))))))
    → lesser y None
    ≡ least (R.optional (p.of Bbox) ++ (forbidden_members (Coordinates ∷ Geometries ∷ Geometry ∷ Properties ∷ []) p ++ R.due place G8 (p.of Features)))
features_is place p y e =
    lesser-none y
    ∙ (e ∙ ap (λ (xs : List Fault). least (R.optional (p.of Bbox) ++ xs))
    (four_first (R.forbidden (p.of Coordinates)) (R.forbidden (p.of Geometries)) (R.forbidden (p.of Geometry)) (R.forbidden (p.of Properties))
    (R.due place G8 (p.of Features))))

-- where the type is missing or wrong
none_is : (role : Role) (x : Fault) (place : ℕ) (p : ObjectMembers)
    → F.as_none x (shown_for role place p) ≡ least (R.optional (p.of Bbox) ++ x ∷ [])
none_is role x place p = also _ (R.optional (p.of Bbox)) (Some x) (x ∷ []) (bbox_alone role ∙ ap least (append-nil (R.optional (p.of Bbox)))) refl
  where
    bbox_alone : (role : Role) → F.members_fault (rules_of Word.Other) (shown_for role place p) ≡ least (R.optional (p.of Bbox) ++ [])
    bbox_alone Role.Root = members_is (rules_of Word.Other) Role.Root place _ p tt tt tt tt tt tt tt
    bbox_alone role = members_is (rules_of Word.Other) role place _ p tt tt tt tt tt tt tt

-- at each role, for each type that is allowed there
typed_is : (role : Role) (word : Word) (at : ℕ) (place : ℕ) (p : ObjectMembers)
    → (if is_allowed role word then F.as_type word (shown_for role place p) else F.as_none (fault_at at G3) (shown_for role place p))
    ≡ least (R.optional (p.of Bbox) ++ (if is_allowed role word then forbidden_members (forbidden_by word) p ++ R.as_type word place p.of else one at G3))
typed_is role Word.Other at place p = none_is role (fault_at at G3) place p
typed_is Role.Root Word.Feature at place p = feature_is place p _ (members_is (rules_of Word.Feature) Role.Root place _ p tt tt tt tt tt tt tt)
typed_is Role.Feature Word.Feature at place p = feature_is place p _ (members_is (rules_of Word.Feature) Role.Feature place _ p tt tt tt tt tt tt tt)
typed_is role Word.Feature at place p = none_is role (fault_at at G3) place p
typed_is Role.Root Word.FeatureCollection at place p =
    features_is place p _ (members_is (rules_of Word.FeatureCollection) Role.Root place _ p tt tt tt tt tt tt tt)
typed_is role Word.FeatureCollection at place p = none_is role (fault_at at G3) place p
typed_is Role.Feature word at place p = none_is Role.Feature (fault_at at G3) place p
typed_is role Word.GeometryCollection at place p = collection_is place p _ (members_is (rules_of Word.GeometryCollection) role place _ p tt tt tt tt tt tt tt)
typed_is role Word.Point at place p = simple_is Simple.Point place p _ (members_is (rules_of Word.Point) role place _ p tt tt tt tt tt tt tt)
typed_is role Word.MultiPoint at place p = simple_is Simple.MultiPoint place p _ (members_is (rules_of Word.Point) role place _ p tt tt tt tt tt tt tt)
typed_is role Word.LineString at place p = simple_is Simple.LineString place p _ (members_is (rules_of Word.Point) role place _ p tt tt tt tt tt tt tt)
typed_is role Word.MultiLineString at place p =
    simple_is Simple.MultiLineString place p _ (members_is (rules_of Word.Point) role place _ p tt tt tt tt tt tt tt)
typed_is role Word.Polygon at place p = simple_is Simple.Polygon place p _ (members_is (rules_of Word.Point) role place _ p tt tt tt tt tt tt tt)
typed_is role Word.MultiPolygon at place p = simple_is Simple.MultiPolygon place p _ (members_is (rules_of Word.Point) role place _ p tt tt tt tt tt tt tt)

rest_is : (role : Role) (place : ℕ) (p : ObjectMembers) (o : Option TypeValue)
    → F.rest_by o (shown_for role place p) ≡ least (R.optional (p.of Bbox) ++ R.by_type o role place p.of)
rest_is role place p None = none_is role (fault_at place G2) place p
rest_is role place p (Some value) = typed_is role value.word value.place place p

pub settled_is : (role : Role) (place : ℕ) (p : ObjectMembers)
    → F.settled (shown_for role place p) ≡ least (p.repeated ++ (R.optional (p.of Bbox) ++ R.by_type p.type_value role place p.of))
settled_is role place p = also _ p.repeated _ _ refl (rest_is role place p p.type_value)

abbrev pub parts_of : Members → ObjectMembers
parts_of members = record {
  repeated = repeated [] members;
  type_value = first_type members;
  of = λ name. R.first name members;
}

pub none_set : (role : Role) (place : ℕ) (n : Known) → F.slot_of n (F.blank role place) ≡ None
none_set role place Bbox = refl
none_set role place _ = refl

-- what is shown of the known names
abbrev pub known_slots : MemberSlots → MemberSlots
known_slots f = record f { slots = λ n. F.slot_of n f }

kind_is : (o : Option TypeValue) → type_from None None o ≡ o
kind_is None = refl
kind_is (Some value) = refl

-- what is shown after all members, from its fields
pub shown_after : (role : Role) (place : ℕ) (members : Members)
    → known_slots (members_taken members (F.blank role place))
    ≡ shown_with role place (members_taken members (F.blank role place)).shapes (parts_of members)
shown_after role place members = λ i. record {
  place = same.place i;
  role = same.role i;
  repeated = repeated_after members [] (F.blank role place) (record { each = λ n k. ap is_some (none_set role place n) }) i;
  type_value = (type_after members (F.blank role place) ∙ kind_is (first_type members)) i;
  shapes = (members_taken members (F.blank role place)).shapes;
  slots = fun_ext (λ n. slot_after n (is_known n) refl) i;
}
  where
    same : IsSameObject (F.blank role place) (members_taken members (F.blank role place))
    same = members_object members (F.blank role place)

    slot_after : (n : Known) (k : Bool) → is_known n ≡ k
        → F.slot_of n (members_taken members (F.blank role place)) ≡ (if k then slot_from (F.uses role n) (R.first n members) else None)
    slot_after n true k =
        slots_after n members (F.blank role place) k
        ∙ ap (λ (o : Option Slot). or_slot o (slot_from (F.uses role n) (R.first n members))) (none_set role place n)
    slot_after n false k = rw k refl

-- of the shapes what its type asks for is that of the first coordinates
pub asked_after : (role : Role) (place : ℕ) (members : Members)
    → asked (first_type members) (members_taken members (F.blank role place)).shapes
    ≡ asked (first_type members) (shapes_from (F.uses role Coordinates) None None no_shapes (R.first Coordinates members))
asked_after role place members =
    let f : MemberSlots = F.blank role place in
    subst (λ (t : Option TypeValue). asked t (members_taken members f).shapes ≡ asked t
    (shapes_from (F.uses role Coordinates) None None no_shapes (R.first Coordinates members)))
    (type_after members f ∙ kind_is (first_type members)) (shapes_after members f refl)

-- ---- only what its type asks for counts

shape_asked : (o : Option Simple) (x : Shapes) → F.shape_as o x ≡ F.shape_as o (asked_as o x)
shape_asked None x = refl
shape_asked (Some simple) x = sym (one_fault simple (shape_found simple x))

word_asked : (word : Word) (role : Role) (place : ℕ) (x : Shapes) (p : ObjectMembers)
    → F.as_type word (shown_with role place x p) ≡ F.as_type word (shown_with role place (asked_as (simple_of word) x) p)
unfolding F.members_fault
word_asked word role place x p = ap (lesser (F.members_fault (rules_of word) (shown_with role place x p))) (shape_asked (simple_of word) x)

rest_asked : (o : Option TypeValue) (role : Role) (place : ℕ) (x : Shapes) (p : ObjectMembers)
    → F.rest_by o (shown_with role place x p) ≡ F.rest_by o (shown_with role place (asked o x) p)
unfolding F.members_fault
rest_asked None role place x p = refl
rest_asked (Some value) role place x p =
    ap (λ (o : Option Fault). if is_allowed role value.word then o else F.as_none (fault_at value.place G3) (shown_with role place x p))
    (word_asked value.word role place x p)

settled_asked : (role : Role) (place : ℕ) (x : Shapes) (p : ObjectMembers)
    → F.settled (shown_with role place x p) ≡ F.settled (shown_with role place (asked p.type_value x) p)
settled_asked role place x p = ap (lesser (least p.repeated)) (rest_asked p.type_value role place x p)

-- only the known names count
rest_known : (o : Option TypeValue) (f : MemberSlots) → F.rest_by o f ≡ F.rest_by o (known_slots f)
unfolding F.members_fault
rest_known None f = refl
rest_known (Some value) f = refl

pub closed : (role : Role) (place close : ℕ) (members : Members)
    → F.settled (members_taken members (F.blank role place)) ≡ least (faults role (object place members close))
closed role place close members =
    let f : MemberSlots = members_taken members (F.blank role place) in
    let p : ObjectMembers = parts_of members in
    let first : Shapes = shapes_from (F.uses role Coordinates) None None no_shapes (p.of Coordinates) in
    ap (lesser f.repeated) (rest_known f.type_value f)
    ∙ (ap F.settled (shown_after role place members)
    ∙ (settled_asked role place f.shapes p
    ∙ (ap (λ (x : Shapes). F.settled (shown_with role place x p)) (asked_after role place members)
    ∙ (sym (settled_asked role place first p)
    ∙ settled_is role place p))))
