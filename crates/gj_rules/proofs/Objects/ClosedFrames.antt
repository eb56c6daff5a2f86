-- At its close a frame reports what is found in its object.
use Rattle.gj_rules.proofs.Common.{Bool, Coordinates, Features, Findings, First, Frame, Geometries, Geometry, MemberSlots, Members, Role, Shapes}
use Rattle.gj_rules.proofs.Common.{Simple, Tree, TypeValue, W7, Warnings, Word, added, and_kept, ap, asked, asked_as, blank, crs_warnings}
use Rattle.gj_rules.proofs.Common.{end_of_object, false, faults, first, first_kept, first_value, if◌then◌else◌, is_allowed, joined_none_first, least}
use Rattle.gj_rules.proofs.Common.{member, no_shapes, object, or_none, refl, same, settled, simple_of, sym, true, warned_for, warnings_of, ◌∙◌}
use Rattle.std.proofs.Common.{◌≡◌, ℕ, Option, Some, None}
use Rattle.gj_json.specs.declared.names.Known.{Known}
use Rattle.gj_json.specs.declared.names.Known.TheVariants.{Bbox}
use Rattle.gj_json.specs.Names.{known_of}
use Rattle.gj_coords.specs.Internal.KeptWarnings.{no_warnings, joined}
use Rattle.gj_rules.specs.Internal.FrameCalls.{warned_as, warned_by, members_taken}
use Rattle.gj_rules.specs.Members.{first_type}
use Rattle.gj_rules.specs.Internal.OpenMembers as S
use Rattle.gj_rules.specs.Internal.TextKept.{simple_kept, typed_kept, by_type_kept, kept}
use Rattle.gj_rules.proofs.Objects.GatheredMembers.{gathered_from, gathered_after, own_after}
use Rattle.gj_rules.proofs.Objects.AllMembers.{shapes_from}
use Rattle.gj_rules.proofs.Objects.SettledObjects.{known_slots, ObjectMembers, shown_with, shown_after, asked_after, parts_of, closed}
use Rattle.gj_rules.proofs.Objects.JoinedFindings.{members_shown}

-- ---- the value of the first `coordinates`

abbrev value_in : Option First → Option Tree
value_in None = None
value_in (Some first) = Some first.value

value_step : (b : Bool) (x : First) (o : Option First) (p : Option Tree) → value_in o ≡ p → value_in (if b then Some x else o) ≡ (if b then Some x.value else p)
value_step true x o p e = refl
value_step false x o p e = e

value_is : (n : Known) (ms : Members) → value_in (first n ms) ≡ first_value n ms
value_is n end_of_object = refl
value_is n (member place name end value more) = value_step (same n (known_of name)) _ (first n more) (first_value n more) (value_is n more)

-- ---- what depends on the type

-- the six types have five sorts of warnings
abbrev like : Simple → Simple
like Simple.LineString = Simple.MultiPoint
like simple = simple

shape_warned : (simple : Simple) (o : Option First) → warned_for simple (shapes_from true None None no_shapes o) ≡ simple_kept (like simple) (value_in o)
shape_warned Simple.Point None = refl
shape_warned Simple.Point (Some x) = refl
shape_warned Simple.MultiPoint None = refl
shape_warned Simple.MultiPoint (Some x) = refl
shape_warned Simple.LineString None = refl
shape_warned Simple.LineString (Some x) = refl
shape_warned Simple.MultiLineString None = refl
shape_warned Simple.MultiLineString (Some x) = refl
shape_warned Simple.Polygon None = refl
shape_warned Simple.Polygon (Some x) = refl
shape_warned Simple.MultiPolygon None = refl
shape_warned Simple.MultiPolygon (Some x) = refl

any_is : (o : Option Warnings) → and_kept no_warnings o ≡ or_none o
any_is None = refl
any_is (Some w) = joined_none_first w

-- the frame that an object leaves, of which the first members have these warnings
abbrev left_with : Role → ℕ → Shapes → ObjectMembers → Warnings → Option Warnings → Option Warnings → Option Warnings → Frame
left_with role place shapes p own geometries geometry features = record {
  slots = shown_with role place shapes p;
  gathered = record {
    own = own;
    geometries = gathered_from (S.uses role Geometries) None no_warnings geometries;
    geometry = gathered_from (S.uses role Geometry) None no_warnings geometry;
    features = gathered_from (S.uses role Features) None no_warnings features;
  };
}

-- where its type had not come before its coordinates
abbrev first_shapes : Role → ObjectMembers → Shapes
first_shapes role p = shapes_from (S.uses role Coordinates) None None no_shapes (p.of Coordinates)

abbrev left : Role → ℕ → ObjectMembers → Warnings → Option Warnings → Option Warnings → Option Warnings → Frame
left role place p own geometries geometry features = left_with role place (first_shapes role p) p own geometries geometry features

typed_is : (role : Role) (word : Word) (place : ℕ) (p : ObjectMembers) (own : Warnings) (a b c : Option Warnings)
    → (if is_allowed role word then warned_as word (left role place p own a b c) else no_warnings)
    ≡ (if is_allowed role word then typed_kept word role place (value_in (p.of Coordinates)) (or_none a) (or_none b) (or_none c) else no_warnings)
typed_is role Word.Other place p own a b c = refl
typed_is Role.Root Word.Feature place p own a b c = any_is b
typed_is Role.Feature Word.Feature place p own a b c = any_is b
typed_is Role.Root Word.FeatureCollection place p own a b c = any_is c
typed_is Role.Root Word.GeometryCollection place p own a b c = any_is a
typed_is Role.Geometry Word.GeometryCollection place p own a b c = any_is a
typed_is Role.Part Word.GeometryCollection place p own a b c = ap (λ (w : Warnings). added w W7 place) (any_is a)
typed_is role Word.Feature place p own a b c = refl
typed_is role Word.FeatureCollection place p own a b c = refl
typed_is Role.Feature word place p own a b c = refl
typed_is role Word.Point place p own a b c = shape_warned Simple.Point (p.of Coordinates)
typed_is role Word.MultiPoint place p own a b c = shape_warned Simple.MultiPoint (p.of Coordinates)
typed_is role Word.LineString place p own a b c = shape_warned Simple.LineString (p.of Coordinates)
typed_is role Word.MultiLineString place p own a b c = shape_warned Simple.MultiLineString (p.of Coordinates)
typed_is role Word.Polygon place p own a b c = shape_warned Simple.Polygon (p.of Coordinates)
typed_is role Word.MultiPolygon place p own a b c = shape_warned Simple.MultiPolygon (p.of Coordinates)

by_type_is : (role : Role) (place : ℕ) (p : ObjectMembers) (own : Warnings) (a b c : Option Warnings) (o : Option TypeValue)
    → warned_by o (left role place p own a b c) ≡ by_type_kept o role place (value_in (p.of Coordinates)) (or_none a) (or_none b) (or_none c)
by_type_is role place p own a b c None = refl
by_type_is role place p own a b c (Some value) = typed_is role value.word place p own a b c

-- only what its type asks for counts
word_asked : (word : Word) (role : Role) (place : ℕ) (x : Shapes) (p : ObjectMembers) (own : Warnings) (a b c : Option Warnings)
    → warned_as word (left_with role place x p own a b c) ≡ warned_as word (left_with role place (asked_as (simple_of word) x) p own a b c)
word_asked Word.Point role place x p own a b c = refl
word_asked _ role place x p own a b c = refl

warned_asked : (o : Option TypeValue) (role : Role) (place : ℕ) (x : Shapes) (p : ObjectMembers) (own : Warnings) (a b c : Option Warnings)
    → warned_by o (left_with role place x p own a b c) ≡ warned_by o (left_with role place (asked o x) p own a b c)
warned_asked None role place x p own a b c = refl
warned_asked (Some value) role place x p own a b c =
    ap (λ (w : Warnings). if is_allowed role value.word then w else no_warnings) (word_asked value.word role place x p own a b c)

-- only the known names count
word_known : (word : Word) (f : Frame) → warned_as word f ≡ warned_as word (record f { slots = known_slots f.slots })
word_known Word.Point f = refl
word_known _ f = refl

known_warned : (o : Option TypeValue) (f : Frame) → warned_by o f ≡ warned_by o (record f { slots = known_slots f.slots })
known_warned None f = refl
known_warned (Some value) f = ap (λ (w : Warnings). if is_allowed f.slots.role value.word then w else no_warnings) (word_known value.word f)

-- ---- the object

-- a frame is its fields
fields_are : (f g : Frame) → f.slots ≡ g.slots → f.gathered.own ≡ g.gathered.own → f.gathered.geometries ≡ g.gathered.geometries
    → f.gathered.geometry ≡ g.gathered.geometry → f.gathered.features ≡ g.gathered.features → f ≡ g
fields_are f g a b c d e = λ i. record { slots = a i; gathered = record { own = b i; geometries = c i; geometry = d i; features = e i } }

-- the warnings of an object that depend on no type
abbrev own_kept : Members → Warnings
own_kept ms = joined (warnings_of (crs_warnings ms)) (or_none (first_kept Bbox ms))

left_after : (role : Role) (place : ℕ) (ms : Members)
    → record (members_taken ms (blank role place)) { slots = known_slots (members_taken ms (blank role place)).slots }
    ≡ left_with role place (S.members_taken ms (S.blank role place)).shapes (parts_of ms) (own_kept ms)
    (first_kept Geometries ms) (first_kept Geometry ms) (first_kept Features ms)
left_after role place ms =
    let f : Frame = blank role place in
    fields_are _ _
    (ap known_slots (members_shown ms f) ∙ shown_after role place ms)
    (own_after ms f ∙ joined_none_first (own_kept ms))
    (gathered_after Geometries tt ms f)
    (gathered_after Geometry tt ms f)
    (gathered_after Features tt ms f)

abbrev pub found_in : Role → ℕ → ℕ → Members → Findings
found_in role place close ms = record { fault = least (faults role (object place ms close)); warned = or_none (kept role (object place ms close)) }

pub all_closed : (role : Role) (place close : ℕ) (ms : Members) → settled (members_taken ms (blank role place)) ≡ found_in role place close ms
all_closed role place close ms =
    let own : Warnings = own_kept ms in
    let last : Frame = members_taken ms (blank role place) in
    let p : ObjectMembers = parts_of ms in
    let f : (members_taken ms (blank role place)).slots ≡ S.members_taken ms (S.blank role place) = members_shown ms (blank role place) in
    let a : S.settled (members_taken ms (blank role place)).slots ≡ least (faults role (object place ms close)) = ap S.settled f ∙ closed role place close ms in
    let e = left_after role place ms in
    let s : MemberSlots = S.members_taken ms (S.blank role place) in
    let geometries = first_kept Geometries ms in
    let geometry = first_kept Geometry ms in
    let features = first_kept Features ms in
    let with_type : warned_by (first_type ms) (left_with role place s.shapes p own geometries geometry features) ≡ warned_by (first_type ms)
    (left role place p own geometries geometry features) =
    warned_asked (first_type ms) role place s.shapes p own geometries geometry features
    ∙ (ap (λ (x : Shapes). warned_by (first_type ms) (left_with role place x p own geometries geometry features)) (asked_after role place ms)
    ∙ sym (warned_asked (first_type ms) role place (first_shapes role p) p own geometries geometry features)) in
    let b : (settled (members_taken ms (blank role place))).warned ≡ or_none (kept role (object place ms close)) =
    ap (joined last.gathered.own) (known_warned last.slots.type_value last)
    ∙ (ap (λ (g : Frame). joined g.gathered.own (warned_by g.slots.type_value g)) e
    ∙ (ap (joined own) (with_type ∙ by_type_is role place p own geometries geometry features (first_type ms))
    ∙ ap (λ (o : Option Tree). joined own (by_type_kept (first_type ms) role place o (or_none geometries) (or_none geometry) (or_none features)))
    (value_is Coordinates ms))) in
    λ i. record { fault = a i; warned = b i }
