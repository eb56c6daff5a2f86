-- What the rules keep of a text's warnings is what is kept of the list of them, where each `coordinates` has few enough events.
use Rattle.gj_rules.proofs.Common.{Bool, Coordinates, Features, Geometries, Geometry, List, Members, Role, Simple, Text, Tree, TypeValue, W1, W7}
use Rattle.gj_rules.proofs.Common.{Warning, Warnings, Word, added, added_is, all_kept, and_kept, ap, arith, array, constant, coordinates_kept}
use Rattle.gj_rules.proofs.Common.{coordinates_warnings, crs_warnings, element, elements_events, end_of_array, end_of_object, events, false}
use Rattle.gj_rules.proofs.Common.{first_kept, first_value, first_warnings, if◌then◌else◌, is_allowed, joined_assoc, joined_none_first}
use Rattle.gj_rules.proofs.Common.{joined_none_last, length, length-map, marked_kept, member, members_events, number, object, or_none, refl, same}
use Rattle.gj_rules.proofs.Common.{string, subst, suc, sym, text_kept, text_warnings, timed, true, value_events, warned_if, warning_at, warnings}
use Rattle.gj_rules.proofs.Common.{warnings_of, warnings_of-append, warnings_of_none, [], ◌++◌, ◌+◌, ◌<◌, ◌∙◌, ◌∷◌}
use Rattle.std.proofs.Common.{◌≡◌, ℕ, Option, Some, None}
use Rattle.std.proofs.Common.{length-append}
use Rattle.gj_json.specs.declared.names.Known.{Known}
use Rattle.gj_json.specs.declared.names.Known.TheVariants.{Bbox}
use Rattle.gj_json.specs.declared.event.What.TheVariants as What
use Rattle.gj_json.specs.Events.{Timed}
use Rattle.gj_json.specs.Names.{known_of}
use Rattle.gj_json.specs.Tree as Tree
use Rattle.gj_coords.specs.Internal.KeptWarnings.{no_warnings, joined}
use Rattle.gj_coords.specs.Internal.WarningLaws.{joined_comm}
use Rattle.gj_rules.specs.Members.{first_type}
use Rattle.gj_rules.specs.Internal.TextKept.{both, simple_kept, typed_kept, by_type_kept, selected_kept, kept, list_kept}
use Rattle.gj_rules.specs.TextWarnings.{simple_warnings, typed_warnings, by_type_warnings, selected_warnings}
use Rattle.gj_rules.specs.TextWarnings.{list_warnings, all_warnings}

-- nothing is what is kept of no warnings
none_is : no_warnings ≡ warnings_of []
none_is = sym warnings_of_none

both_is : (a b : Option Warnings) → or_none (both a b) ≡ joined (or_none a) (or_none b)
both_is None b = sym (joined_none_first (or_none b))
both_is (Some a) None = sym (joined_none_last a)
both_is (Some a) (Some b) = refl

-- of two lists, one after another
append_is : (a b : Warnings) (xs ys : List Warning) → a ≡ warnings_of xs → b ≡ warnings_of ys → joined a b ≡ warnings_of (xs ++ ys)
append_is a b xs ys e f = ap (λ (w : Warnings). joined w b) e ∙ (ap (joined (warnings_of xs)) f ∙ sym (warnings_of-append xs ys))

one_more : (a : Warnings) (place : ℕ) (xs : List Warning) → a ≡ warnings_of xs → added a W7 place ≡ warnings_of (warning_at place W7 ∷ xs)
one_more a place xs e =
    added_is a W7 place ∙ (joined_comm a (warnings_of (warning_at place W7 ∷ []))
    ∙ append_is (warnings_of (warning_at place W7 ∷ [])) a (warning_at place W7 ∷ []) xs refl e)

-- those of an object that depend on its type, given those of its coordinates and of its first members
typed_is : (word : Word) (role : Role) (place : ℕ) (o : Option Tree) (a b c : Warnings) (xs ys zs : List Warning)
    → ((simple : Simple) → simple_kept simple o ≡ warnings_of (simple_warnings (Some simple) o)) → a ≡ warnings_of xs → b ≡ warnings_of ys → c ≡ warnings_of zs
    → typed_kept word role place o a b c ≡ warnings_of (typed_warnings word role place o xs ys zs)
typed_is Word.Point role place o a b c xs ys zs h e f g = h Simple.Point
typed_is Word.MultiPoint role place o a b c xs ys zs h e f g = h Simple.MultiPoint
typed_is Word.LineString role place None a b c xs ys zs h e f g = none_is
typed_is Word.LineString role place (Some v) a b c xs ys zs h e f g = h Simple.MultiPoint
typed_is Word.MultiLineString role place o a b c xs ys zs h e f g = h Simple.MultiLineString
typed_is Word.Polygon role place o a b c xs ys zs h e f g = h Simple.Polygon
typed_is Word.MultiPolygon role place o a b c xs ys zs h e f g = h Simple.MultiPolygon
typed_is Word.GeometryCollection Role.Part place o a b c xs ys zs h e f g = one_more a place xs e
typed_is Word.GeometryCollection Role.Root place o a b c xs ys zs h e f g = e
typed_is Word.GeometryCollection Role.Geometry place o a b c xs ys zs h e f g = e
typed_is Word.GeometryCollection Role.Feature place o a b c xs ys zs h e f g = e
typed_is Word.Feature role place o a b c xs ys zs h e f g = f
typed_is Word.FeatureCollection role place o a b c xs ys zs h e f g = g
typed_is Word.Other role place o a b c xs ys zs h e f g = none_is

if_is : (t : Bool) (a : Warnings) (xs : List Warning) → a ≡ warnings_of xs → (if t then a else no_warnings) ≡ warnings_of (if t then xs else [])
if_is true a xs e = e
if_is false a xs e = none_is

by_type_is : (t : Option TypeValue) (role : Role) (place : ℕ) (o : Option Tree) (a b c : Warnings) (xs ys zs : List Warning)
    → ((simple : Simple) → simple_kept simple o ≡ warnings_of (simple_warnings (Some simple) o)) → a ≡ warnings_of xs → b ≡ warnings_of ys → c ≡ warnings_of zs
    → by_type_kept t role place o a b c ≡ warnings_of (by_type_warnings t role place o xs ys zs)
by_type_is None role place o a b c xs ys zs h e f g = none_is
by_type_is (Some value) role place o a b c xs ys zs h e f g =
    if_is (is_allowed role value.word) (typed_kept value.word role place o a b c) (typed_warnings value.word role place o xs ys zs)
    (typed_is value.word role place o a b c xs ys zs h e f g)

-- of the value of a first member
selected_is : (name : Known) (v : Tree) (a b c : Option Warnings) (xs ys zs : List Warning) → or_none a ≡ warnings_of xs → or_none b ≡ warnings_of ys
    → or_none c ≡ warnings_of zs
    → or_none (selected_kept name v a b c) ≡ warnings_of (selected_warnings name v xs ys zs)
selected_is Geometry v a b c xs ys zs e f g = e
selected_is Geometries v a b c xs ys zs e f g = f
selected_is Features v a b c xs ys zs e f g = g
selected_is Bbox v a b c xs ys zs e f g = refl
selected_is _ v a b c xs ys zs e f g = none_is

choose : (t : Bool) (a b : Option Warnings) (xs ys : List Warning) → or_none a ≡ warnings_of xs → or_none b ≡ warnings_of ys
    → or_none (if t then a else b) ≡ warnings_of (if t then xs else ys)
choose true a b xs ys e f = e
choose false a b xs ys e f = f

-- ---- few events, fewer than `most`

front_few : (xs ys : List Timed) (most : ℕ) → length (xs ++ ys) < most → length xs < most
front_few xs ys most h = omega (arith, h, length-append xs ys)

rest_few : (xs ys : List Timed) (most : ℕ) → length (xs ++ ys) < most → length ys < most
rest_few xs ys most h = omega (arith, h, length-append xs ys)

behind_few : (xs : List Timed) (most : ℕ) → suc (length xs) < most → length xs < most
behind_few xs most h = omega (arith, h)

-- between the brackets
inner_few : (xs : List Timed) (last : Timed) (most : ℕ) → suc (length (xs ++ last ∷ [])) < most → length xs < most
inner_few xs last most h = front_few xs (last ∷ []) most (behind_few (xs ++ last ∷ []) most h)

module _ (most : ℕ) (law : (simple : Simple) (value : Tree) → length (value_events value) < most
    → coordinates_kept simple value ≡ warnings_of (coordinates_warnings simple value)) where
  simple_is : (simple : Simple) (ms : Members) → length (members_events ms) < most
      → simple_kept simple (first_value Coordinates ms) ≡ warnings_of (simple_warnings (Some simple) (first_value Coordinates ms))
  simple_is simple end_of_object d = none_is
  simple_is simple (member place name end v more) d =
      let k = behind_few (events v ++ members_events more) most d in
      choose_value (same Coordinates (known_of name))
      (law simple v (subst (λ (n : ℕ). n < most) (sym (length-map (events v) (λ (x : Timed). x.event))) (front_few (events v) (members_events more) most k)))
      (simple_is simple more (rest_few (events v) (members_events more) most k))
    where
      choose_value : (t : Bool) → coordinates_kept simple v ≡ warnings_of (coordinates_warnings simple v)
          → simple_kept simple (first_value Coordinates more) ≡ warnings_of (simple_warnings (Some simple) (first_value Coordinates more))
          → simple_kept simple (if t then Some v else first_value Coordinates more) ≡ warnings_of
          (simple_warnings (Some simple) (if t then Some v else first_value Coordinates more))
      choose_value true e f = e
      choose_value false e f = f

  mutual
    pub value_is : (role : Role) (v : Tree) → length (events v) < most → or_none (kept role v) ≡ warnings_of (warnings role v)
    value_is role (constant which place) d = none_is
    value_is role (number place literal end) d = none_is
    value_is role (string place content end) d = none_is
    value_is role (array place es close) d = none_is
    value_is role (object place ms close) d =
        let k = inner_few (members_events ms) (timed (close + 1) close What.CloseObject) most d in
        let xs : List Warning = first_warnings Bbox ms in
        let rest : List Warning =
        by_type_warnings (first_type ms) role place (first_value Coordinates ms) (first_warnings Geometries ms) (first_warnings Geometry ms)
        (first_warnings Features ms) in
        joined_assoc (warnings_of (crs_warnings ms)) (or_none (first_kept Bbox ms)) _
        ∙ append_is (warnings_of (crs_warnings ms)) _ (crs_warnings ms) (xs ++ rest) refl
        (append_is (or_none (first_kept Bbox ms)) _ xs rest (first_is Bbox ms k)
        (by_type_is (first_type ms) role place (first_value Coordinates ms) _ _ _ (first_warnings Geometries ms) (first_warnings Geometry ms)
        (first_warnings Features ms)
        (λ simple. simple_is simple ms k) (first_is Geometries ms k) (first_is Geometry ms k) (first_is Features ms k)))

    list_is : (role : Role) (v : Tree) → length (events v) < most → or_none (list_kept role v) ≡ warnings_of (list_warnings role v)
    list_is role (constant which place) d = none_is
    list_is role (number place literal end) d = none_is
    list_is role (string place content end) d = none_is
    list_is role (object place ms close) d = none_is
    list_is role (array place es close) d = all_is role es (inner_few (elements_events es) (timed (close + 1) close What.CloseArray) most d)

    all_is : (role : Role) (es : Tree.Elements) → length (elements_events es) < most → or_none (all_kept role es) ≡ warnings_of (all_warnings role es)
    all_is role end_of_array d = none_is
    all_is role (element v more) d =
        both_is (kept role v) (all_kept role more)
        ∙ append_is (or_none (kept role v)) (or_none (all_kept role more)) (warnings role v) (all_warnings role more)
        (value_is role v (front_few (events v) (elements_events more) most d)) (all_is role more (rest_few (events v) (elements_events more) most d))

    first_is : (name : Known) (ms : Members) → length (members_events ms) < most → or_none (first_kept name ms) ≡ warnings_of (first_warnings name ms)
    first_is name end_of_object d = none_is
    first_is name (member place found end v more) d =
        let k = behind_few (events v ++ members_events more) most d in
        let l = front_few (events v) (members_events more) most k in
        choose (same name (known_of found)) _ (first_kept name more) _ (first_warnings name more)
        (selected_is name v (kept Role.Geometry v) (list_kept Role.Part v) (list_kept Role.Feature v)
        (warnings Role.Geometry v) (list_warnings Role.Part v) (list_warnings Role.Feature v)
        (value_is Role.Geometry v l) (list_is Role.Part v l) (list_is Role.Feature v l))
        (first_is name more (rest_few (events v) (members_events more) most k))

  marked_is : (marked : Bool) → marked_kept marked ≡ warnings_of (warned_if marked 0 W1)
  marked_is true = added_is no_warnings W1 0 ∙ joined_none_first (warnings_of (warning_at 0 W1 ∷ []))
  marked_is false = none_is

  and_is : (had : Warnings) (o : Option Warnings) → and_kept had o ≡ joined had (or_none o)
  and_is had None = sym (joined_none_last had)
  and_is had (Some w) = refl

  pub text_is : (text : Text) → length (value_events text.value) < most → text_kept text ≡ warnings_of (text_warnings text)
  text_is text d =
      let k = subst (λ (n : ℕ). n < most) (length-map (events text.value) (λ (x : Timed). x.event)) d in
      and_is (marked_kept text.marked) (kept Role.Root text.value)
      ∙ append_is (marked_kept text.marked) (or_none (kept Role.Root text.value)) (warned_if text.marked 0 W1) (warnings Role.Root text.value)
      (marked_is text.marked) (value_is Role.Root text.value k)
