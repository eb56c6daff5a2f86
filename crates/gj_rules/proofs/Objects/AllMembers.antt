-- What all members do to what an object has shown.
use Rattle.gj_rules.proofs.Common.{Bool, Coordinates, Fault, First, List, MemberSlots, Members, Role, Shapes, Slot, Tree, TypeName, TypeValue, ap}
use Rattle.gj_rules.proofs.Common.{asked, due_known, end_of_object, false, first, if◌then◌else◌, is_known, is_some, joined_to, judge, least}
use Rattle.gj_rules.proofs.Common.{least-append, lesser, lesser-none, lesser_assoc, member, mentions, named_known, one, place_of, refl, repeated}
use Rattle.gj_rules.proofs.Common.{same, shapes_of, slot_of, subst, sym, true, type_of, uses, [], ◌&&◌, ◌∙◌, ◌∷◌}
use Rattle.std.proofs.Common.{◌≡◌, ℕ, Option, Some, None}
use Rattle.gj_json.specs.declared.names.Known.{Known}
use Rattle.gj_rules.specs.Internal.OpenMembers.{named, due_after}
use Rattle.gj_coords.specs.declared.fault.Rule.TheVariants.{G10}
use Rattle.gj_rules.specs.Members.{first_type}
use Rattle.gj_json.specs.Names.{known_of}
use Rattle.gj_rules.specs.Internal.OpenMembers.{filled, member_taken, members_taken}
use Rattle.gj_rules.proofs.Objects.AskedShapes.{TypeStays, asked_twice}
use Rattle.gj_rules.proofs.Objects.OneMember.{due_other, slot-other, slot-own, or_slot, slot_from}
use Rattle.gj_rules.proofs.Objects.MemberSlots.{same_is}

-- ---- what no member changes

pub record IsSameObject (old new : MemberSlots) : Type 0 where
  pub place : new.place ≡ old.place
  pub role : new.role ≡ old.role

-- a joined fault changes the slots alone
joined_slots : (m : Known) (x : Option Fault) (o : Option Slot) (f : MemberSlots) → joined_to m x o f ≡ record f { slots = (joined_to m x o f).slots }
joined_slots m x None f = refl
joined_slots m x (Some slot) f = refl

pub joined_object : (m : Known) (x : Option Fault) (o : Option Slot) (f : MemberSlots) → IsSameObject f (joined_to m x o f)
joined_object m x None f = record { place = refl; role = refl }
joined_object m x (Some slot) f = record { place = refl; role = refl }

pub filled_object : (m : Known) (v : Tree) (f : MemberSlots) → IsSameObject f (filled m v f)
filled_object TypeName v f = record { place = refl; role = refl }
filled_object Coordinates v f = record { place = refl; role = refl }
filled_object m v f = joined_object m (least (judge m v)) (slot_of m f) f

pub named_object : (m : Known) (place : ℕ) (f : MemberSlots) (k : Bool) (o : Option Slot) → IsSameObject f (if k then named_known m place o f else f)
named_object m place f true (Some slot) = record { place = refl; role = refl }
named_object m place f other another = record { place = refl; role = refl }

pub member_object : (m : Known) (place : ℕ) (v : Tree) (f : MemberSlots) → IsSameObject f (member_taken place m v f)
member_object m place v f =
    let a = filled_object (due_after m f) v (named m place f) in
    let b = named_object m place f (is_known m) (slot_of m f) in
    record { place = a.place ∙ b.place; role = a.role ∙ b.role }

pub members_object : (ms : Members) (f : MemberSlots) → IsSameObject f (members_taken ms f)
members_object end_of_object f = record { place = refl; role = refl }
members_object (member place name end value more) f =
    let a = members_object more (member_taken place (known_of name) value f) in
    let b = member_object (known_of name) place value f in
    record { place = a.place ∙ b.place; role = a.role ∙ b.role }

-- ---- the slots

or_none : (o : Option Slot) → or_slot o None ≡ o
or_none None = refl
or_none (Some s) = refl

slots_step : (n name : Known) (place : ℕ) (value : Tree) (f : MemberSlots) (b : Bool) (rest : Option First) → is_known n ≡ true → same n name ≡ b
    → or_slot (slot_of n (member_taken place name value f)) (slot_from (uses f.role n) rest) ≡ or_slot (slot_of n f)
    (slot_from (uses f.role n) (if b then Some (record { name_at = place; value = value; faults = judge n value }) else rest))
slots_step n name place value f false rest k e = ap (λ o. or_slot o (slot_from (uses f.role n) rest)) (slot-other n name place value f k e)
slots_step n name place value f true rest k e =
    subst (λ m. or_slot (slot_of n (member_taken place m value f)) (slot_from (uses f.role n) rest) ≡ or_slot (slot_of n f)
    (slot_from (uses f.role n) (Some (record { name_at = place; value = value; faults = judge n value })))) (same_is n name e)
    (ap (λ o. or_slot o (slot_from (uses f.role n) rest)) (slot-own n place value f k)
    ∙ twice (slot_of n f) (record { name_at = place; value = value; faults = judge n value }) (uses f.role n) rest)
  where
    twice : (o : Option Slot) (x : First) (u : Bool) (rest : Option First)
        → or_slot (or_slot o (slot_from u (Some x))) (slot_from u rest) ≡ or_slot o (slot_from u (Some x))
    twice None x u rest = refl
    twice (Some s) x u rest = refl

pub slots_after : (n : Known) (ms : Members) (f : MemberSlots) → is_known n ≡ true
    → slot_of n (members_taken ms f) ≡ or_slot (slot_of n f) (slot_from (uses f.role n) (first n ms))
slots_after n end_of_object f k = sym (or_none (slot_of n f))
slots_after n (member place name end value more) f k =
    slots_after n more (member_taken place (known_of name) value f) k
    ∙ (ap (λ p. or_slot (slot_of n (member_taken place (known_of name) value f)) (slot_from (uses p n) (first n more)))
    (member_object (known_of name) place value f).role
    ∙ slots_step n (known_of name) place value f (same n (known_of name)) (first n more) k refl)

-- ---- the type

abbrev pub type_from : Option Slot → Option TypeValue → Option TypeValue → Option TypeValue
type_from (Some slot) had found = had
type_from None had None = had
type_from None had (Some value) = Some value

filled_type : (m : Known) (v : Tree) (f : MemberSlots) → same TypeName m ≡ false → (filled m v f).type_value ≡ f.type_value
filled_type TypeName v f e = cc
filled_type Coordinates v f e = refl
filled_type m v f e = ap (λ (g : MemberSlots). g.type_value) (joined_slots m (least (judge m v)) (slot_of m f) f)

pub named_type : (m : Known) (place : ℕ) (f : MemberSlots) (k : Bool) (o : Option Slot) → (if k then named_known m place o f else f).type_value ≡ f.type_value
named_type m place f true (Some slot) = refl
named_type m place f other another = refl

type_other : (m : Known) (place : ℕ) (v : Tree) (f : MemberSlots) → same TypeName m ≡ false → (member_taken place m v f).type_value ≡ f.type_value
type_other m place v f e = filled_type (due_after m f) v (named m place f) (due_other TypeName m (is_known m) (uses f.role m) (slot_of m f) f.role refl refl e)
    ∙ named_type m place f (is_known m) (slot_of m f)

uses_type : (p : Role) → uses p TypeName ≡ true
uses_type Role.Root = refl
uses_type _ = refl

-- the first `type` sets it
type_own : (place : ℕ) (v : Tree) (f : MemberSlots) (o : Option Slot) (u : Bool) (more : Option TypeValue)
    → uses f.role TypeName ≡ true → (f.slots TypeName) ≡ o
    → type_from (slot_of TypeName (filled (due_known TypeName o f.role) v (named_known TypeName place o f)))
    (filled (due_known TypeName o f.role) v (named_known TypeName place o f)).type_value more
    ≡ type_from o f.type_value (Some (record { place = place_of v; word = type_of v }))
type_own place v f (Some slot) u more i e = rw e refl
type_own place v f None u more i e = rw i refl

type_step : (name : Known) (place : ℕ) (value : Tree) (f : MemberSlots) (b : Bool) (rest : Option TypeValue) → same TypeName name ≡ b
    → type_from (slot_of TypeName (member_taken place name value f)) (member_taken place name value f).type_value rest
    ≡ type_from (f.slots TypeName) f.type_value
    (if b then Some (record { place = place_of value; word = type_of value }) else rest)
type_step name place value f false rest e = rw (slot-other TypeName name place value f refl e, type_other name place value f e) refl
type_step name place value f true rest e =
    subst (λ m. type_from (slot_of TypeName (member_taken place m value f)) (member_taken place m value f).type_value rest
    ≡ type_from (f.slots TypeName) f.type_value
    (Some (record { place = place_of value; word = type_of value }))) (same_is TypeName name e)
    (type_own place value f (f.slots TypeName) true rest (uses_type f.role) refl)

pub type_after : (ms : Members) (f : MemberSlots) → (members_taken ms f).type_value ≡ type_from (f.slots TypeName) f.type_value (first_type ms)
type_after end_of_object f = none (f.slots TypeName)
  where
    none : (o : Option Slot) → f.type_value ≡ type_from o f.type_value None
    none None = refl
    none (Some s) = refl
type_after (member place name end value more) f = type_after more (member_taken place (known_of name) value f)
    ∙ type_step (known_of name) place value f (same TypeName (known_of name)) (first_type more) refl

-- the first type stays, where it has come with its name
abbrev pub IsTyped : MemberSlots → Type 0
IsTyped f = is_some f.type_value ≡ is_some (f.slots TypeName)

type_stays : (t : Option Slot) (o x : Option TypeValue) → is_some o ≡ is_some t → TypeStays o (type_from t o x)
type_stays t None x e = tt
type_stays (Some slot) (Some value) x e = refl
type_stays None (Some value) x e = cc

pub stays_after : (ms : Members) (f : MemberSlots) → IsTyped f → TypeStays f.type_value (members_taken ms f).type_value
stays_after ms f h =
    subst (λ (o : Option TypeValue). TypeStays f.type_value o) (sym (type_after ms f)) (type_stays (f.slots TypeName) f.type_value (first_type ms) h)

typed_is : (t : Option Slot) (o : Option TypeValue) (b : Bool) (x : TypeValue) (y : First) → is_some o ≡ is_some t
    → is_some (type_from t o (if b then Some x else None)) ≡ is_some (or_slot t (slot_from true (if b then Some y else None)))
typed_is (Some slot) o true x y e = e
typed_is (Some slot) o false x y e = e
typed_is None o true x y e = refl
typed_is None o false x y e = e

pub typed_after : (place end : ℕ) (name : List ℕ) (value : Tree) (f : MemberSlots) → IsTyped f → IsTyped (member_taken place (known_of name) value f)
typed_after place end name value f h =
    let x : TypeValue = record { place = place_of value; word = type_of value } in
    let y : First = record { name_at = place; value = value; faults = judge TypeName value } in
    let slot = slots_after TypeName (member place name end value end_of_object) f refl in
    let used = ap (λ (u : Bool). or_slot (f.slots TypeName) (slot_from u (if same TypeName (known_of name) then Some y else None))) (uses_type f.role) in
    ap is_some (type_after (member place name end value end_of_object) f)
    ∙ (typed_is (f.slots TypeName) f.type_value (same TypeName (known_of name)) x y h
    ∙ sym (ap is_some (slot ∙ used)))

-- ---- the shapes

-- the type that has come before is known
abbrev pub shapes_from : Bool → Option Slot → Option TypeValue → Shapes → Option First → Shapes
shapes_from used (Some slot) known had found = had
shapes_from used None known had None = had
shapes_from used None known had (Some first) = if used then asked known (shapes_of first.value) else had

filled_shapes : (m : Known) (v : Tree) (f : MemberSlots) → same Coordinates m ≡ false → (filled m v f).shapes ≡ f.shapes
filled_shapes Coordinates v f e = cc
filled_shapes TypeName v f e = refl
filled_shapes m v f e = ap (λ (g : MemberSlots). g.shapes) (joined_slots m (least (judge m v)) (slot_of m f) f)

pub named_shapes : (m : Known) (place : ℕ) (f : MemberSlots) (k : Bool) (o : Option Slot) → (if k then named_known m place o f else f).shapes ≡ f.shapes
named_shapes m place f true (Some slot) = refl
named_shapes m place f other another = refl

shapes_other : (m : Known) (place : ℕ) (v : Tree) (f : MemberSlots) → same Coordinates m ≡ false → (member_taken place m v f).shapes ≡ f.shapes
shapes_other m place v f e =
    filled_shapes (due_after m f) v (named m place f) (due_other Coordinates m (is_known m) (uses f.role m) (slot_of m f) f.role refl refl e)
    ∙ named_shapes m place f (is_known m) (slot_of m f)

shapes_own : (place : ℕ) (v : Tree) (f : MemberSlots) (o : Option Slot) (u : Bool) → uses f.role Coordinates ≡ u → (f.slots Coordinates) ≡ o
    → (filled (due_known Coordinates o f.role) v (named_known Coordinates place o f)).shapes
    ≡ shapes_from u o f.type_value f.shapes (Some (record { name_at = place; value = v; faults = judge Coordinates v }))
shapes_own place v f (Some slot) u i e = refl
shapes_own place v f None true i e = rw i refl
shapes_own place v f None false i e = rw i refl

none_found : (o : Option Slot) (u : Bool) (known : Option TypeValue) (had : Shapes) → had ≡ shapes_from u o known had None
none_found None u known had = refl
none_found (Some s) u known had = refl

-- after one member
pub shapes_one : (name : Known) (place : ℕ) (value : Tree) (f : MemberSlots) (b : Bool) → same Coordinates name ≡ b
    → (member_taken place name value f).shapes
    ≡ shapes_from (uses f.role Coordinates) (f.slots Coordinates) f.type_value f.shapes
    (if b then Some (record { name_at = place; value = value; faults = judge Coordinates value }) else None)
shapes_one name place value f false e = shapes_other name place value f e ∙ none_found (f.slots Coordinates) (uses f.role Coordinates) f.type_value f.shapes
shapes_one name place value f true e =
    subst (λ m. (member_taken place m value f).shapes
    ≡ shapes_from (uses f.role Coordinates) (f.slots Coordinates) f.type_value f.shapes
    (Some (record { name_at = place; value = value; faults = judge Coordinates value }))) (same_is Coordinates name e)
    (shapes_own place value f (f.slots Coordinates) (uses f.role Coordinates) refl refl)

-- a member, and then others: what is asked for in the end is that of the first
asked_step : (end_type known : Option TypeValue) (u b : Bool) (o : Option Slot) (had : Shapes) (x : First) (rest : Option First) → TypeStays known end_type
    → asked end_type (shapes_from u (or_slot o (slot_from u (if b then Some x else None))) None (shapes_from u o known had (if b then Some x else None)) rest)
    ≡ asked end_type (shapes_from u o None had (if b then Some x else rest))
asked_step t known u true (Some slot) had x rest h = refl
asked_step t known true true None had x rest h = asked_twice known t (shapes_of x.value) h
asked_step t known false true None had x rest h = refl
asked_step t known u false (Some slot) had x rest h = refl
asked_step t known u false None had x rest h = refl

pub shapes_after : (ms : Members) (f : MemberSlots) → IsTyped f
    → asked (members_taken ms f).type_value (members_taken ms f).shapes
    ≡ asked (members_taken ms f).type_value (shapes_from (uses f.role Coordinates) (f.slots Coordinates) None f.shapes (first Coordinates ms))
shapes_after end_of_object f h = ap (asked f.type_value) (none_found (f.slots Coordinates) (uses f.role Coordinates) None f.shapes)
shapes_after (member place name end value more) f h =
    let m : Known = known_of name in
    let g : MemberSlots = member_taken place m value f in
    let t : Option TypeValue = (members_taken more g).type_value in
    let u : Bool = uses f.role Coordinates in
    let x : First = record { name_at = place; value = value; faults = judge Coordinates value } in
    let found : Option First = if same Coordinates m then Some x else None in
    shapes_after more g (typed_after place end name value f h)
    ∙ (ap (λ (p : Role). asked t (shapes_from (uses p Coordinates) (g.slots Coordinates) None g.shapes (first Coordinates more)))
    (member_object m place value f).role
    ∙ (ap (λ (o : Option Slot). asked t (shapes_from u o None g.shapes (first Coordinates more)))
    (slots_after Coordinates (member place name end value end_of_object) f refl)
    ∙ (ap (λ (s : Shapes). asked t (shapes_from u (or_slot (f.slots Coordinates) (slot_from u found)) None s (first Coordinates more)))
    (shapes_one m place value f (same Coordinates m) refl)
    ∙ asked_step t f.type_value u (same Coordinates m) (f.slots Coordinates) f.shapes x (first Coordinates more)
    (stays_after (member place name end value more) f h))))

-- ---- repeated names

filled_repeated : (m : Known) (v : Tree) (f : MemberSlots) → (filled m v f).repeated ≡ f.repeated
filled_repeated TypeName v f = refl
filled_repeated Coordinates v f = refl
filled_repeated m v f = ap (λ (g : MemberSlots). g.repeated) (joined_slots m (least (judge m v)) (slot_of m f) f)

-- a known name that was mentioned before
abbrev pub again : Bool → Bool → ℕ → List Fault
again known before place = if known && before then one place G10 else []

named_repeated : (m : Known) (place : ℕ) (f : MemberSlots) (k : Bool) (o : Option Slot)
    → (if k then named_known m place o f else f).repeated ≡ lesser f.repeated (least (again k (is_some o) place))
named_repeated m place f true (Some slot) = refl
named_repeated m place f other another = sym (lesser-none f.repeated)

-- the names of the slots that are set
pub record Mentions (before : List Known) (f : MemberSlots) : Type 0 where
  pub each : (n : Known) → is_known n ≡ true → is_some (slot_of n f) ≡ mentions before n

again_same : (k : Bool) (o : Option Slot) (b : Bool) (place : ℕ) → (k ≡ true → is_some o ≡ b) → again k (is_some o) place ≡ again k b place
again_same true o b place h = ap (λ x. again true x place) (h refl)
again_same false o b place h = refl

pub mentions_step : (before : List Known) (n name : Known) (place : ℕ) (value : Tree) (f : MemberSlots) (b : Bool) → Mentions before f → is_known n ≡ true
    → same n name ≡ b
    → is_some (slot_of n (member_taken place name value f)) ≡ (if b then true else mentions before n)
mentions_step before n name place value f false h k e = ap is_some (slot-other n name place value f k e) ∙ h.each n k
mentions_step before n name place value f true h k e =
    subst (λ m. is_some (slot_of n (member_taken place m value f)) ≡ true) (same_is n name e)
    (ap is_some (slot-own n place value f k) ∙ set (slot_of n f) (uses f.role n) (record { name_at = place; value = value; faults = judge n value }))
  where
    set : (o : Option Slot) (u : Bool) (x : First) → is_some (or_slot o (slot_from u (Some x))) ≡ true
    set None u x = refl
    set (Some s) u x = refl

pub repeated_after : (ms : Members) (before : List Known) (f : MemberSlots) → Mentions before f
    → (members_taken ms f).repeated ≡ lesser f.repeated (least (repeated before ms))
repeated_after end_of_object before f h = sym (lesser-none f.repeated)
repeated_after (member place name end value more) before f h =
    let found : List Fault = again (is_known (known_of name)) (mentions before (known_of name)) place in
    repeated_after more ((known_of name) ∷ before) (member_taken place (known_of name) value f)
    (record { each = λ n k. mentions_step before n (known_of name) place value f (same n (known_of name)) h k refl })
    ∙ (ap (λ x. lesser x (least (repeated ((known_of name) ∷ before) more)))
    (filled_repeated (due_after (known_of name) f) value (named (known_of name) place f)
    ∙ (named_repeated (known_of name) place f (is_known (known_of name)) (slot_of (known_of name) f)
    ∙ ap (λ xs. lesser f.repeated (least xs))
    (again_same (is_known (known_of name)) (slot_of (known_of name) f) (mentions before (known_of name)) place (h.each (known_of name)))))
    ∙ (lesser_assoc f.repeated (least found) (least (repeated ((known_of name) ∷ before) more))
    ∙ ap (λ x. lesser f.repeated x) (sym (least-append found (repeated ((known_of name) ∷ before) more)))))
