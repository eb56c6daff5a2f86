-- What all members make a frame gather.
use Rattle.gj_rules.proofs.Common.{Bool, Crs, Features, First, Frame, Geometries, Geometry, MemberWarnings, Members, Other, Role, Slot, Tree, W9}
use Rattle.gj_rules.proofs.Common.{Warnings, added_is, and_kept, ap, crs_warnings, due_known, end_of_object, false, first_kept, if◌then◌else◌}
use Rattle.gj_rules.proofs.Common.{is_known, joined_assoc, joined_none_first, joined_none_last, judge, member, or_none, refl, same, slot_of, subst}
use Rattle.gj_rules.proofs.Common.{sym, true, uses, warned_if, warning_at, warnings_of, warnings_of-append, warnings_of_none, [], ◌∙◌, ◌∷◌}
use Rattle.std.proofs.Common.{◌≡◌, ℕ, Option, Some, None}
use Rattle.gj_json.specs.declared.names.Known.{Known}
use Rattle.gj_json.specs.declared.names.Known.TheVariants.{Bbox}
use Rattle.gj_json.specs.Names.{known_of}
use Rattle.gj_coords.specs.Internal.KeptWarnings.{no_warnings, joined}
use Rattle.gj_coords.specs.Internal.WarningLaws.{joined_comm}
use Rattle.gj_rules.specs.Internal.FrameCalls.{due_after, member_taken, members_taken}
use Rattle.gj_rules.specs.Internal.GatheredWarnings.{gathered_any, gathered_at}
use Rattle.gj_rules.specs.Internal.TextKept.{judged_kept}
use Rattle.gj_rules.proofs.Objects.MemberSlots.{same_is}
use Rattle.gj_rules.proofs.Objects.OneMember.{due_other, slot-other, slot-own, or_slot, slot_from}
use Rattle.gj_rules.proofs.Objects.AllMembers.{member_object}

-- the slot of a name is set after its member
or_set : (o : Option Slot) (u : Bool) (x : First) → (s : Slot) × (or_slot o (slot_from u (Some x)) ≡ Some s)
or_set None u x = (_, refl)
or_set (Some s) u x = (s, refl)

own_set : (n : Known) (place : ℕ) (v : Tree) (f : Frame) → is_known n ≡ true → (s : Slot) × (slot_of n (member_taken place n v f).slots ≡ Some s)
own_set n place v f k =
    let h = or_set (slot_of n f.slots) (uses f.slots.role n) (record { name_at = place; value = v; faults = judge n v }) in
    (h.0, slot-own n place v f.slots k ∙ h.1)

-- ---- of the values that hold values with a role

abbrev pub IsHolder : Known → Type 0
IsHolder Geometries = Unit {0}
IsHolder Geometry = Unit {0}
IsHolder Features = Unit {0}
IsHolder _ = ⊥

holder_known : (n : Known) → IsHolder n → is_known n ≡ true
holder_known Geometries i = refl
holder_known Geometry i = refl
holder_known Features i = refl
holder_known _ i = absurd i

abbrev pub gathered_of : Known → MemberWarnings → Warnings
gathered_of Geometries g = g.geometries
gathered_of Geometry g = g.geometry
gathered_of Features g = g.features
gathered_of _ g = g.own

-- from what was gathered before, and what the first member has, if it is still to come
abbrev pub gathered_from : Bool → Option Slot → Warnings → Option Warnings → Warnings
gathered_from used (Some slot) had found = had
gathered_from true None had found = and_kept had found
gathered_from false None had found = had

any_other : (n m : Known) → IsHolder n → (w : Option Warnings) (g : MemberWarnings) → same n m ≡ false → gathered_of n (gathered_any m w g) ≡ gathered_of n g
any_other n m i None g e = refl
any_other Geometries Geometries i (Some w) g e = cc
any_other Geometry Geometry i (Some w) g e = cc
any_other Features Features i (Some w) g e = cc
any_other Geometries _ i (Some w) g e = refl
any_other Geometry _ i (Some w) g e = refl
any_other Features _ i (Some w) g e = refl
any_other _ m i (Some w) g e = absurd i

at_holder : (n m : Known) → IsHolder n → (place : ℕ) (g : MemberWarnings) → gathered_of n (gathered_at m place g) ≡ gathered_of n g
at_holder Geometries Crs i place g = refl
at_holder Geometry Crs i place g = refl
at_holder Features Crs i place g = refl
at_holder Geometries _ i place g = refl
at_holder Geometry _ i place g = refl
at_holder Features _ i place g = refl
at_holder _ m i place g = absurd i

any_own : (n : Known) → IsHolder n → (place : ℕ) (w : Option Warnings) (g : MemberWarnings)
    → gathered_of n (gathered_any n w (gathered_at n place g)) ≡ and_kept (gathered_of n g) w
any_own Geometries i place None g = refl
any_own Geometries i place (Some w) g = refl
any_own Geometry i place None g = refl
any_own Geometry i place (Some w) g = refl
any_own Features i place None g = refl
any_own Features i place (Some w) g = refl
any_own _ i place w g = absurd i

-- a member of another name
holder_other : (n m : Known) → IsHolder n → (place : ℕ) (v : Tree) (f : Frame) → same n m ≡ false
    → gathered_of n (member_taken place m v f).gathered ≡ gathered_of n f.gathered
holder_other n m i place v f e =
    any_other n (due_after m f) i (judged_kept (due_after m f) v) (gathered_at m place f.gathered)
    (due_other n m (is_known m) (uses f.slots.role m) (slot_of m f.slots) f.slots.role refl (holder_known n i) e)
    ∙ at_holder n m i place f.gathered

-- a member of its own name
holder_due : (n : Known) → IsHolder n → (place : ℕ) (v : Tree) (g : MemberWarnings) (o : Option Slot) (u : Bool) (role : Role) → uses role n ≡ u
    → gathered_of n (gathered_any (due_known n o role) (judged_kept (due_known n o role) v) (gathered_at n place g)) ≡ gathered_from u o (gathered_of n g)
    (judged_kept n v)
holder_due n i place v g (Some s) u role e = at_holder n n i place g
holder_due n i place v g None true role e = rw e (any_own n i place (judged_kept n v) g)
holder_due n i place v g None false role e = rw e (at_holder n n i place g)

holder_own : (n : Known) → IsHolder n → (place : ℕ) (v : Tree) (f : Frame)
    → gathered_of n (member_taken place n v f).gathered ≡ gathered_from (uses f.slots.role n) (slot_of n f.slots) (gathered_of n f.gathered) (judged_kept n v)
holder_own n i place v f =
    let o : Option Slot = slot_of n f.slots in
    subst (λ (b : Bool). gathered_of n (gathered_any (if b then due_known n o f.slots.role else Other)
    (judged_kept (if b then due_known n o f.slots.role else Other) v) (gathered_at n place f.gathered))
    ≡ gathered_from (uses f.slots.role n) o (gathered_of n f.gathered) (judged_kept n v)) (sym (holder_known n i))
    (holder_due n i place v f.gathered o (uses f.slots.role n) f.slots.role refl)

from_set : (u : Bool) (o : Option Slot) (s : Slot) (had : Warnings) (found : Option Warnings) → o ≡ Some s → gathered_from u o had found ≡ had
from_set u o s had found e = rw e refl

holder_step : (n m : Known) → IsHolder n → (place : ℕ) (v : Tree) (f : Frame) (b : Bool) (rest : Option Warnings) → same n m ≡ b
    → gathered_from (uses f.slots.role n) (slot_of n (member_taken place m v f).slots) (gathered_of n (member_taken place m v f).gathered) rest
    ≡ gathered_from (uses f.slots.role n) (slot_of n f.slots) (gathered_of n f.gathered) (if b then judged_kept n v else rest)
holder_step n m i place v f false rest e =
    ap (λ (o : Option Slot). gathered_from (uses f.slots.role n) o (gathered_of n (member_taken place m v f).gathered) rest)
    (slot-other n m place v f.slots (holder_known n i) e)
    ∙ ap (λ (w : Warnings). gathered_from (uses f.slots.role n) (slot_of n f.slots) w rest) (holder_other n m i place v f e)
holder_step n m i place v f true rest e =
    subst (λ (q : Known). gathered_from (uses f.slots.role n) (slot_of n (member_taken place q v f).slots)
    (gathered_of n (member_taken place q v f).gathered) rest
    ≡ gathered_from (uses f.slots.role n) (slot_of n f.slots) (gathered_of n f.gathered) (judged_kept n v)) (same_is n m e)
    (let s = own_set n place v f (holder_known n i) in
    from_set (uses f.slots.role n) (slot_of n (member_taken place n v f).slots) s.0 (gathered_of n (member_taken place n v f).gathered) rest s.1
    ∙ holder_own n i place v f)

none_from : (u : Bool) (o : Option Slot) (had : Warnings) → had ≡ gathered_from u o had None
none_from u (Some s) had = refl
none_from true None had = refl
none_from false None had = refl

pub gathered_after : (n : Known) → IsHolder n → (ms : Members) (f : Frame)
    → gathered_of n (members_taken ms f).gathered ≡ gathered_from (uses f.slots.role n) (slot_of n f.slots) (gathered_of n f.gathered) (first_kept n ms)
gathered_after n i end_of_object f = none_from (uses f.slots.role n) (slot_of n f.slots) (gathered_of n f.gathered)
gathered_after n i (member place name end value more) f =
    let g : Frame = member_taken place (known_of name) value f in
    gathered_after n i more g
    ∙ (ap (λ (r : Role). gathered_from (uses r n) (slot_of n g.slots) (gathered_of n g.gathered) (first_kept n more))
    (member_object (known_of name) place value f.slots).role
    ∙ holder_step n (known_of name) i place value f (same n (known_of name)) (first_kept n more) refl)

-- ---- of `crs` and `bbox`

-- of the first `bbox`, if it is still to come
abbrev pub own_from : Option Slot → Option Warnings → Option Warnings
own_from (Some slot) found = None
own_from None found = found

nothing_more : (w : Warnings) → joined (joined w (warnings_of [])) no_warnings ≡ w
nothing_more w = joined_none_last (joined w (warnings_of [])) ∙ (ap (joined w) warnings_of_none ∙ joined_none_last w)

any_not_bbox : (m : Known) (w : Option Warnings) (g : MemberWarnings) → same Bbox m ≡ false → (gathered_any m w g).own ≡ g.own
any_not_bbox m None g e = refl
any_not_bbox Bbox (Some w) g e = cc
any_not_bbox other (Some w) g e = refl

at_not_crs : (m : Known) (place : ℕ) (g : MemberWarnings) → same Crs m ≡ false → (gathered_at m place g).own ≡ g.own
at_not_crs Crs place g e = cc
at_not_crs _ place g e = refl

bbox_due : (place : ℕ) (v : Tree) (g : MemberWarnings) (o : Option Slot) (role : Role)
    → (gathered_any (due_known Bbox o role) (judged_kept (due_known Bbox o role) v) g).own ≡ joined (joined g.own (warnings_of []))
    (or_none (own_from o (judged_kept Bbox v)))
bbox_due place v g (Some s) role = sym (nothing_more g.own)
bbox_due place v g None role =
    rw (uses_bbox role) (ap (λ (w : Warnings). joined w (or_none (judged_kept Bbox v))) (sym (ap (joined g.own) warnings_of_none ∙ joined_none_last g.own)))
  where
    uses_bbox : (role : Role) → uses role Bbox ≡ true
    uses_bbox Role.Root = refl
    uses_bbox _ = refl

-- what a member adds: b says that it is a `bbox`, and c that it is a `crs`
abbrev pub added_own : Bool → Bool → ℕ → Tree → Option Slot → Warnings → Warnings
added_own b c place v o had = joined (joined had (warnings_of (warned_if c place W9))) (or_none (if b then own_from o (judged_kept Bbox v) else None))

own_step : (m : Known) (place : ℕ) (v : Tree) (f : Frame) (b c : Bool) → same Bbox m ≡ b → same Crs m ≡ c
    → (member_taken place m v f).gathered.own ≡ added_own b c place v (slot_of Bbox f.slots) f.gathered.own
own_step Bbox place v f b c d e = rw (← d, ← e) (bbox_due place v f.gathered (slot_of Bbox f.slots) f.slots.role)
own_step Crs place v f b c d e =
    rw (← d, ← e) (added_is f.gathered.own W9 place ∙ sym (joined_none_last (joined f.gathered.own (warnings_of (warning_at place W9 ∷ [])))))
own_step _ place v f true c d e = cc
own_step _ place v f false true d e = cc
own_step m place v f false false d e =
    any_not_bbox (due_after m f) (judged_kept (due_after m f) v) (gathered_at m place f.gathered)
    (due_other Bbox m (is_known m) (uses f.slots.role m) (slot_of m f.slots) f.slots.role refl refl d)
    ∙ (at_not_crs m place f.gathered e ∙ sym (nothing_more f.gathered.own))

-- what the first `bbox` adds after a member
own_from_set : (o : Option Slot) (s : Slot) (found : Option Warnings) → o ≡ Some s → own_from o found ≡ None
own_from_set o s found e = rw e refl

later_own : (m : Known) (place : ℕ) (v : Tree) (f : Frame) (b : Bool) (found : Option Warnings) → same Bbox m ≡ b
    → own_from (slot_of Bbox (member_taken place m v f).slots) found ≡ (if b then None else own_from (slot_of Bbox f.slots) found)
later_own m place v f false found e = ap (λ (o : Option Slot). own_from o found) (slot-other Bbox m place v f.slots refl e)
later_own m place v f true found e =
    subst (λ (q : Known). own_from (slot_of Bbox (member_taken place q v f).slots) found ≡ None) (same_is Bbox m e)
    (let s = own_set Bbox place v f refl in own_from_set (slot_of Bbox (member_taken place Bbox v f).slots) s.0 found s.1)

first_own : (b : Bool) (o : Option Slot) (here later : Option Warnings)
    → joined (or_none (if b then own_from o here else None)) (or_none (if b then None else own_from o later)) ≡ or_none (own_from o (if b then here else later))
first_own true o here later = joined_none_last (or_none (own_from o here))
first_own false o here later = joined_none_first (or_none (own_from o later))

shuffle : (o x y c z : Warnings) → joined (joined (joined o x) y) (joined c z) ≡ joined o (joined (joined x c) (joined y z))
shuffle o x y c z =
    joined_assoc (joined o x) y (joined c z)
    ∙ (joined_assoc o x (joined y (joined c z))
    ∙ ap (joined o)
    (ap (joined x) (sym (joined_assoc y c z) ∙ (ap (λ (w : Warnings). joined w z) (joined_comm y c) ∙ joined_assoc c y z))
    ∙ sym (joined_assoc x c (joined y z))))

pub own_after : (ms : Members) (f : Frame)
    → (members_taken ms f).gathered.own ≡ joined f.gathered.own
    (joined (warnings_of (crs_warnings ms)) (or_none (own_from (slot_of Bbox f.slots) (first_kept Bbox ms))))
own_after end_of_object f =
    sym (ap (joined f.gathered.own) (ap (joined (warnings_of [])) (none (slot_of Bbox f.slots)))
    ∙ (sym (joined_assoc f.gathered.own (warnings_of []) no_warnings) ∙ nothing_more f.gathered.own))
  where
    none : (o : Option Slot) → or_none (own_from o None) ≡ no_warnings
    none None = refl
    none (Some s) = refl
own_after (member place name end value more) f =
    let m : Known = known_of name in
    let g : Frame = member_taken place m value f in
    let o : Option Slot = slot_of Bbox f.slots in
    let had : Warnings = f.gathered.own in
    let x : Warnings = warnings_of (warned_if (same Crs m) place W9) in
    let y : Warnings = or_none (if same Bbox m then own_from o (judged_kept Bbox value) else None) in
    let z : Warnings = or_none (if same Bbox m then None else own_from o (first_kept Bbox more)) in
    let c : Warnings = warnings_of (crs_warnings more) in
    let e : g.gathered.own ≡ joined (joined had x) y = own_step m place value f (same Bbox m) (same Crs m) refl refl in
    let l : or_none (own_from (slot_of Bbox g.slots) (first_kept Bbox more)) ≡ z =
    ap or_none (later_own m place value f (same Bbox m) (first_kept Bbox more) refl) in
    own_after more g
    ∙ (ap (λ (w : Warnings). joined w (joined c (or_none (own_from (slot_of Bbox g.slots) (first_kept Bbox more))))) e
    ∙ (ap (λ (w : Warnings). joined (joined (joined had x) y) (joined c w)) l
    ∙ (shuffle had x y c z
    ∙ (ap (λ (w : Warnings). joined had (joined w (joined y z))) (sym (warnings_of-append (warned_if (same Crs m) place W9) (crs_warnings more)))
    ∙ ap (λ (w : Warnings). joined had (joined (warnings_of (crs_warnings (member place name end value more))) w))
    (first_own (same Bbox m) o (judged_kept Bbox value) (first_kept Bbox more))))))
