-- What one member does to what an object has shown.
use Rattle.gj_rules.proofs.Common.{Bool, Coordinates, Crs, Fault, First, MemberSlots, Other, Role, Slot, Tree, TypeName, due_known, false}
use Rattle.gj_rules.proofs.Common.{if◌then◌else◌, is_known, joined_to, judge, least, lesser, named_known, refl, same, slot_of, subst, sym, true, uses}
use Rattle.gj_rules.proofs.Common.{with_slot, ◌∙◌}
use Rattle.std.proofs.Common.{◌≡◌, ℕ, Option, Some, None}
use Rattle.gj_json.specs.declared.names.Known.{Known}
use Rattle.gj_rules.specs.Internal.OpenMembers.{named, due_after}
use Rattle.gj_rules.specs.Internal.OpenMembers.{filled, member_taken}
use Rattle.gj_rules.proofs.Objects.MemberSlots.{slot_of-with}

-- ---- names

pub other_same : (n : Known) → is_known n ≡ true → same n Other ≡ false
other_same Other k = cc
other_same Crs k = cc
other_same _ k = refl

-- ---- slots of other names

pub slot_of-other : (n m : Known) (s : Slot) (f : MemberSlots) → same n m ≡ false → slot_of n (with_slot m s f) ≡ slot_of n f
slot_of-other n m s f e = rw e refl

joined_other : (n m : Known) (x : Option Fault) (o : Option Slot) (f : MemberSlots) → same n m ≡ false → slot_of n (joined_to m x o f) ≡ slot_of n f
joined_other n m x None f e = refl
joined_other n m x (Some slot) f e = slot_of-other n m (record { name_at = slot.name_at; fault = lesser slot.fault x }) f e

filled_other : (n m : Known) (v : Tree) (f : MemberSlots) → same n m ≡ false → slot_of n (filled m v f) ≡ slot_of n f
filled_other n TypeName v f e = refl
filled_other n Coordinates v f e = refl
filled_other n m v f e = joined_other n m (least (judge m v)) (slot_of m f) f e

named_other : (n m : Known) (place : ℕ) (f : MemberSlots) (k : Bool) (o : Option Slot) → same n m ≡ false
    → slot_of n (if k then named_known m place o f else f) ≡ slot_of n f
named_other n m place f true (Some slot) e = refl
named_other n m place f true None e = slot_of-other n m (record { name_at = place; fault = None }) f e
named_other n m place f false o e = refl

pub due_other : (n m : Known) (k u : Bool) (o : Option Slot) (role : Role) → uses role m ≡ u → is_known n ≡ true → same n m ≡ false
    → same n (if k then due_known m o role else Other) ≡ false
due_other n m true u (Some slot) role i a e = other_same n a
due_other n m true true None role i a e = rw i e
due_other n m true false None role i a e = rw i (other_same n a)
due_other n m false u o role i a e = other_same n a

pub slot-other : (n m : Known) (place : ℕ) (v : Tree) (f : MemberSlots) → is_known n ≡ true → same n m ≡ false
    → slot_of n (member_taken place m v f) ≡ slot_of n f
slot-other n m place v f a e =
    filled_other n (due_after m f) v (named m place f) (due_other n m (is_known m) (uses f.role m) (slot_of m f) f.role refl a e)
    ∙ named_other n m place f (is_known m) (slot_of m f) e

-- ---- the slot of its own name

abbrev pub or_slot : Option Slot → Option Slot → Option Slot
or_slot None other = other
or_slot (Some slot) other = Some slot

abbrev pub slot_from : Bool → Option First → Option Slot
slot_from used None = None
slot_from used (Some first) = Some (record { name_at = first.name_at; fault = if used then least first.faults else None })

filled_own : (m : Known) (place : ℕ) (v : Tree) (f : MemberSlots) → is_known m ≡ true
    → slot_of m (filled m v (with_slot m (record { name_at = place; fault = None }) f)) ≡ Some (record { name_at = place; fault = least (judge m v) })
filled_own Other place v f k = cc
filled_own Crs place v f k = cc
filled_own _ place v f k = refl

own_slot : (m : Known) (place : ℕ) (v : Tree) (f : MemberSlots) (u : Bool) (o : Option Slot) → uses f.role m ≡ u → slot_of m f ≡ o → is_known m ≡ true
    → slot_of m (filled (due_known m o f.role) v (named_known m place o f)) ≡ or_slot o
    (slot_from u (Some (record { name_at = place; value = v; faults = judge m v })))
own_slot m place v f u (Some slot) i e k = e
own_slot m place v f true None i e k = rw i (filled_own m place v f k)
own_slot m place v f false None i e k = rw i (slot_of-with m (record { name_at = place; fault = None }) f k)

pub slot-own : (m : Known) (place : ℕ) (v : Tree) (f : MemberSlots) → is_known m ≡ true
    → slot_of m (member_taken place m v f) ≡ or_slot (slot_of m f)
    (slot_from (uses f.role m) (Some (record { name_at = place; value = v; faults = judge m v })))
slot-own m place v f k =
    let o : Option Slot = slot_of m f in
    subst (λ (b : Bool). slot_of m (filled (if b then due_known m o f.role else Other) v (if b then named_known m place o f else f))
    ≡ or_slot o (slot_from (uses f.role m) (Some (record { name_at = place; value = v; faults = judge m v })))) (sym k)
    (own_slot m place v f (uses f.role m) o refl refl k)
