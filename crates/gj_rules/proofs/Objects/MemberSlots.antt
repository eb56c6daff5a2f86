-- The slots of what an object has shown.
use Rattle.gj_rules.proofs.Common.{Bool, Fault, MemberSlots, Slot, ap, false, fun_ext, if◌then◌else◌, is_known, joined_to, lesser, lesser-none}
use Rattle.gj_rules.proofs.Common.{lesser_assoc, refl, rules, same, slot_of, sym, true, with_slot, ◌∙◌}
use denote.Enum.Bare.{same_true, true_same}
use Rattle.std.proofs.Common.{◌≡◌, Option, Some, None}
use Rattle.gj_json.specs.declared.names.Known.{Known}
use Rattle.gj_json.specs.contracts.names.Known.{the_type}
use Rattle.gj_rules.specs.Internal.OpenMembers.{joined}

-- names that are the same
pub same_is : (a b : Known) → same a b ≡ true → a ≡ b
same_is a b e = same_true the_type (search rules) a b e

same_self : (name : Known) → same name name ≡ true
same_self name = true_same the_type name name refl

-- a slot that was set already is what setting it leaves
with_slot-same : (name : Known) (slot : Slot) (f : MemberSlots) → slot_of name f ≡ Some slot → with_slot name slot f ≡ f
with_slot-same name slot f e =
    ap (λ (slots : Known → Option Slot). record f { slots = slots }) (fun_ext (λ n. go n (is_known name) (same n name) refl refl))
  where
    go : (n : Known) (k b : Bool) → is_known name ≡ k → same n name ≡ b → (if b then Some slot else f.slots n) ≡ f.slots n
    go n k false i h = refl
    go n true true i h = sym (ap f.slots (same_is n name h) ∙ rw i at e)
    go n false true i h = (let l : None ≡ Some slot = rw i at e in cc)

with_slot-twice : (name : Known) (s t : Slot) (f : MemberSlots) → with_slot name t (with_slot name s f) ≡ with_slot name t f
with_slot-twice name s t f = ap (λ (slots : Known → Option Slot). record f { slots = slots }) (fun_ext (λ n. go (same n name) (f.slots n)))
  where
    go : (b : Bool) (o : Option Slot) → (if b then Some t else (if b then Some s else o)) ≡ (if b then Some t else o)
    go true o = refl
    go false o = refl

pub slot_of-with : (name : Known) (s : Slot) (f : MemberSlots) → is_known name ≡ true → slot_of name (with_slot name s f) ≡ Some s
slot_of-with name s f e = rw (e, same_self name) refl

-- no other fault changes nothing
none_joined : (name : Known) (f : MemberSlots) (o : Option Slot) → slot_of name f ≡ o → joined_to name None o f ≡ f
none_joined name f None e = refl
none_joined name f (Some slot) e =
    with_slot-same name (record { name_at = slot.name_at; fault = lesser slot.fault None }) f
    (e ∙ ap (λ (x : Option Fault). Some (record { name_at = slot.name_at; fault = x })) (sym (lesser-none slot.fault)))

pub joined-none : (name : Known) (f : MemberSlots) → joined name None f ≡ f
joined-none name f = none_joined name f (slot_of name f) refl

-- two faults are joined one after the other
both_joined : (name : Known) (f : MemberSlots) (a b : Option Fault) (o : Option Slot) → slot_of name f ≡ o → is_known name ≡ true
    → joined name b (joined_to name a o f) ≡ joined_to name (lesser a b) o f
both_joined name f a b None e k = ap (λ (o : Option Slot). joined_to name b o f) e
both_joined name f a b (Some slot) e k =
    let s : Slot = record { name_at = slot.name_at; fault = lesser slot.fault a } in
    ap (λ (o : Option Slot). joined_to name b o (with_slot name s f)) (slot_of-with name s f k)
    ∙ (with_slot-twice name s (record { name_at = slot.name_at; fault = lesser (lesser slot.fault a) b }) f
    ∙ ap (λ (x : Option Fault). with_slot name (record { name_at = slot.name_at; fault = x }) f) (lesser_assoc slot.fault a b))

pub joined-twice : (name : Known) (f : MemberSlots) (a b : Option Fault) → is_known name ≡ true → joined name b (joined name a f) ≡ joined name (lesser a b) f
joined-twice name f a b k = both_joined name f a b (slot_of name f) refl k
