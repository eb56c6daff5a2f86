-- The slots of an object lie by the places of their names, and a bit of a byte says of each whether it counts.
use Rattle.gj_rules.proofs.Common.{Bool, Crs, Fault, IsTrue, List, MemberSlots, Other, Slot, ap, arith, bit_and, false, fun_ext, get_or}
use Rattle.gj_rules.proofs.Common.{if◌then◌else◌, is_known, length, nat_eq, nat_tests, refl, slot_of, slots_in, sym, true, with_slot, ◌*◌, ◌<◌, ◌^◌}
use Rattle.gj_rules.proofs.Common.{◌≤◌}
use Rattle.std.proofs.Common.{◌≡◌, ◌≢◌, ℕ, ◌/◌, ◌%◌, leb}
use Rattle.std.proofs.Common.{slice_set, bit_or, Option, Some, None, w8}
use Rattle.std.specs.Int.{bit_at, bit_not}
use Rattle.std.proofs.lemmas.Nat.Bits.{shr_and_one, bit_at_and, bit_at_above, bit_at_set_same, bit_at_set_other, bit_at_clear_same, bit_at_clear_other}
use Rattle.std.proofs.lemmas.List.{get_or-set_same, get_or-set_other}
use Rattle.gj_json.specs.declared.names.Known.{Known}
use Rattle.gj_rules.specs.declared.member_slots.MemberSlots as DW
use Rattle.gj_rules.specs.Internal.FrameReading.{unset_fault, counted_slot, slot_in}
use Rattle.gj_rules.specs.Internal.MemberRules.{index_of}

-- ---- one slot

known_at : (name : Known) → index_of name < 8 → is_known name ≡ true
known_at Crs h = absurd (omega arith)
known_at Other h = absurd (omega arith)
known_at _ h = refl

not_one : (n : ℕ) → n ≢ 1 → nat_eq n 1 ≡ false
not_one n e = grind (arith, nat_tests)

pub slot_there : (name : Known) (x : DW.MemberSlots) → index_of name < 8 → bit_and (x.present / 2 ^ index_of name) 1 ≡ 1
    → Some (counted_slot x.faulty x.names_at x.faults (index_of name)) ≡ slot_of name (slots_in x)
unfolding slot_in
slot_there name x h e = rw (known_at name h, ← shr_and_one x.present (index_of name), e) refl

pub slot_not_there : (name : Known) (x : DW.MemberSlots) → index_of name < 8 → bit_and (x.present / 2 ^ index_of name) 1 ≢ 1
    → None ≡ slot_of name (slots_in x)
unfolding slot_in
slot_not_there name x h e =
    let t : nat_eq (bit_at x.present (index_of name)) 1 ≡ false =
    not_one (bit_at x.present (index_of name)) (rw (← shr_and_one x.present (index_of name)) e) in
    rw (known_at name h, t) refl

pub slot_past : (name : Known) (f : MemberSlots) → 8 ≤ index_of name → None ≡ slot_of name f
slot_past Crs f h = refl
slot_past Other f h = refl
slot_past _ f h = absurd (omega arith)

-- ---- setting one

pub below : (name : Known) → IsTrue (is_known name) → index_of name < 8
below Crs h = cc
below Other h = cc
below _ h = omega arith

-- where the bits of the others stay, and that of the slot says whether it has a fault
set_in : (present faulty more : ℕ) (names_at : List ℕ) (faults new : List Fault) (i k : ℕ) (s : Slot) → i < 8 → length names_at ≡ 8
    → (k ≢ i → (bit_at more k ≡ bit_at faulty k) × (get_or new k unset_fault ≡ get_or faults k unset_fault))
    → (if nat_eq (bit_at more i) 1 then Some (get_or new i unset_fault) else None) ≡ s.fault
    → slot_in (bit_or present (1 * 2 ^ i % 256)) more (slice_set names_at i s.name_at) new k
    ≡ (if nat_eq k i then Some s else slot_in present faulty names_at faults k)
unfolding slot_in
set_in present faulty more names_at faults new i k s h l others own = go (nat_eq k i) refl
  where
    go : (b : Bool) → nat_eq k i ≡ b
        → slot_in (bit_or present (1 * 2 ^ i % 256)) more (slice_set names_at i s.name_at) new k
        ≡ (if b then Some s else slot_in present faulty names_at faults k)
    go true e =
        let same : k ≡ i = grind (arith, nat_tests) in
        rw (same, bit_at_set_same w8 present i h, get_or-set_same names_at i s.name_at 0 (omega arith), own) refl
    go false e =
        let other : k ≢ i = grind (arith, nat_tests) in
        rw (bit_at_set_other w8 present i h k other, (others other).0, (others other).1, get_or-set_other names_at i k s.name_at 0 other) refl

set_with : (name : Known) (s : Slot) (x : DW.MemberSlots) (more : ℕ) (new : List Fault) → IsTrue (is_known name) → length x.names_at ≡ 8
    → ((k : ℕ) → k ≢ index_of name → (bit_at more k ≡ bit_at x.faulty k) × (get_or new k unset_fault ≡ get_or x.faults k unset_fault))
    → (if nat_eq (bit_at more (index_of name)) 1 then Some (get_or new (index_of name) unset_fault) else None) ≡ s.fault
    → slots_in (record x {
      present = bit_or x.present (1 * 2 ^ index_of name % 256);
      faulty = more;
      names_at = slice_set x.names_at (index_of name) s.name_at;
      faults = new;
    }) ≡ with_slot name s (slots_in x)
set_with name s x more new h l others own =
    ap (λ (slots : Known → Option Slot). record (slots_in x) { slots = slots })
    (fun_ext (λ n.
    set_in x.present x.faulty more x.names_at x.faults new (index_of name) (index_of n) s (below name h) l (others (index_of n)) own))

cleared_other : (n k i : ℕ) → n < 256 → k < 8 → i ≢ k → bit_at (bit_and n (bit_not w8 (1 * 2 ^ k % 256))) i ≡ bit_at n i
cleared_other n k i low h other = go (leb 8 i) refl
  where
    go : (b : Bool) → leb 8 i ≡ b → bit_at (bit_and n (bit_not w8 (1 * 2 ^ k % 256))) i ≡ bit_at n i
    go true e =
        let above : 8 ≤ i = grind (arith, nat_tests) in
        rw (bit_at_and n (bit_not w8 (1 * 2 ^ k % 256)) i, bit_at_above n 8 i low above) (omega arith)
    go false e = bit_at_clear_other w8 n k h i (grind (arith, nat_tests)) other

pub sound_set : (name : Known) (s : Slot) (x : DW.MemberSlots) → IsTrue (is_known name) → length x.names_at ≡ 8 → x.faulty < 256 → s.fault ≡ None
    → slots_in (record x {
      present = bit_or x.present (1 * 2 ^ index_of name % 256);
      faulty = bit_and x.faulty (bit_not w8 (1 * 2 ^ index_of name % 256));
      names_at = slice_set x.names_at (index_of name) s.name_at;
    }) ≡ with_slot name s (slots_in x)
sound_set name s x h l low e =
    set_with name s x (bit_and x.faulty (bit_not w8 (1 * 2 ^ index_of name % 256))) x.faults h l
    (λ k o. (cleared_other x.faulty (index_of name) k low (below name h) o, refl)) (rw (bit_at_clear_same w8 x.faulty (index_of name) (below name h)) (sym e))

pub faulty_set : (name : Known) (s : Slot) (fault : Fault) (x : DW.MemberSlots) → IsTrue (is_known name) → length x.names_at ≡ 8 → length x.faults ≡ 8
    → s.fault ≡ Some fault
    → slots_in (record x {
      present = bit_or x.present (1 * 2 ^ index_of name % 256);
      faulty = bit_or x.faulty (1 * 2 ^ index_of name % 256);
      names_at = slice_set x.names_at (index_of name) s.name_at;
      faults = slice_set x.faults (index_of name) fault;
    }) ≡ with_slot name s (slots_in x)
faulty_set name s fault x h l m e =
    set_with name s x (bit_or x.faulty (1 * 2 ^ index_of name % 256)) (slice_set x.faults (index_of name) fault) h l
    (λ k o.
    (bit_at_set_other w8 x.faulty (index_of name) (below name h) k o, get_or-set_other x.faults (index_of name) k fault unset_fault o))
    (rw (bit_at_set_same w8 x.faulty (index_of name) (below name h), get_or-set_same x.faults (index_of name) fault unset_fault (rw m (below name h))) (sym e))
