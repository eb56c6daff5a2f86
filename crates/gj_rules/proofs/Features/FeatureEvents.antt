-- The events of a text report what is found in its features, each with the last event of the feature.
use Rattle.gj_rules.proofs.Common.{Bool, False, Features, Null, True, judge, least, Frame, Geometries, Geometry, Id, List, Members, Other, Role, Slot, Text, Tree, ap, append_assoc}
use Rattle.gj_rules.proofs.Common.{arith, array, blank, complete_at, constant, depth, due_known, element, elements_if, end_of_array, end_of_object, false}
use Rattle.gj_rules.proofs.Common.{features_of, first_value, if◌then◌else◌, is_known, items, length, member, most_levels, object, refl, same}
use Rattle.gj_rules.proofs.Common.{slot_of, start, subst, suc, sym, text_told, true, uses, [], ◌++◌, ◌+◌, ◌∙◌, ◌∷◌, ◌≤◌, MOST_FRAMES}
use Rattle.std.proofs.Common.{◌≡◌, ℕ, Option, Some, None, append-nil}
use Rattle.std.proofs.lemmas.List.{length-append}
use Rattle.gj_json.specs.declared.names.Known.{Known}
use Rattle.gj_json.specs.Names.{known_of}
use Rattle.gj_json.specs.Tree as Tree
use Rattle.gj_rules.specs.Internal.FrameCalls.{named, due_after, member_taken}
use Rattle.gj_rules.specs.Internal.FeatureSteps.{Heard, TimedFeature, unheard, hears, ended, feature_of, timed_from}
use Rattle.gj_rules.proofs.Features.HeardTrees.{element_heard, elements_heard, due_heard, members_heard, object_heard, root_heard}
use Rattle.gj_rules.proofs.Objects.AllMembers.{member_object, named_object}
use Rattle.gj_rules.proofs.Objects.MemberSlots.{same_is}
use Rattle.gj_rules.proofs.Objects.OneMember.{due_other, other_same, slot-other, slot-own, or_slot}
use Rattle.gj_rules.proofs.Texts.ValuesByEvents.{heard_in}

-- ---- which values are looked at

-- those of a name that no type of the role uses are not
pub due_unused : (n m : Known) (f : Frame) → is_known n ≡ true → uses f.slots.role n ≡ false → same n (due_after m f) ≡ false
due_unused n m f k u = split (same n m) refl
  where
    own : (b : Bool) (o : Option Slot) → same n (if b then due_known n o f.slots.role else Other) ≡ false
    own false o = other_same n k
    own true (Some slot) = other_same n k
    own true None = rw u (other_same n k)

    split : (b : Bool) → same n m ≡ b → same n (due_after m f) ≡ false
    split false e = due_other n m (is_known m) (uses f.slots.role m) (slot_of m f.slots) f.slots.role refl k e
    split true e = subst (λ x. same n (due_after x f) ≡ false) (same_is n m e) (own (is_known n) (slot_of n f.slots))

-- nor those of a name that has come before
due_once : (n m : Known) (f : Frame) (slot : Slot) → is_known n ≡ true → slot_of n f.slots ≡ Some slot → same n (due_after m f) ≡ false
due_once n m f slot k h = split (same n m) refl
  where
    own : (b : Bool) (o : Option Slot) → o ≡ Some slot → same n (if b then due_known n o f.slots.role else Other) ≡ false
    own false o e = other_same n k
    own true (Some slot) e = other_same n k
    own true None e = cc

    split : (b : Bool) → same n m ≡ b → same n (due_after m f) ≡ false
    split false e = due_other n m (is_known m) (uses f.slots.role m) (slot_of m f.slots) f.slots.role refl k e
    split true e = subst (λ x. same n (due_after x f) ≡ false) (same_is n m e) (own (is_known n) (slot_of n f.slots) h)

pub named_role : (k : Known) (place : ℕ) (f : Frame) → (named k place f).slots.role ≡ f.slots.role
named_role k place f = (named_object k place f.slots (is_known k) (slot_of k f.slots)).role

-- ---- values in which no feature is

-- neither `id` nor `features` is looked at in an object with the role
abbrev HearsNone : Role → Type 0
HearsNone r = (uses r Id ≡ false) × (uses r Features ≡ false)

mutual
  quiet_element : (v : Tree) (h : Heard) → element_heard Role.Part v h ≡ h
  quiet_element (object place ms close) h = quiet_members ms (blank Role.Part place) h (refl, refl)
  quiet_element other h = refl

  quiet_elements : (es : Tree.Elements) (h : Heard) → elements_heard Role.Part es h ≡ h
  quiet_elements end_of_array h = refl
  quiet_elements (element v more) h = ap (elements_heard Role.Part more) (quiet_element v h) ∙ quiet_elements more h

  quiet_due : (v : Tree) (n : Known) (r : Role) (h : Heard) → same Id n ≡ false → same Features n ≡ false → due_heard n r v h ≡ h
  quiet_due v Id r h i f = cc
  quiet_due v Features r h i f = cc
  quiet_due (array place es close) Geometries r h i f = quiet_elements es h
  quiet_due (object place ms close) Geometry r h i f = quiet_members ms (blank Role.Geometry place) h (refl, refl)
  quiet_due v _ r h i f = refl

  quiet_members : (ms : Members) (f : Frame) (h : Heard) → HearsNone f.slots.role → members_heard f ms h ≡ h
  quiet_members end_of_object f h q = refl
  quiet_members (member place name end v more) f h q =
      let k : Known = known_of name in
      let g : Frame = member_taken place k v f in
      ap (members_heard g more) (quiet_due v (due_after k f) (named k place f).slots.role h (due_unused Id k f refl q.0) (due_unused Features k f refl q.1))
      ∙ quiet_members more g h (subst HearsNone (sym (member_object k place v f.slots).role) q)

-- ---- objects in which values of one name alone are heard

abbrev heard_if : Known → Role → Option Tree → Heard → Heard
heard_if n r None h = h
heard_if n r (Some v) h = due_heard n r v h

module _ (n : Known) (r : Role) (known : is_known n ≡ true) (used : uses r n ≡ true)
    (only : (k : Known) (v : Tree) (f : Frame) (h : Heard) → f.slots.role ≡ r → same n (due_after k f) ≡ false → due_heard (due_after k f) r v h ≡ h) where
  -- a member whose value is not heard
  one_quiet : (k : Known) (place : ℕ) (v : Tree) (f : Frame) (h : Heard) → f.slots.role ≡ r → same n (due_after k f) ≡ false
      → due_heard (due_after k f) (named k place f).slots.role v h ≡ h
  one_quiet k place v f h e other = ap (λ q. due_heard (due_after k f) q v h) (named_role k place f ∙ e) ∙ only k v f h e other

  -- what is kept of the first
  abbrev kept_of : ℕ → Tree → Frame → Slot
  kept_of place v f = record { name_at = place; fault = if uses f.slots.role n then least (judge n v) else None }

  still_there : (place : ℕ) (k : Known) (v : Tree) (f : Frame) (slot : Slot) (b : Bool) → same n k ≡ b → slot_of n f.slots ≡ Some slot
      → slot_of n (member_taken place k v f).slots ≡ Some slot
  still_there place k v f slot false e h = slot-other n k place v f.slots known e ∙ h
  still_there place k v f slot true e h =
      subst (λ x. slot_of n (member_taken place x v f).slots ≡ Some slot) (same_is n k e)
      (slot-own n place v f.slots known ∙ ap (λ o. or_slot o (Some (kept_of place v f))) h)

  -- after the first of its members
  after_first : (ms : Members) (f : Frame) (h : Heard) (slot : Slot) → f.slots.role ≡ r → slot_of n f.slots ≡ Some slot → members_heard f ms h ≡ h
  after_first end_of_object f h slot e s = refl
  after_first (member place name end v more) f h slot e s =
      let k : Known = known_of name in
      let g : Frame = member_taken place k v f in
      ap (members_heard g more) (one_quiet k place v f h e (due_once n k f slot known s))
      ∙ after_first more g h slot ((member_object k place v f.slots).role ∙ e) (still_there place k v f slot (same n k) refl s)

  first_due : (f : Frame) → f.slots.role ≡ r → slot_of n f.slots ≡ None → due_after n f ≡ n
  first_due f e s = go (is_known n) (slot_of n f.slots) known s
    where
      go : (b : Bool) (o : Option Slot) → b ≡ true → o ≡ None → (if b then due_known n o f.slots.role else Other) ≡ n
      go true None k l = rw (e, used) refl
      go true (Some slot) k l = cc
      go false o k l = cc

  now_there : (place : ℕ) (v : Tree) (f : Frame) → slot_of n f.slots ≡ None → (slot : Slot) × (slot_of n (member_taken place n v f).slots ≡ Some slot)
  now_there place v f s = (kept_of place v f, slot-own n place v f.slots known ∙ ap (λ o. or_slot o (Some (kept_of place v f))) s)

  first_heard : (ms : Members) (f : Frame) (h : Heard) → f.slots.role ≡ r → slot_of n f.slots ≡ None → members_heard f ms h ≡ heard_if n r (first_value n ms) h
  first_heard end_of_object f h e s = refl
  first_heard (member place name end v more) f h e s =
      split (same n (known_of name)) refl
      (first_heard more (member_taken place (known_of name) v f) h ((member_object (known_of name) place v f.slots).role ∙ e))
    where
      k : Known
      k = known_of name

      g : Frame
      g = member_taken place k v f

      split : (b : Bool) → same n k ≡ b → (slot_of n g.slots ≡ None → members_heard g more h ≡ heard_if n r (first_value n more) h)
          → members_heard f (member place name end v more) h ≡ heard_if n r (first_value n (member place name end v more)) h
      split false x on =
          let other = due_other n k (is_known k) (uses f.slots.role k) (slot_of k f.slots) f.slots.role refl known x in
          rw x (ap (members_heard g more) (one_quiet k place v f h e other) ∙ on (slot-other n k place v f.slots known x ∙ s))
      split true x on =
          let same_name : n ≡ k = same_is n k x in
          let there = now_there place v f s in
          let now = subst (λ y. slot_of n (member_taken place y v f).slots ≡ Some there.0) same_name there.1 in
          let due : due_after k f ≡ n = subst (λ y. due_after y f ≡ n) same_name (first_due f e s) in
          rw x (ap (members_heard g more) (ap (λ y. due_heard y (named k place f).slots.role v h) due ∙ ap (λ q. due_heard n q v h) (named_role k place f ∙ e))
          ∙ after_first more g (due_heard n r v h) there.0 ((member_object k place v f.slots).role ∙ e) now)

-- ---- the elements of `features`

-- in a feature the value of the first `id`
in_feature : (place : ℕ) (ms : Members) (h : Heard) → members_heard (blank Role.Feature place) ms h ≡ heard_if Id Role.Feature (first_value Id ms) h
in_feature place ms h =
    first_heard Id Role.Feature refl refl
    (λ k v f g e other. quiet_due v (due_after k f) Role.Feature g other (due_unused Features k f refl (rw e refl)))
    ms (blank Role.Feature place) h refl refl

one_feature : (v : Tree) (h : Heard) → h.begun ≡ None → element_heard Role.Feature v h ≡ ended (complete_at v) (feature_of (length h.told) v) h
one_feature (object place ms close) h e = ap (object_heard Role.Feature place close ms) (in_feature place ms h) ∙ by_id (first_value Id ms) refl
  where
    by_id : (o : Option Tree) → first_value Id ms ≡ o
        → object_heard Role.Feature place close ms (heard_if Id Role.Feature (first_value Id ms) h)
        ≡ ended (close + 1) (feature_of (length h.told) (object place ms close)) h
    by_id None i = rw (i, e) refl
    by_id (Some v) i = rw i refl
one_feature (constant Null place) h e = refl
one_feature (constant True place) h e = refl
one_feature (constant False place) h e = refl
one_feature _ h e = refl

abbrev all_told : Heard → List Tree → Heard
all_told h vs = record { begun = None; told = h.told ++ timed_from (length h.told) vs }

all_features : (es : Tree.Elements) (h : Heard) → h.begun ≡ None → elements_heard Role.Feature es h ≡ all_told h (items es)
all_features end_of_array h e = λ i. record { begun = e i; told = sym (append-nil h.told) i }
all_features (element v more) h e =
    let one : TimedFeature = record { at = complete_at v; feature = feature_of (length h.told) v } in
    let next : Heard = ended (complete_at v) (feature_of (length h.told) v) h in
    let l : length (h.told ++ one ∷ []) ≡ suc (length h.told) = omega (arith, length-append h.told (one ∷ [])) in
    ap (elements_heard Role.Feature more) (one_feature v h e)
    ∙ (all_features more next refl
    ∙ ap (λ (ts : List TimedFeature). record { begun = None; told = ts })
    (ap (λ i. (h.told ++ one ∷ []) ++ timed_from i (items more)) l ∙ append_assoc h.told (one ∷ []) (timed_from (suc (length h.told)) (items more))))

-- ---- the text

in_root : (place : ℕ) (ms : Members) → members_heard (blank Role.Root place) ms unheard ≡ heard_if Features Role.Root (first_value Features ms) unheard
in_root place ms = first_heard Features Role.Root refl refl only ms (blank Role.Root place) unheard refl refl
  where
    others : (v : Tree) (n : Known) (h : Heard) (b : Bool) → same Id n ≡ b → same Features n ≡ false → due_heard n Role.Root v h ≡ h
    others v n h false i other = quiet_due v n Role.Root h i other
    others v n h true i other = subst (λ m. due_heard m Role.Root v h ≡ h) (same_is Id n i) refl

    only : (k : Known) (v : Tree) (f : Frame) (h : Heard) → f.slots.role ≡ Role.Root → same Features (due_after k f) ≡ false
        → due_heard (due_after k f) Role.Root v h ≡ h
    only k v f h e other = others v (due_after k f) h (same Id (due_after k f)) refl other

root_told : (v : Tree) → (root_heard v).told ≡ timed_from 0 (features_of v)
root_told (object place ms close) = ap (λ (h : Heard). h.told) (in_root place ms) ∙ list (first_value Features ms)
  where
    list : (o : Option Tree) → (heard_if Features Role.Root o unheard).told ≡ timed_from 0 (elements_if o)
    list None = refl
    list (Some (array place es close)) = ap (λ (h : Heard). h.told) (all_features es unheard refl)
    list (Some other) = refl
root_told other = refl

-- all events of a text report its features, each with the event that completes it
pub text_heard : (text : Text) → depth text.value ≤ most_levels → (hears (text_told text) start unheard).told ≡ timed_from 0 (features_of text.value)
text_heard text d = ap (λ (h : Heard). h.told) (heard_in MOST_FRAMES (omega arith) text d) ∙ root_told text.value
