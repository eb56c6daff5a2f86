-- What the text's object has shown after some events of its members, and what comes of it at its end.
use Rattle.gj_rules.proofs.Common.{Bool, Coordinates, False, Fault, Findings, First, Frame, List, MemberSlots, Members, Names, Null, Other, Role}
use Rattle.gj_rules.proofs.Common.{Shapes, Slot, State, Told, Tree, True, TypeName, TypeValue, What, Word, ap, append_assoc, array, asked, constant}
use Rattle.gj_rules.proofs.Common.{due_known, end_of_object, false, if◌then◌else◌, inl, inr, is_known, is_lost, is_some, judge, least, lesser, member}
use Rattle.gj_rules.proofs.Common.{members_told, mentions, no_shapes, number, object, place_of, plain, refl, run, same, shapes_of, slot_of, step}
use Rattle.gj_rules.proofs.Common.{string, subst, sym, told, true, type_of, uses, [], ◌&&◌, ◌++◌, ◌+◌, ◌||◌, ◌∙◌, ◌∷◌, ◌⊎◌}
use Rattle.std.proofs.Common.{◌≡◌, ℕ, Option, Some, None}
use Rattle.std.proofs.Math.Bool.{or_assoc}
use Rattle.gj_json.specs.declared.event.What.TheVariants as W
use Rattle.gj_json.specs.declared.names.Known.{Known}
use Rattle.gj_json.specs.Names.{known_of}
use Rattle.gj_rules.specs.Doomed.{names, first_type, repeats}
use Rattle.gj_rules.specs.Internal.FrameCalls as F
use Rattle.gj_rules.specs.Internal.OpenMembers.{named, due_after, filled, member_taken, members_taken, type_set}
use Rattle.gj_rules.proofs.Objects.GrowingFaults.{Keeps, lesser_first, Worse, worse_twice, worse_named, lost_worse, type_same, Grows}
use Rattle.gj_rules.proofs.Objects.GrowingFaults.{grows_same, grows_joined, grows_shapes}
use Rattle.gj_rules.proofs.Texts.ValuesByEvents.{st, due_st}
use Rattle.gj_rules.proofs.Objects.MemberSlots.{same_is}
use Rattle.gj_rules.proofs.Objects.AllMembers.{again, Mentions, mentions_step, member_object, type_from, type_after, stays_after, typed_after, shapes_from}
use Rattle.gj_rules.proofs.Objects.AllMembers.{shapes_one, named_type, named_shapes}
use Rattle.gj_rules.proofs.Objects.AllMembers.{repeated_after}
use Rattle.gj_rules.proofs.Objects.AskedShapes.{TypeStays}
use Rattle.gj_rules.proofs.Doom.InsideValues.{Thru, thru_run, thru_at, root, on_due, array_rest, object_rest}
use Rattle.gj_rules.proofs.Doom.OutermostMembers.{own, first_what, own_value, own_part, names_value, or_word, typed_by, first_type_member, first_type_name}
use Rattle.gj_rules.proofs.Texts.OneFlatMore.{run-append}

-- ---- after whole members

-- the object shows the members of these names
pub record Shows (before : List Known) (f : MemberSlots) : Type 0 where
  pub mentioned : Mentions before f
  pub typed : is_some f.type_value ≡ is_some (f.slots TypeName)
  pub shaped : is_some (f.slots Coordinates) ≡ false → f.shapes ≡ no_shapes
  pub role : f.role ≡ Role.Root

abbrev pub word_in : Option TypeValue → Option Word
word_in None = None
word_in (Some value) = Some value.word

type_one : (name : List ℕ) (place end : ℕ) (v : Tree) (f : MemberSlots)
    → (member_taken place (known_of name) v f).type_value
    ≡ type_from (f.slots TypeName) f.type_value (if same TypeName (known_of name) then Some (record { place = place_of v; word = type_of v }) else None)
type_one name place end v f = type_after (member place name end v end_of_object) f

slot_is : (n : Known) (before : List Known) (name : Known) (place : ℕ) (v : Tree) (f : MemberSlots) → Mentions before f → is_known n ≡ true
    → is_some (slot_of n (member_taken place name v f)) ≡ (if same n name then true else is_some (slot_of n f))
slot_is n before name place v f m k =
    mentions_step before n name place v f (same n name) m k refl ∙ ap (λ (b : Bool). if same n name then true else b) (sym (m.each n k))

shaped_is : (u b : Bool) (t : Option Slot) (known : Option TypeValue) (had : Shapes) (x : First) → (if b then true else is_some t) ≡ false
    → (is_some t ≡ false → had ≡ no_shapes)
    → shapes_from u t known had (if b then Some x else None) ≡ no_shapes
shaped_is u true t known had x e h = cc
shaped_is u false (Some slot) known had x e h = cc
shaped_is u false None known had x e h = h refl

pub shows_more : (before : List Known) (name : List ℕ) (place end : ℕ) (v : Tree) (f : MemberSlots) → Shows before f
    → Shows (known_of name ∷ before) (member_taken place (known_of name) v f)
shows_more before name place end v f h = record {
  mentioned = record { each = λ q k. mentions_step before q (known_of name) place v f (same q (known_of name)) h.mentioned k refl };
  typed = typed_after place end name v f h.typed;
  shaped = λ e.
      shapes_one (known_of name) place v f (same Coordinates (known_of name)) refl
      ∙ shaped_is (uses f.role Coordinates) (same Coordinates (known_of name)) (f.slots Coordinates) f.type_value f.shapes
      (record { name_at = place; value = v; faults = judge Coordinates v })
      (sym (slot_is Coordinates before (known_of name) place v f h.mentioned refl) ∙ e) h.shaped;
  role = (member_object (known_of name) place v f).role ∙ h.role;
}

-- ---- what fails goes on to fail

filled_grows : (m : Known) (v : Tree) (f : MemberSlots) → (m ≡ TypeName → ⊥) → (m ≡ Coordinates → f.shapes ≡ no_shapes) → Grows f (filled m v f)
filled_grows TypeName v f t c = absurd (t refl)
filled_grows Coordinates v f t c = grows_shapes (asked f.type_value (shapes_of v)) f (c refl)
filled_grows m v f t c = grows_joined m (least (judge m v)) f

typed_worse : (place : ℕ) (word : Word) (f : MemberSlots) → Worse f (type_set place word f)
typed_worse place word f = record {
  repeated = λ e. e;
  slots = λ n e. e;
  values = λ n e. e;
  shapes = λ s e. e;
}

-- of which name a value is due
due_from : (n m : Known) (r : Role) (k u : Bool) (o : Option Slot) → uses r n ≡ u → (if k then due_known n o r else Other) ≡ m → is_known m ≡ true → (n ≡ m)
    × (o ≡ None)
due_from n m r false u o e d i = let j : is_known Other ≡ is_known m = ap is_known d in cc
due_from n m r true u (Some slot) e d i = let j : is_known Other ≡ is_known m = ap is_known d in cc
due_from n m r true true None e d i = (subst (λ (b : Bool). (if b then n else Other) ≡ m) e d, refl)
due_from n m r true false None e d i =
    let l : Other ≡ m = subst (λ (b : Bool). (if b then n else Other) ≡ m) e d in
    let j : is_known Other ≡ is_known m = ap is_known l in
    cc

due_shapes : (before : List Known) (n : Known) (place : ℕ) (f : MemberSlots) → Shows before f → due_after n f ≡ Coordinates
    → (named n place f).shapes ≡ no_shapes
due_shapes before n place f h e =
    let d = due_from n Coordinates f.role (is_known n) (uses f.role n) (slot_of n f) refl e refl in
    let none : slot_of Coordinates f ≡ None = subst (λ (m : Known). slot_of m f ≡ None) d.0 d.1 in
    named_shapes n place f (is_known n) (slot_of n f) ∙ h.shaped (ap is_some none)

filled_worse : (m : Known) (v : Tree) (f : MemberSlots) (b : Bool) → same TypeName m ≡ b → (m ≡ Coordinates → f.shapes ≡ no_shapes) → Worse f (filled m v f)
filled_worse TypeName v f b e c = typed_worse (place_of v) (type_of v) f
filled_worse Coordinates v f b e c = (grows_shapes (asked f.type_value (shapes_of v)) f (c refl)).worse
filled_worse m v f b e c = (grows_joined m (least (judge m v)) f).worse

lost_member : (before : List Known) (name : List ℕ) (place end : ℕ) (v : Tree) (f : MemberSlots) → Shows before f
    → Keeps (is_lost f) (is_lost (member_taken place (known_of name) v f))
lost_member before name place end v f h =
    let n : Known = known_of name in
    let worse = worse_twice f (named n place f) (member_taken place n v f)
    (worse_named n place f (is_known n) (slot_of n f) refl)
    (filled_worse (due_after n f) v (named n place f) (same TypeName (due_after n f)) refl (due_shapes before n place f h)) in
    lost_worse f (member_taken place n v f) worse
    (stays_after (member place name end v end_of_object) f h.typed)

pub lost_members : (ms : Members) (before : List Known) (f : MemberSlots) → Shows before f → Keeps (is_lost f) (is_lost (members_taken ms f))
lost_members end_of_object before f h = λ e. e
lost_members (member place name end v more) before f h = λ e.
    lost_members more (known_of name ∷ before) (member_taken place (known_of name) v f) (shows_more before name place end v f h)
    (lost_member before name place end v f h e)

-- ---- what some events have shown

-- after the members of the names `before`, with which the object f was shown, and these events of members it is g
pub record Here (before : List Known) (f g : MemberSlots) (shown : List What) : Type 0 where
  pub repeated : is_some g.repeated ≡ (is_some f.repeated || repeats before (names shown))
  pub type_word : word_in g.type_value ≡ or_word (word_in f.type_value) (first_type shown)
  pub slots : (n : Known) → is_known n ≡ true → is_some (slot_of n g) ≡ (mentions before n || mentions (names shown) n)

or_none : (o : Option Word) → o ≡ or_word o None
or_none None = refl
or_none (Some word) = refl

or_false : (b : Bool) → b ≡ (b || false)
or_false true = refl
or_false false = refl

here_start : (before : List Known) (f : MemberSlots) → Shows before f → Here before f f []
here_start before f h = record {
  repeated = or_false (is_some f.repeated);
  type_word = or_none (word_in f.type_value);
  slots = λ n k. h.mentioned.each n k ∙ or_false (mentions before n);
}

-- a name, of which the value is not whole
again_is : (a : Option Fault) (k m : Bool) (place : ℕ) → is_some (lesser a (least (again k m place ++ []))) ≡ (is_some a || (k && m))
again_is None true true place = refl
again_is None true false place = refl
again_is None false m place = refl
again_is (Some x) true true place = lesser_first (Some x) (least (again true true place ++ [])) refl
again_is (Some x) other another place = refl

repeated_one : (before : List Known) (name : List ℕ) (place end : ℕ) (v : Tree) (f : MemberSlots) → Mentions before f
    → is_some (member_taken place (known_of name) v f).repeated ≡ (is_some f.repeated || (is_known (known_of name) && mentions before (known_of name)))
repeated_one before name place end v f m =
    ap is_some (repeated_after (member place name end v end_of_object) before f m)
    ∙ again_is f.repeated (is_known (known_of name)) (mentions before (known_of name)) place

word_one : (t : Option Slot) (o : Option TypeValue) (b : Bool) (v : Tree) → is_some o ≡ is_some t
    → word_in (type_from t o (if b then Some (record { place = place_of v; word = type_of v }) else None)) ≡ or_word (word_in o) (typed_by b v)
word_one (Some slot) (Some value) b v e = refl
word_one (Some slot) None b v e = cc
word_one None (Some value) b v e = cc
word_one None None true v e = refl
word_one None None false v e = refl

-- the word of the first type after one member more
word_more : (name : List ℕ) (place end : ℕ) (v : Tree) (f : MemberSlots) → is_some f.type_value ≡ is_some (f.slots TypeName)
    → word_in (member_taken place (known_of name) v f).type_value ≡ or_word (word_in f.type_value) (typed_by (same TypeName (known_of name)) v)
word_more name place end v f e = ap word_in (type_one name place end v f) ∙ word_one (f.slots TypeName) f.type_value (same TypeName (known_of name)) v e

or_words : (a b c : Option Word) → or_word (or_word a b) c ≡ or_word a (or_word b c)
or_words None b c = refl
or_words (Some word) b c = refl

mentions_first : (b m r : Bool) → ((if b then true else m) || r) ≡ (m || (if b then true else r))
mentions_first true true r = refl
mentions_first other another r = refl

-- after a whole member
here_more : (before : List Known) (name : List ℕ) (place end : ℕ) (v : Tree) (f g : MemberSlots) (shown : List What) → Shows before f
    → Here (known_of name ∷ before) (member_taken place (known_of name) v f) g shown → Here before f g (W.Name (known_of name) ∷ (first_what v ∷ shown))
here_more before name place end v f g shown h more =
    let n : Known = known_of name in record {
      repeated = more.repeated
          ∙ (ap (λ b. b || repeats (n ∷ before) (names shown)) (repeated_one before name place end v f h.mentioned)
          ∙ (or_assoc (is_some f.repeated) (is_known n && mentions before n) (repeats (n ∷ before) (names shown))
          ∙ ap (λ (ns : List Known). is_some f.repeated || ((is_known n && mentions before n) || repeats (n ∷ before) ns)) (sym (names_value v shown))));
      type_word = more.type_word
          ∙ (ap (λ o. or_word o (first_type shown)) (word_more name place end v f h.typed)
          ∙ (or_words (word_in f.type_value) (typed_by (same TypeName n) v) (first_type shown)
          ∙ ap (λ o. or_word (word_in f.type_value) o) (sym (first_type_member n v shown))));
      slots = λ q k.
          more.slots q k
          ∙ (mentions_first (same q n) (mentions before q) (mentions (names shown) q)
          ∙ ap (λ (ns : List Known). mentions before q || (if same q n then true else mentions ns q)) (sym (names_value v shown)));
    }

-- inside a member: g shows the names that the whole member shows
here_inside : (before : List Known) (name : List ℕ) (place end : ℕ) (v : Tree) (f g : MemberSlots) (shown : List What) → Shows before f → names shown ≡ []
    → g.repeated ≡ (member_taken place (known_of name) v f).repeated
    → ((n : Known) → is_some (slot_of n (member_taken place (known_of name) v f)) ≡ is_some (slot_of n g))
    → word_in g.type_value ≡ or_word (word_in f.type_value) (first_type (W.Name (known_of name) ∷ shown))
    → Here before f g (W.Name (known_of name) ∷ shown)
here_inside before name place end v f g shown h none a b c =
    let n : Known = known_of name in record {
      repeated = ap is_some a
          ∙ (repeated_one before name place end v f h.mentioned
          ∙ (ap (λ x. is_some f.repeated || x) (or_false (is_known n && mentions before n))
          ∙ ap (λ (ns : List Known). is_some f.repeated || ((is_known n && mentions before n) || repeats (n ∷ before) ns)) (sym none)));
      type_word = c;
      slots = λ q k.
          sym (b q)
          ∙ (mentions_step before q n place v f (same q n) h.mentioned k refl
          ∙ (or_false (if same q n then true else mentions before q)
          ∙ (mentions_first (same q n) (mentions before q) false
          ∙ ap (λ (ns : List Known). mentions before q || (if same q n then true else mentions ns q)) (sym none))));
    }

-- ---- from event to event

-- the state after some events of members, of which all come to h
pub record Cut (before : List Known) (f h : MemberSlots) (a : Findings) (shown : List What) (s : State) : Type 0 where
  pub here : Here before f (root s) shown
  pub onward : Keeps (is_lost (root s)) (is_lost h)
  pub still : s.core.answer ≡ a

split : (xs ys done rest : List Told) → xs ++ ys ≡ done ++ rest
    → ((y : Told) × (more : List Told) × (xs ≡ done ++ y ∷ more)) ⊎ ((later : List Told) × (done ≡ xs ++ later) × (ys ≡ later ++ rest))
split [] ys done rest e = inr (done, refl, e)
split (x ∷ xs) ys [] rest e = inl (x, xs, refl)
split (x ∷ xs) ys (z ∷ zs) rest e =
    let first : x ≡ z = cc in
    let after : xs ++ ys ≡ zs ++ rest = cc in
    elim (split xs ys zs rest after) [
      | inl h ↦ inl (h.0, h.1, (let k : xs ≡ zs ++ h.0 ∷ h.1 = h.2 in cc))
      | inr h ↦ inr (h.0, (let k : zs ≡ xs ++ h.0 = h.1 in cc), h.2)
    ]

-- no value is due as that of another `type`
type_due : (n m : Known) (f : MemberSlots) → due_after n f ≡ m → is_known m ≡ true → (n ≡ m) × (slot_of n f ≡ None)
type_due n m f e k = due_from n m f.role (is_known n) (uses f.role n) (slot_of n f) refl e k

root_uses : (f : MemberSlots) (n : Known) → f.role ≡ Role.Root → uses f.role n ≡ true
root_uses f n e = ap (λ (r : Role). uses r n) e

-- the name is `type`, and the value is not due
not_due : (f : MemberSlots) (t : Option Slot) (o : Option TypeValue) → f.role ≡ Role.Root → (f.slots TypeName) ≡ t → is_some o ≡ is_some t
    → (due_after TypeName f ≡ TypeName → ⊥) → (x y : Option Word) → or_word (word_in o) x ≡ or_word (word_in o) y
not_due f (Some slot) (Some value) r e k d x y = refl
not_due f (Some slot) None r e k d x y = cc
not_due f None (Some value) r e k d x y = cc
not_due f None None r e k d x y =
    absurd (d (rw e (subst (λ (u : Bool). (if u then TypeName else Other) ≡ TypeName) (sym (root_uses f TypeName r)) refl)))

other_word : (f : MemberSlots) (n : Known) (v : Tree) (x : Option Word) (b : Bool) → same TypeName n ≡ b → f.role ≡ Role.Root
    → is_some f.type_value ≡ is_some (f.slots TypeName) → (due_after n f ≡ TypeName → ⊥)
    → (b ≡ false → x ≡ None) → or_word (word_in f.type_value) (typed_by b v) ≡ or_word (word_in f.type_value) x
other_word f n v x false e r k d h = ap (λ o. or_word (word_in f.type_value) o) (sym (h refl))
other_word f n v x true e r k d h =
    not_due f (f.slots TypeName) f.type_value r refl k (λ g. d (subst (λ (m : Known). due_after m f ≡ TypeName) (same_is TypeName n e) g)) (typed_by true v) x

-- ---- inside a member

names_part : (v : Tree) (done more : List Told) (y : Told) → told v ≡ done ++ y ∷ more → names (own 1 done) ≡ []
names_part v [] more y e = refl
names_part v (x ∷ d) more y e = ap (λ (ws : List What). names ws) (own_part v x d (y ∷ more) e) ∙ names_value v []

-- where the name is not `type`, no type comes
no_type : (n : Known) (v : Tree) (done more : List Told) (y : Told) → told v ≡ done ++ y ∷ more → same TypeName n ≡ false
    → first_type (W.Name n ∷ own 1 done) ≡ None
no_type n v [] more y e f = first_type_name n
no_type n v (x ∷ d) more y e f =
    ap (λ (ws : List What). first_type (W.Name n ∷ ws)) (own_part v x d (y ∷ more) e)
    ∙ (first_type_member n v [] ∙ ap (λ (b : Bool). or_word (typed_by b v) None) f)

no_type_due : (due : Known) → same TypeName due ≡ false → due ≡ TypeName → ⊥
no_type_due due e f = let g : same TypeName due ≡ same TypeName TypeName = ap (λ (m : Known). same TypeName m) f in cc

inside_value : (before : List Known) (name : List ℕ) (place end : ℕ) (v : Tree) (f : Frame) (a : Findings) (done more : List Told) (y : Told)
    → Shows before f.slots → told v ≡ done ++ y ∷ more
    → same TypeName (due_after (known_of name) f.slots) ≡ false
    → Cut before f.slots (member_taken place (known_of name) v f.slots) a (W.Name (known_of name) ∷ own 1 done)
    (run done (due_st (due_after (known_of name) f.slots) v (F.named (known_of name) place f) [] a))
inside_value before name place end v f a done more y h e t =
    let n : Known = known_of name in
    let due : Known = due_after n f.slots in
    let f1 : MemberSlots = named n place f.slots in
    let f2 : MemberSlots = member_taken place n v f.slots in
    let g1 : Grows f1 f2 = filled_grows due v f1 (no_type_due due t) (due_shapes before n place f.slots h) in
    let whole = on_due v due (F.named n place f) [] a f1 f2 (record { lo = grows_same f1; hi = g1 }) (record { lo = g1; hi = grows_same f2 }) in
    let s : State = due_st due v (F.named n place f) [] a in
    let at = thru_at f1 f2 a done y more s _ (subst (λ (ts : List Told). Thru f1 f2 a ts s (st 0 Names (F.filled due v (F.named n place f)) [] a)) e whole) in
    let g : MemberSlots = root (run done s) in
    let hi : Grows g f2 = at.0.hi in record {
      here = here_inside before name place end v f.slots g (own 1 done) h (names_part v done more y e) (sym hi.repeated) hi.slots
          (ap word_in (sym hi.type_value) ∙ (word_more name place end v f.slots h.typed
          ∙ other_word f.slots n v (first_type (W.Name n ∷ own 1 done)) (same TypeName n) refl h.role h.typed (no_type_due due t) (no_type n v done more y e)));
      onward = lost_worse g f2 hi.worse (type_same g.type_value f2.type_value hi.type_value);
      still = at.1;
    }

-- after the first event of the value of `type`
abbrev After : MemberSlots → Findings → List Told → State → State → Type 0
After f a [] s t = ⊥
After f a (x ∷ xs) s t = Thru f f a xs (step x s) t

after_type : (v : Tree) (f : Frame) (a : Findings)
    → After (type_set (place_of v) (type_of v) f.slots) a (told v) (due_st TypeName v f [] a) (st 0 Names (F.filled TypeName v f) [] a)
after_type (constant Null place) f a = refl
after_type (constant True place) f a = refl
after_type (constant False place) f a = refl
after_type (number place literal end) f a = refl
after_type (string place content end) f a = refl
after_type (array place es close) f a =
    let g : Frame = F.filled TypeName (array place es close) f in
    array_rest es close Names g [] a g.slots g.slots (record { lo = grows_same g.slots; hi = grows_same g.slots })
after_type (object place ms close) f a =
    let g : Frame = F.filled TypeName (object place ms close) f in
    object_rest ms close Names g [] a g.slots g.slots (record { lo = grows_same g.slots; hi = grows_same g.slots })

after_run : (f : MemberSlots) (a : Findings) (xs : List Told) (s t : State) → After f a xs s t → run xs s ≡ t
after_run f a [] s t h = absurd h
after_run f a (x ∷ xs) s t h = thru_run f f a xs (step x s) t h

-- no type was there
unset : (n : Known) (f : MemberSlots) → is_some f.type_value ≡ is_some (f.slots TypeName) → due_after n f ≡ TypeName → f.type_value ≡ None
unset n f k e = go f.type_value (k ∙ ap is_some none)
  where
    d : (n ≡ TypeName) × (slot_of n f ≡ None)
    d = type_due n TypeName f e refl

    none : (f.slots TypeName) ≡ None
    none = subst (λ (m : Known). slot_of m f ≡ None) d.0 d.1

    go : (o : Option TypeValue) → is_some o ≡ false → o ≡ None
    go None g = refl
    go (Some value) g = cc

inside_type : (before : List Known) (name : List ℕ) (place end : ℕ) (v : Tree) (f : Frame) (a : Findings) (done more : List Told) (y : Told)
    → Shows before f.slots → told v ≡ done ++ y ∷ more
    → due_after (known_of name) f.slots ≡ TypeName
    → Cut before f.slots (member_taken place (known_of name) v f.slots) a (W.Name (known_of name) ∷ own 1 done)
    (run done (due_st TypeName v (F.named (known_of name) place f) [] a))
inside_type before name place end v f a [] more y h e t =
    let n : Known = known_of name in
    let f1 : MemberSlots = named n place f.slots in
    let f2 : MemberSlots = type_set (place_of v) (type_of v) f1 in
    let is : member_taken place n v f.slots ≡ f2 = ap (λ (m : Known). filled m v f1) t in
    let none : f1.type_value ≡ None = named_type n place f.slots (is_known n) (slot_of n f.slots) ∙ unset n f.slots h.typed t in record {
      here = here_inside before name place end v f.slots f1 [] h refl
          (ap (λ (g : MemberSlots). g.repeated) (sym is))
          (λ q. ap (λ (g : MemberSlots). is_some (slot_of q g)) is)
          (ap word_in (named_type n place f.slots (is_known n) (slot_of n f.slots))
          ∙ (or_none (word_in f.slots.type_value) ∙ ap (λ o. or_word (word_in f.slots.type_value) o) (sym (first_type_name n))));
      onward = subst (λ (g : MemberSlots). Keeps (is_lost f1) (is_lost g)) (sym is)
          (lost_worse f1 f2 (typed_worse (place_of v) (type_of v) f1) (subst (λ (o : Option TypeValue). TypeStays o f2.type_value) (sym none) tt));
      still = refl;
    }
inside_type before name place end v f a (x ∷ d) more y h e t =
    let n : Known = known_of name in
    let f1 : MemberSlots = named n place f.slots in
    let f2 : MemberSlots = type_set (place_of v) (type_of v) f1 in
    let is : member_taken place n v f.slots ≡ f2 = ap (λ (m : Known). filled m v f1) t in
    let s : State = due_st TypeName v (F.named n place f) [] a in
    let end_state : State = st 0 Names (F.filled TypeName v (F.named n place f)) [] a in
    let at = thru_at f2 f2 a d y more (step x s) end_state (subst (λ (ts : List Told). After f2 a ts s end_state) e (after_type v (F.named n place f) a)) in
    let g : MemberSlots = root (run d (step x s)) in
    let hi : Grows g (member_taken place n v f.slots) = subst (λ (z : MemberSlots). Grows g z) (sym is) at.0.hi in record {
      here = here_inside before name place end v f.slots g (own 1 (x ∷ d)) h (names_part v (x ∷ d) more y e) (sym hi.repeated) hi.slots
          (ap word_in (sym hi.type_value) ∙ (word_more name place end v f.slots h.typed
          ∙ ap (λ o. or_word (word_in f.slots.type_value) o) (or_none (typed_by (same TypeName n) v)
          ∙ (sym (first_type_member n v []) ∙ ap (λ (ws : List What). first_type (W.Name n ∷ ws)) (sym (own_part v x d (y ∷ more) e))))));
      onward = lost_worse g (member_taken place n v f.slots) hi.worse (type_same g.type_value (member_taken place n v f.slots).type_value hi.type_value);
      still = at.1;
    }

inside : (before : List Known) (name : List ℕ) (place end : ℕ) (v : Tree) (f : Frame) (a : Findings) (done more : List Told) (y : Told) → Shows before f.slots
    → told v ≡ done ++ y ∷ more
    → Cut before f.slots (member_taken place (known_of name) v f.slots) a (W.Name (known_of name) ∷ own 1 done)
    (run done (due_st (due_after (known_of name) f.slots) v (F.named (known_of name) place f) [] a))
inside before name place end v f a done more y h e = go (same TypeName (due_after (known_of name) f.slots)) refl
  where
    go : (b : Bool) → same TypeName (due_after (known_of name) f.slots) ≡ b
        → Cut before f.slots (member_taken place (known_of name) v f.slots) a (W.Name (known_of name) ∷ own 1 done)
        (run done (due_st (due_after (known_of name) f.slots) v (F.named (known_of name) place f) [] a))
    go false t = inside_value before name place end v f a done more y h e t
    go true t =
        let is : TypeName ≡ due_after (known_of name) f.slots = same_is TypeName (due_after (known_of name) f.slots) t in
        subst (λ (m : Known). Cut before f.slots (member_taken place (known_of name) v f.slots) a (W.Name (known_of name) ∷ own 1 done)
        (run done (due_st m v (F.named (known_of name) place f) [] a))) is
        (inside_type before name place end v f a done more y h e (sym is))

-- ---- a whole value

value_run : (before : List Known) (n : Known) (place : ℕ) (v : Tree) (f : Frame) (a : Findings) → Shows before f.slots
    → run (told v) (due_st (due_after n f.slots) v (F.named n place f) [] a) ≡ st 0 Names (F.member_taken place n v f) [] a
value_run before n place v f a h = go (due_after n f.slots) (same TypeName (due_after n f.slots)) refl (due_shapes before n place f.slots h)
  where
    f1 : Frame
    f1 = F.named n place f

    go : (due : Known) (b : Bool) → same TypeName due ≡ b → (due ≡ Coordinates → f1.slots.shapes ≡ no_shapes)
        → run (told v) (due_st due v f1 [] a) ≡ st 0 Names (F.filled due v f1) [] a
    go due false t c =
        let g1 = filled_grows due v f1.slots (no_type_due due t) c in
        thru_run f1.slots (filled due v f1.slots) a (told v) _ _
        (on_due v due f1 [] a f1.slots (filled due v f1.slots) (record { lo = grows_same f1.slots; hi = g1 })
        (record { lo = g1; hi = grows_same (filled due v f1.slots) }))
    go due true t c =
        subst (λ (m : Known). run (told v) (due_st m v f1 [] a) ≡ st 0 Names (F.filled m v f1) [] a) (same_is TypeName due t)
        (after_run (type_set (place_of v) (type_of v) f1.slots) a (told v) _ _ (after_type v f1 a))

pub members_run : (ms : Members) (before : List Known) (f : Frame) (a : Findings) → Shows before f.slots
    → run (members_told ms) (st 0 Names f [] a) ≡ st 0 Names (F.members_taken ms f) [] a
members_run end_of_object before f a h = refl
members_run (member place name end v more) before f a h =
    let n : Known = known_of name in
    run-append (told v) (members_told more) (due_st (due_after n f.slots) v (F.named n place f) [] a)
    ∙ (ap (λ (s : State). run (members_told more) s) (value_run before n place v f a h)
    ∙ members_run more (n ∷ before) (F.member_taken place n v f) a (shows_more before name place end v f.slots h))

-- ---- the members, up to the object's end

abbrev pub last_of : ℕ → Told
last_of close = plain (close + 1) close W.CloseObject

pub record End (before : List Known) (f : Frame) (ms : Members) (close : ℕ) (done : List Told) : Type 0 where
  pub here : Here before f.slots (members_taken ms f.slots) (own 1 done)
  pub whole : done ≡ members_told ms ++ last_of close ∷ []

here_end : (before : List Known) (f : MemberSlots) → Shows before f → Here before f f (W.CloseObject ∷ [])
here_end before f h = record {
  repeated = or_false (is_some f.repeated);
  type_word = or_none (word_in f.type_value);
  slots = λ n k. h.mentioned.each n k ∙ or_false (mentions before n);
}

cut_onward : (before : List Known) (f g h : MemberSlots) (a : Findings) (shown : List What) (s : State) → Keeps (is_lost g) (is_lost h)
    → Cut before f g a shown s → Cut before f h a shown s
cut_onward before f g h a shown s k c = record { here = c.here; onward = λ e. k (c.onward e); still = c.still }

-- a whole member, and then more
cut_more : (before : List Known) (name : List ℕ) (place end : ℕ) (v : Tree) (f : Frame) (h : MemberSlots) (a : Findings) (later : List Told)
    → Shows before f.slots
    → Cut (known_of name ∷ before) (member_taken place (known_of name) v f.slots) h a (own 1 later)
    (run later (st 0 Names (F.member_taken place (known_of name) v f) [] a))
    → Cut before f.slots h a (W.Name (known_of name) ∷ own 1 (told v ++ later))
    (run (told v ++ later) (due_st (due_after (known_of name) f.slots) v (F.named (known_of name) place f) [] a))
cut_more before name place end v f h a later s c =
    let n : Known = known_of name in
    let there : State = run later (st 0 Names (F.member_taken place n v f) [] a) in
    let comes : run (told v ++ later) (due_st (due_after n f.slots) v (F.named n place f) [] a) ≡ there =
    run-append (told v) later (due_st (due_after n f.slots) v (F.named n place f) [] a) ∙ ap (λ (z : State). run later z) (value_run before n place v f a s) in
    let at : Cut before f.slots h a (W.Name n ∷ (first_what v ∷ own 1 later)) there = record {
      here = here_more before name place end v f.slots (root there) (own 1 later) s c.here;
      onward = c.onward;
      still = c.still;
    } in
    subst (λ (z : State). Cut before f.slots h a (W.Name n ∷ own 1 (told v ++ later)) z) (sym comes)
    (subst (λ (ws : List What). Cut before f.slots h a (W.Name n ∷ ws) there) (sym (own_value v later)) at)

end_more : (before : List Known) (name : List ℕ) (place end : ℕ) (v : Tree) (more : Members) (f : Frame) (close : ℕ) (later : List Told) → Shows before f.slots
    → End (known_of name ∷ before) (F.member_taken place (known_of name) v f) more close later
    → End before f (member place name end v more) close (Told.named end place (known_of name) v ∷ (told v ++ later))
end_more before name place end v more f close later s c =
    let n : Known = known_of name in record {
      here = subst (λ (ws : List What). Here before f.slots (members_taken (member place name end v more) f.slots) (W.Name n ∷ ws)) (sym (own_value v later))
          (here_more before name place end v f.slots (members_taken (member place name end v more) f.slots) (own 1 later) s c.here);
      whole = ap (λ (ts : List Told). Told.named end place n v ∷ (told v ++ ts)) c.whole
          ∙ ap (λ (ts : List Told). Told.named end place n v ∷ ts) (sym (append_assoc (told v) (members_told more) (last_of close ∷ [])));
    }

nothing_more : (xs ys : List Told) → [] ≡ xs ++ ys → xs ≡ []
nothing_more [] ys e = refl
nothing_more (x ∷ xs) ys e = cc

-- these events are a part of them
abbrev pub Partly : List Known → Frame → Members → Findings → ℕ → List Told → Type 0
Partly before f ms a close done = Cut before f.slots (members_taken ms f.slots) a (own 1 done) (run done (st 0 Names f [] a)) ⊎ End before f ms close done

pub members_cut : (ms : Members) (before : List Known) (f : Frame) (a : Findings) (close : ℕ) (done rest : List Told) → Shows before f.slots
    → members_told ms ++ last_of close ∷ [] ≡ done ++ rest
    → Partly before f ms a close done
members_cut ms before f a close [] rest h e = inl (record { here = here_start before f.slots h; onward = lost_members ms before f.slots h; still = refl })
members_cut end_of_object before f a close (x ∷ d) rest h e =
    let first : last_of close ≡ x = cc in
    let none : d ≡ [] = nothing_more d rest cc in
    let whole : x ∷ d ≡ last_of close ∷ [] = ap (λ (z : Told). z ∷ d) (sym first) ∙ ap (λ (ts : List Told). last_of close ∷ ts) none in
    subst (λ (ts : List Told). Partly before f end_of_object a close ts) (sym whole) (inr (record { here = here_end before f.slots h; whole = refl }))
members_cut (member place name end v more) before f a close (x ∷ d) rest h e =
    let n : Known = known_of name in
    let first : Told.named end place n v ≡ x = cc in
    let after : (told v ++ members_told more) ++ last_of close ∷ [] ≡ d ++ rest = cc in
    let ms : Members = member place name end v more in
    subst (λ (z : Told). Partly before f ms a close (z ∷ d)) first
    (elim (split (told v) (members_told more ++ last_of close ∷ []) d rest (sym (append_assoc (told v) (members_told more) (last_of close ∷ [])) ∙ after)) [
      | inl part ↦
          inl (cut_onward before f.slots (member_taken place n v f.slots) (members_taken ms f.slots) a (W.Name n ∷ own 1 d) _
          (lost_members more (n ∷ before) (member_taken place n v f.slots) (shows_more before name place end v f.slots h))
          (inside before name place end v f a d part.1 part.0 h part.2))
      | inr part ↦
          subst (λ (ts : List Told). Partly before f ms a close (Told.named end place n v ∷ ts)) (sym part.1)
          (elim (members_cut more (n ∷ before) (F.member_taken place n v f) a close part.0 rest (shows_more before name place end v f.slots h) part.2) [
            | inl c ↦ inl (cut_more before name place end v f (members_taken ms f.slots) a part.0 h c)
            | inr c ↦ inr (end_more before name place end v more f close part.0 h c)
          ])
    ])
