-- What an object has shown only grows: what fails goes on to fail.
use Rattle.gj_rules.proofs.Common.{Bool, Coordinates, Fault, Features, Geometries, Geometry, Id, MemberRules, MemberSlots, Properties, Shapes, Simple}
use Rattle.gj_rules.proofs.Common.{Slot, TypeValue, Word, ap, asked_fault, comes_first, false, fault_at, if◌then◌else◌, is_among, is_known, is_lost}
use Rattle.gj_rules.proofs.Common.{is_some, joined_to, lesser, missing, named_known, no_shapes, refl, rules_of, same, shape_for, simple_of, slot_of}
use Rattle.gj_rules.proofs.Common.{subst, sym, true, with_slot, ◌&&◌, ◌||◌, ◌∙◌}
use Rattle.std.proofs.Common.{◌≡◌, ℕ, Option, Some, None}
use Rattle.std.proofs.lemmas.Bool.{or_left, or_right}
use Rattle.gj_json.specs.declared.names.Known.{Known}
use Rattle.gj_json.specs.declared.names.Known.TheVariants.{Bbox}
use Rattle.gj_coords.specs.declared.fault.Rule.TheVariants.{G10}
use Rattle.gj_rules.specs.Internal.MemberRules.{index_of, without_due}
use Rattle.gj_rules.specs.Internal.LostObjects.{fails_by, fails_as, all_fail, type_lost}
use Rattle.std.proofs.lemmas.Nat.Bits.{bit_at-zero}
use Rattle.gj_rules.specs.Internal.OpenMembers.{joined, shapes_set, fault_of, members_fault, shape_as}
use Rattle.gj_rules.proofs.Objects.MemberSlots.{same_is}
use Rattle.gj_rules.proofs.Objects.AskedShapes.{TypeStays, no_fault}

-- ---- truth

abbrev pub Keeps : Bool → Bool → Type 0
Keeps a b = a ≡ true → b ≡ true

pub or_keeps : (a b c d : Bool) → Keeps a c → Keeps b d → Keeps (a || b) (c || d)
or_keeps true b c d f g e = or_left c d (f refl)
or_keeps false b c d f g e = or_right c d (g e)

pub and_keeps : (a b c d : Bool) → Keeps a c → Keeps b d → Keeps (a && b) (c && d)
and_keeps true b c d f g e = let x = f refl in let y = g e in cc
and_keeps false b c d f g e = cc

-- ---- a lesser fault

some_kept : (a : Fault) (o : Option Fault) → is_some (lesser (Some a) o) ≡ true
some_kept a None = refl
some_kept a (Some b) = go (comes_first a b)
  where
    go : (t : Bool) → is_some (if t then Some a else Some b) ≡ true
    go true = refl
    go false = refl

pub lesser_first : (a b : Option Fault) → Keeps (is_some a) (is_some (lesser a b))
lesser_first None b e = cc
lesser_first (Some a) b e = some_kept a b

pub lesser_second : (a b : Option Fault) → Keeps (is_some b) (is_some (lesser a b))
lesser_second None b e = e
lesser_second (Some a) b e = some_kept a b

-- ---- what fails in the one fails in the other

-- the value of a first member has a fault
abbrev pub slot_fails : Option Slot → Bool
slot_fails None = false
slot_fails (Some slot) = is_some slot.fault

pub record Worse (f g : MemberSlots) : Type 0 where
  pub repeated : Keeps (is_some f.repeated) (is_some g.repeated)
  pub slots : (n : Known) → Keeps (is_some (slot_of n f)) (is_some (slot_of n g))
  pub values : (n : Known) → Keeps (slot_fails (slot_of n f)) (slot_fails (slot_of n g))
  pub shapes : (s : Simple) → Keeps (is_some (shape_for s f.shapes)) (is_some (shape_for s g.shapes))

pub worse_same : (f : MemberSlots) → Worse f f
worse_same f = record { repeated = λ e. e; slots = λ n e. e; values = λ n e. e; shapes = λ s e. e }

pub worse_twice : (f g h : MemberSlots) → Worse f g → Worse g h → Worse f h
worse_twice f g h a b = record {
  repeated = λ e. b.repeated (a.repeated e);
  slots = λ n e. b.slots n (a.slots n e);
  values = λ n e. b.values n (a.values n e);
  shapes = λ s e. b.shapes s (a.shapes s e);
}

-- ---- of the members

some_lesser : (a b : Option Fault) → is_some (lesser a b) ≡ (is_some a || is_some b)
some_lesser None b = refl
some_lesser (Some a) b = some_kept a b

lesser_keeps : (a b c d : Option Fault) → Keeps (is_some a) (is_some c) → Keeps (is_some b) (is_some d) → Keeps (is_some (lesser a b)) (is_some (lesser c d))
lesser_keeps a b c d f g e = some_lesser c d ∙ or_keeps (is_some a) (is_some b) (is_some c) (is_some d) f g (sym (some_lesser a b) ∙ e)

-- where one member after the other is wrong by the other rules too
pub members_keep : (r q : MemberRules) (f g : MemberSlots) → ((n : Known) → Keeps (is_some (fault_of n r f)) (is_some (fault_of n q g)))
    → Keeps (is_some (members_fault r f)) (is_some (members_fault q g))
unfolding members_fault
members_keep r q f g h =
    lesser_keeps (fault_of Bbox r f) _ (fault_of Bbox q g) _ (h Bbox)
    (lesser_keeps (fault_of Coordinates r f) _ (fault_of Coordinates q g) _ (h Coordinates)
    (lesser_keeps (fault_of Geometries r f) _ (fault_of Geometries q g) _ (h Geometries)
    (lesser_keeps (fault_of Geometry r f) _ (fault_of Geometry q g) _ (h Geometry)
    (lesser_keeps (fault_of Properties r f) _ (fault_of Properties q g) _ (h Properties)
    (lesser_keeps (fault_of Features r f) _ (fault_of Features q g) _ (h Features) (h Id))))))

-- nothing is due where each member may still come
pub not_due : (n : Known) → is_among 0 n ≡ false
not_due n = rw (bit_at-zero (index_of n)) refl

member_worse : (u b : Bool) (x y : Fault) (o p : Option Slot) → Keeps (is_some o) (is_some p) → Keeps (slot_fails o) (slot_fails p)
    → Keeps (is_some (asked_fault false u b x o)) (is_some (asked_fault false u b y p))
member_worse u b x y None p h k e = let l : false ≡ true = e in cc
member_worse u b x y (Some s) None h k e = let l : false ≡ true = h refl in cc
member_worse u true x y (Some s) (Some t) h k e = refl
member_worse true false x y (Some s) (Some t) h k e = k e
member_worse false false x y (Some s) (Some t) h k e = let l : false ≡ true = e in cc

fault_worse : (r : MemberRules) (f g : MemberSlots) → Worse f g → (n : Known)
    → Keeps (is_some (fault_of n (without_due r) f)) (is_some (fault_of n (without_due r) g))
fault_worse r f g w n =
    rw (not_due n)
    (member_worse (is_among r.used n) (is_among r.forbidden n) (fault_at f.place (missing n)) (fault_at g.place (missing n)) (slot_of n f) (slot_of n g)
    (w.slots n) (w.values n))

shape_worse : (o : Option Simple) (f g : MemberSlots) → Worse f g → Keeps (is_some (shape_as o f.shapes)) (is_some (shape_as o g.shapes))
shape_worse None f g w e = e
shape_worse (Some simple) f g w e = w.shapes simple e

type_worse : (word : Word) (f g : MemberSlots) → Worse f g → Keeps (fails_by word f) (fails_by word g)
type_worse word f g w =
    or_keeps (is_some (members_fault (without_due (rules_of word)) f)) _ (is_some (members_fault (without_due (rules_of word)) g)) _
    (members_keep (without_due (rules_of word)) (without_due (rules_of word)) f g (fault_worse (rules_of word) f g w)) (shape_worse (simple_of word) f g w)

pub fails_worse : (word : Word) (f g : MemberSlots) → Worse f g → Keeps (fails_as word f) (fails_as word g)
fails_worse Word.Other f g w = λ e. e
fails_worse word f g w = type_worse word f g w

-- where all types fail, each does
pub each_fails : (word : Word) (f : MemberSlots) → all_fail f ≡ true → fails_as word f ≡ true
each_fails word f e =
    go word (fails_as Word.Point f) (fails_as Word.MultiPoint f) (fails_as Word.LineString f) (fails_as Word.MultiLineString f) (fails_as Word.Polygon f)
    (fails_as Word.MultiPolygon f) (fails_as Word.GeometryCollection f) (fails_as Word.Feature f)
    (fails_as Word.FeatureCollection f) refl refl refl refl refl refl refl refl refl e
  where
    go : (word : Word) (a b c d k l m n o : Bool) → fails_as Word.Point f ≡ a → fails_as Word.MultiPoint f ≡ b → fails_as Word.LineString f ≡ c
        → fails_as Word.MultiLineString f ≡ d → fails_as Word.Polygon f ≡ k
        → fails_as Word.MultiPolygon f ≡ l → fails_as Word.GeometryCollection f ≡ m → fails_as Word.Feature f ≡ n → fails_as Word.FeatureCollection f ≡ o
        → (a && (b && (c && (d && (k && (l && (m && (n && o)))))))) ≡ true → fails_as word f ≡ true
    go Word.Point true true true true true true true true true p q r s t u v w x e = p
    go Word.MultiPoint true true true true true true true true true p q r s t u v w x e = q
    go Word.LineString true true true true true true true true true p q r s t u v w x e = r
    go Word.MultiLineString true true true true true true true true true p q r s t u v w x e = s
    go Word.Polygon true true true true true true true true true p q r s t u v w x e = t
    go Word.MultiPolygon true true true true true true true true true p q r s t u v w x e = u
    go Word.GeometryCollection true true true true true true true true true p q r s t u v w x e = v
    go Word.Feature true true true true true true true true true p q r s t u v w x e = w
    go Word.FeatureCollection true true true true true true true true true p q r s t u v w x e = x
    go Word.Other a b c d k l m n o p q r s t u v w x e = refl
    go word false b c d k l m n o p q r s t u v w x e = cc
    go word other another third fourth x0 x1 x2 x3 x4 p q r s t u v w x e = cc

all_worse : (f g : MemberSlots) → Worse f g → Keeps (all_fail f) (all_fail g)
all_worse f g w =
    and_keeps (fails_as Word.Point f) _ (fails_as Word.Point g) _ (fails_worse Word.Point f g w)
    (and_keeps (fails_as Word.MultiPoint f) _ (fails_as Word.MultiPoint g) _ (fails_worse Word.MultiPoint f g w)
    (and_keeps (fails_as Word.LineString f) _ (fails_as Word.LineString g) _ (fails_worse Word.LineString f g w)
    (and_keeps (fails_as Word.MultiLineString f) _ (fails_as Word.MultiLineString g) _ (fails_worse Word.MultiLineString f g w)
    (and_keeps (fails_as Word.Polygon f) _ (fails_as Word.Polygon g) _ (fails_worse Word.Polygon f g w)
    (and_keeps (fails_as Word.MultiPolygon f) _ (fails_as Word.MultiPolygon g) _ (fails_worse Word.MultiPolygon f g w)
    (and_keeps (fails_as Word.GeometryCollection f) _ (fails_as Word.GeometryCollection g) _ (fails_worse Word.GeometryCollection f g w)
    (and_keeps (fails_as Word.Feature f) _ (fails_as Word.Feature g) _ (fails_worse Word.Feature f g w) (fails_worse Word.FeatureCollection f g w))))))))

lost_type : (f g : MemberSlots) (old new : Option TypeValue) → Worse f g → TypeStays old new → Keeps (type_lost old f) (type_lost new g)
lost_type f g None None w t = all_worse f g w
lost_type f g None (Some value) w t = λ e. fails_worse value.word f g w (each_fails value.word f e)
lost_type f g (Some value) new w t = subst (λ (o : Option TypeValue). Keeps (fails_as value.word f) (type_lost o g)) (sym t) (fails_worse value.word f g w)

pub lost_worse : (f g : MemberSlots) → Worse f g → TypeStays f.type_value g.type_value → Keeps (is_lost f) (is_lost g)
lost_worse f g w t = or_keeps (is_some f.repeated) _ (is_some g.repeated) _ w.repeated (lost_type f g f.type_value g.type_value w t)

pub type_same : (o p : Option TypeValue) → p ≡ o → TypeStays o p
type_same None p e = tt
type_same (Some value) p e = e

-- ---- a slot

-- of the slots, what may be said of the one that was set holds of each
each_slot : (P : Option Slot → Option Slot → Type 0) → ((o : Option Slot) → P o o) → (m : Known) (s : Slot) (f : MemberSlots) → P (slot_of m f) (Some s)
    → (n : Known) → P (slot_of n f) (slot_of n (with_slot m s f))
each_slot P same_kept m s f h n = go (is_known n) (same n m) refl refl
  where
    go : (k b : Bool) → is_known n ≡ k → same n m ≡ b → P (if k then f.slots n else None) (if k then (if b then Some s else f.slots n) else None)
    go false b i e = same_kept None
    go true false i e = same_kept (f.slots n)
    go true true i e = rw i at (subst (λ (q : Known). P (slot_of q f) (Some s)) (sym (same_is n m e)) h)

some_set : (o : Option Slot) (s : Slot) → Keeps (is_some o) (is_some (Some s))
some_set o s e = refl

pub worse_slot : (m : Known) (s : Slot) (f : MemberSlots) → Keeps (slot_fails (slot_of m f)) (is_some s.fault) → Worse f (with_slot m s f)
worse_slot m s f h = record {
  repeated = λ e. e;
  slots = each_slot (λ (o p : Option Slot). Keeps (is_some o) (is_some p)) (λ o e. e) m s f (some_set (slot_of m f) s);
  values = each_slot (λ (o p : Option Slot). Keeps (slot_fails o) (slot_fails p)) (λ o e. e) m s f h;
  shapes = λ simple e. e;
}

-- ---- and shows the same names

pub record Grows (f g : MemberSlots) : Type 0 where
  pub worse : Worse f g
  pub repeated : g.repeated ≡ f.repeated
  pub type_value : g.type_value ≡ f.type_value
  pub slots : (n : Known) → is_some (slot_of n g) ≡ is_some (slot_of n f)

pub grows_same : (f : MemberSlots) → Grows f f
grows_same f = record { worse = worse_same f; repeated = refl; type_value = refl; slots = λ n. refl }

pub grows_twice : (f g h : MemberSlots) → Grows f g → Grows g h → Grows f h
grows_twice f g h a b = record {
  worse = worse_twice f g h a.worse b.worse;
  repeated = b.repeated ∙ a.repeated;
  type_value = b.type_value ∙ a.type_value;
  slots = λ n. b.slots n ∙ a.slots n;
}

grows_joined_to : (m : Known) (x : Option Fault) (f : MemberSlots) (o : Option Slot) → slot_of m f ≡ o → Grows f (joined_to m x o f)
grows_joined_to m x f None e = grows_same f
grows_joined_to m x f (Some slot) e =
    let s : Slot = record { name_at = slot.name_at; fault = lesser slot.fault x } in
    record {
      worse = worse_slot m s f (subst (λ (o : Option Slot). Keeps (slot_fails o) (is_some s.fault)) (sym e) (lesser_first slot.fault x));
      repeated = refl;
      type_value = refl;
      slots = each_slot (λ (o p : Option Slot). is_some p ≡ is_some o) (λ o. refl) m s f (sym (ap is_some e));
    }

pub grows_joined : (m : Known) (x : Option Fault) (f : MemberSlots) → Grows f (joined m x f)
grows_joined m x f = grows_joined_to m x f (slot_of m f) refl

-- the shapes are set once
pub grows_shapes : (x : Shapes) (f : MemberSlots) → f.shapes ≡ no_shapes → Grows f (shapes_set x f)
grows_shapes x f e = record {
  worse = record {
    repeated = λ h. h;
    slots = λ n h. h;
    values = λ n h. h;
    shapes = λ s h. (let k : is_some (shape_for s no_shapes) ≡ true = rw e at h in let l = no_fault s in cc);
  };
  repeated = refl;
  type_value = refl;
  slots = λ n. refl;
}

-- ---- a name

pub worse_named : (m : Known) (place : ℕ) (f : MemberSlots) (k : Bool) (o : Option Slot) → slot_of m f ≡ o → Worse f (if k then named_known m place o f else f)
worse_named m place f false o e = worse_same f
worse_named m place f true (Some slot) e = record {
  repeated = λ h. lesser_first f.repeated (Some (fault_at place G10)) h;
  slots = λ n h. h;
  values = λ n h. h;
  shapes = λ s h. h;
}
worse_named m place f true None e =
    worse_slot m (record { name_at = place; fault = None }) f (subst (λ (o : Option Slot). Keeps (slot_fails o) false) (sym e) (λ h. h))
