-- From each state in which a value is due, the value's events lead to what the definitions say of it, and what a call
-- needs to know of the state holds before each of them.
use Rattle.gj_rules.proofs.Common.{Bool, Coordinates, Done, Due, Event, False, Fault, Features, Feed, Findings, Frame, G1, Geometries, Geometry, List}
use Rattle.gj_rules.proofs.Common.{MOST_FRAMES, MemberSlots, Members, Mode, Names, Null, Other, Role, RootDue, Slot, State, Text, Told, Tree, True}
use Rattle.gj_rules.proofs.Common.{Warnings, What, all_faults, all_kept, and_kept, ap, append_assoc, arith, array, at_of, blank, constant, depth, due_known}
use Rattle.gj_rules.proofs.Common.{element, elements_told, end_of_array, end_of_object, event_of, false, fault_at, faults, idle, if◌then◌else◌}
use Rattle.gj_rules.proofs.Common.{is_known, least, least-append, length, levels_within, map, map-append, mark_told, marked_kept, member, member_of}
use Rattle.gj_rules.proofs.Common.{members_told, mode_behind, most_levels, number, object, plain, refl, run, settled, slot_of, start, step, string}
use Rattle.gj_rules.proofs.Common.{subst, suc, sym, taken_any, taken_in, text_faults, text_kept, text_told, told, true, uses, value_events, zero, []}
use Rattle.gj_rules.proofs.Common.{◌*◌, ◌++◌, ◌+◌, ◌-◌, ◌<◌, ◌∙◌, ◌∷◌, ◌≤◌}
use Rattle.std.proofs.Common.{◌≡◌, ℕ, Option, Some}
use Rattle.std.proofs.Common.{None}
use Rattle.gj_json.specs.declared.names.Known.{Known}
use Rattle.gj_json.specs.declared.names.Known.TheVariants.{Bbox}
use Rattle.gj_json.specs.Names.{known_of}
use Rattle.gj_json.specs.Tree as Tree
use Rattle.gj_json.specs.Tree.{elements_depth, members_depth}
use Rattle.gj_coords.specs.Internal.KeptWarnings as Noted
use Rattle.gj_rules.specs.Internal.SkippedLevels.{most_skipped}
use Rattle.gj_rules.specs.declared.mode.Mode.TheVariants.{Elements}
use Rattle.gj_rules.specs.Internal.FrameCalls.{named, due_after, joined, filled, member_taken, members_taken}
use Rattle.gj_rules.specs.Internal.TextKept.{kept}
use Rattle.gj_rules.specs.Internal.RulesState.{HasRoom}
use Rattle.gj_rules.specs.Internal.EventSteps.{due_feed, feed_behind}
use Rattle.std.specs.Option.{unwrap_or}
use Rattle.gj_rules.specs.Internal.FeatureSteps.{Heard, unheard, hear, hear_at, hears, begins, ends, lists, is_feature, no_feature, feature_found}
use Rattle.gj_rules.proofs.Features.HeardTrees.{element_heard, elements_heard, due_heard, members_heard, object_heard, root_heard}
use Rattle.gj_rules.proofs.Objects.JoinedFindings.{taken_none, taken_twice, members_shown}
use Rattle.gj_rules.proofs.Objects.AllMembers.{named_object, member_object, members_object}
use Rattle.gj_rules.proofs.Objects.ClosedFrames.{all_closed}
use Rattle.gj_rules.proofs.Texts.TimedEvents.{told-events}

-- ---- what a call needs to know

-- the value that a summary takes goes on so
pub record Fits (feed : Feed) (rest : List Told) : Type 0 where
  pub next : Event
  pub later : List Event
  pub more : List Event
  pub left : feed.left ≡ next ∷ later
  pub split : feed.taken ++ feed.left ≡ value_events feed.value
  pub comes : map event_of rest ≡ feed.left ++ more
  pub deep : depth feed.value ≤ most_levels

-- what comes where a name may come
abbrev pub IsNameOrEnd : What → Type 0
IsNameOrEnd (What.Name name) = Unit {0}
IsNameOrEnd What.CloseObject = Unit {0}
IsNameOrEnd _ = ⊥

-- with so many frames
module _ (frames : ℕ) where
  -- before the event x and those after it
  abbrev pub GoodAt : ℕ → Mode → Told → List Told → State → Type 0
  GoodAt (suc k) m x xs s = suc k < most_skipped
  GoodAt zero (Due Coordinates) x xs s = Fits s.feed (x ∷ xs)
  GoodAt zero (Due Bbox) x xs s = Fits s.feed (x ∷ xs)
  GoodAt zero Names x xs s = IsNameOrEnd (event_of x).what
  GoodAt zero _ x xs s = HasRoom frames (event_of x).what s.core.outer

  abbrev pub Good : Told → List Told → State → Type 0
  Good x xs s = GoodAt s.core.skipped s.core.mode x xs s

  -- the events lead from the state to one of which Z holds, with what was heard until then, and each state before one of them is good
  abbrev pub LeadsTo : List Told → State → Heard → (State → Heard → Type 0) → Type 0
  LeadsTo [] s u Z = Z s u
  LeadsTo (x ∷ xs) s u Z = Good x xs s × LeadsTo xs (step x s) (hear x s u) Z

  -- to the answer z, whatever is heard
  abbrev pub Leads : List Told → State → Findings → Type 0
  Leads [] s z = s.core.answer ≡ z
  Leads (x ∷ xs) s z = Good x xs s × Leads xs (step x s) z

  leads_to : (xs : List Told) (s : State) (u : Heard) (Z : State → Heard → Type 0) → LeadsTo xs s u Z → Z (run xs s) (hears xs s u)
  leads_to [] s u Z h = h
  leads_to (x ∷ xs) s u Z h = leads_to xs (step x s) (hear x s u) Z h.1

  leads_by : (xs : List Told) (s : State) (u : Heard) (Z : State → Heard → Type 0) (z : Findings) → ((t : State) (w : Heard) → Z t w → t.core.answer ≡ z)
      → LeadsTo xs s u Z → Leads xs s z
  leads_by [] s u Z z on h = on s u h
  leads_by (x ∷ xs) s u Z z on h = (h.0, leads_by xs (step x s) (hear x s u) Z z on h.1)

  pub leads_at : (done rest : List Told) (s : State) (z : Findings) → Leads (done ++ rest) s z → Leads rest (run done s) z
  leads_at [] rest s z h = h
  leads_at (x ∷ xs) rest s z h = leads_at xs rest (step x s) z h.1

-- With no value under way. From here on k is the number of skipped levels, m the mode, f the innermost frame, o the
-- frames around it, a the answer so far, and n the level of the object with that frame.
abbrev pub st : ℕ → Mode → Frame → List Frame → Findings → State
st skipped mode top outer answer = record { core = record { skipped = skipped; mode = mode; top = top; outer = outer; answer = answer }; feed = idle }

-- ---- counts of levels

pub up : (k : ℕ) → suc k + 1 ≡ suc (suc k)
up k = omega arith

pub down : (k : ℕ) → suc (suc k) - 1 ≡ suc k
down k = omega arith

-- ---- what a summary takes

abbrev pub feeding : Known → Tree → List Event → List Event → Frame → List Frame → Findings → State
feeding name v taken left f o a =
    record { core = record { skipped = 0; mode = Due name; top = f; outer = o; answer = a }; feed = record { value = v; taken = taken; left = left } }

-- a name whose value a summary takes
abbrev pub IsFed : Known → Type 0
IsFed Coordinates = Unit {0}
IsFed Bbox = Unit {0}
IsFed _ = ⊥

-- nothing is heard in it
pub fed_unheard : (name : Known) → IsFed name → (f : Frame) (what : What) (place n : ℕ) (u : Heard) → hear_at 0 (Due name) f what place n u ≡ u
fed_unheard Coordinates i f What.CloseArray place n u = refl
fed_unheard Coordinates i f _ place n u = refl
fed_unheard Bbox i f What.CloseArray place n u = refl
fed_unheard Bbox i f _ place n u = refl
fed_unheard _ i f what place n u = absurd i

fits : (v : Tree) (taken : List Event) (x : Told) (xs rest : List Told) → depth v ≤ most_levels → taken ++ map event_of (x ∷ xs) ≡ value_events v
    → Fits (record { value = v; taken = taken; left = map event_of (x ∷ xs) }) ((x ∷ xs) ++ rest)
fits v taken x xs rest d e =
    record { deep = d; next = event_of x; later = map event_of xs; more = map event_of rest; left = refl; split = e; comes = map-append event_of (x ∷ xs) rest }

pub one_more : (v : Tree) (taken : List Event) (x : Told) (xs : List Told) → taken ++ map event_of (x ∷ xs) ≡ value_events v
    → (taken ++ event_of x ∷ []) ++ map event_of xs ≡ value_events v
one_more v taken x xs e = append_assoc taken (event_of x ∷ []) (map event_of xs) ∙ e

-- a value has an event
pub some_told : (v : Tree) → (x : Told) × (xs : List Told) × (told v ≡ x ∷ xs)
some_told (constant which place) = (_, _, refl)
some_told other = (_, _, refl)

-- ---- what has a role

-- how much of two levels an object with the role may lack for its frame
abbrev pub credit : Role → ℕ
credit Role.Root = 1
credit Role.Feature = 1
credit other = 2

credit_small : (r : Role) → credit r ≤ 2
credit_small Role.Root = omega arith
credit_small other = omega arith

-- the object with the innermost frame is at level n
abbrev pub IsWithin : ℕ → List Frame → Role → Type 0
IsWithin n o r = 2 * (length o + 1) ≤ n + credit r

abbrev pub MayHold : Role → Known → Type 0
MayHold r Geometry = credit r ≤ 1
MayHold r Features = credit r ≤ 1
MayHold r _ = Unit {0}

uses_hold : (r : Role) (name : Known) → uses r name ≡ true → MayHold r name
uses_hold Role.Root Geometry e = omega arith
uses_hold Role.Root Features e = omega arith
uses_hold Role.Feature Geometry e = omega arith
uses_hold Role.Feature Features e = cc
uses_hold Role.Geometry Geometry e = cc
uses_hold Role.Geometry Features e = cc
uses_hold Role.Part Geometry e = cc
uses_hold Role.Part Features e = cc
uses_hold _ _ e = tt

pub due_holds : (name : Known) (r : Role) (k u : Bool) (o : Option Slot) → uses r name ≡ u → MayHold r (if k then due_known name o r else Other)
due_holds name r true u (Some slot) e = tt
due_holds name r true true None e = rw e (uses_hold r name e)
due_holds name r true false None e = rw e tt
due_holds name r false u o e = tt

-- the roles of elements
abbrev pub IsListed : Role → Type 0
IsListed Role.Part = Unit {0}
IsListed Role.Feature = Unit {0}
IsListed _ = ⊥

pub known_list : (r : Role) → IsListed r → is_known (member_of r) ≡ true
known_list Role.Part h = refl
known_list Role.Feature h = refl
known_list _ h = absurd h

pub mode_listed : (r : Role) → IsListed r → mode_behind r ≡ Elements r
mode_listed Role.Part h = refl
mode_listed Role.Feature h = refl
mode_listed _ h = absurd h

-- the members change no role
pub frame_role : (ms : Members) (f : Frame) → (members_taken ms f).slots.role ≡ f.slots.role
frame_role ms f = ap (λ (s : MemberSlots). s.role) (members_shown ms f) ∙ (members_object ms f.slots).role

frame_place : (ms : Members) (f : Frame) → (members_taken ms f).slots.place ≡ f.slots.place
frame_place ms f = ap (λ (s : MemberSlots). s.place) (members_shown ms f) ∙ (members_object ms f.slots).place

-- at the end of an array that is not looked into
abbrev array_closed : Mode → ℕ → Heard → Heard
array_closed m close u = ends (lists m) (close + 1) (no_feature (length u.told) (unwrap_or u.begun 0) (Some close)) u

-- the end of an object that has a role, below another
abbrev pub behind : ℕ → Role → Findings → Frame → List Frame → Findings → State
behind close r found f o a =
    record {
      core = record { skipped = 0; mode = mode_behind r; top = taken_in (member_of r) found f; outer = o; answer = a };
      feed =
          feed_behind (plain (close + 1) close What.CloseObject) (mode_behind r);
    }

pub behind_idle : (close : ℕ) (r : Role) (found : Findings) (f : Frame) (o : List Frame) (a : Findings)
    → behind close r found f o a ≡ st 0 (mode_behind r) (taken_in (member_of r) found f) o a
behind_idle close Role.Root found f o a = refl
behind_idle close other found f o a = refl

-- the value after a name is due
abbrev pub due_st : Known → Tree → Frame → List Frame → Findings → State
due_st name v f o a = record { core = record { skipped = 0; mode = Due name; top = f; outer = o; answer = a }; feed = due_feed name v }

-- ---- the text

-- what is found in a text, given what was found before its value
abbrev pub found_behind : Warnings → Tree → Findings
found_behind had v = record { fault = least (faults Role.Root v); warned = and_kept had (kept Role.Root v) }

abbrev pub had_found : Warnings → Findings
had_found had = record { fault = None; warned = had }

-- before the value of the text
abbrev pub due_root : Warnings → State
due_root had = st 0 RootDue (blank Role.Root 0) [] (had_found had)

-- what is found in a text
abbrev pub text_found : Text → Findings
text_found text = record { fault = least (text_faults text); warned = text_kept text }

-- ---- the events of a value lead on, with so many frames

module _ (frames : ℕ) (few : frames ≤ MOST_FRAMES) where
  mutual
    skip_value : (v : Tree) (rest : List Told) (k : ℕ) (m : Mode) (f : Frame) (o : List Frame) (a : Findings) (u : Heard) (z : State → Heard → Type 0)
        → k + depth v ≤ levels_within frames
        → LeadsTo frames rest (st (suc k) m f o a) u z → LeadsTo frames (told v ++ rest) (st (suc k) m f o a) u z
    skip_value (constant Null place) rest k m f o a u z d h = (omega arith, h)
    skip_value (constant True place) rest k m f o a u z d h = (omega arith, h)
    skip_value (constant False place) rest k m f o a u z d h = (omega arith, h)
    skip_value (number place literal end) rest k m f o a u z d h = (omega arith, h)
    skip_value (string place content end) rest k m f o a u z d h = (omega arith, h)
    skip_value (array place es close) rest k m f o a u z d h = (
      omega arith,
      rw (append_assoc (elements_told es) (plain (close + 1) close What.CloseArray ∷ []) rest)
          (subst (λ n. LeadsTo frames (elements_told es ++ plain (close + 1) close What.CloseArray ∷ rest) (st n m f o a) u z) (sym (up k))
          (skip_elements es (plain (close + 1) close What.CloseArray ∷ rest) (suc k) m f o a u z (omega arith)
          (omega arith, subst (λ n. LeadsTo frames rest (st n m f o a) u z) (sym (down k)) h))),
    )
    skip_value (object place ms close) rest k m f o a u z d h = (
      omega arith,
      rw (append_assoc (members_told ms) (plain (close + 1) close What.CloseObject ∷ []) rest)
          (subst (λ n. LeadsTo frames (members_told ms ++ plain (close + 1) close What.CloseObject ∷ rest) (st n m f o a) u z) (sym (up k))
          (skip_members ms (plain (close + 1) close What.CloseObject ∷ rest) (suc k) m f o a u z (omega arith)
          (omega arith, subst (λ n. LeadsTo frames rest (st n m f o a) u z) (sym (down k)) h))),
    )

    skip_elements : (es : Tree.Elements) (rest : List Told) (k : ℕ) (m : Mode) (f : Frame) (o : List Frame) (a : Findings) (u : Heard) (z : State → Heard → Type 0)
        → k + elements_depth es ≤ levels_within frames
        → LeadsTo frames rest (st (suc k) m f o a) u z → LeadsTo frames (elements_told es ++ rest) (st (suc k) m f o a) u z
    skip_elements end_of_array rest k m f o a u z d h = h
    skip_elements (element v more) rest k m f o a u z d h =
        rw (append_assoc (told v) (elements_told more) rest)
        (skip_value v (elements_told more ++ rest) k m f o a u z (omega arith) (skip_elements more rest k m f o a u z (omega arith) h))

    skip_members : (ms : Members) (rest : List Told) (k : ℕ) (m : Mode) (f : Frame) (o : List Frame) (a : Findings) (u : Heard) (z : State → Heard → Type 0)
        → k + members_depth ms ≤ levels_within frames
        → LeadsTo frames rest (st (suc k) m f o a) u z → LeadsTo frames (members_told ms ++ rest) (st (suc k) m f o a) u z
    skip_members end_of_object rest k m f o a u z d h = h
    skip_members (member place name end v more) rest k m f o a u z d h = (
      omega arith,
      rw (append_assoc (told v) (members_told more) rest)
          (skip_value v (members_told more ++ rest) k m f o a u z (omega arith) (skip_members more rest k m f o a u z (omega arith) h)),
    )

  -- the rest of an array or an object that is not looked into
  array_skipped : (es : Tree.Elements) (close : ℕ) (rest : List Told) (m : Mode) (f : Frame) (o : List Frame) (a : Findings) (u : Heard) (z : State → Heard → Type 0)
      → elements_depth es ≤ levels_within frames
      → LeadsTo frames rest (st 0 m f o a) (array_closed m close u) z
      → LeadsTo frames ((elements_told es ++ plain (close + 1) close What.CloseArray ∷ []) ++ rest) (st 1 m f o a) u z
  array_skipped es close rest m f o a u z d h =
      rw (append_assoc (elements_told es) (plain (close + 1) close What.CloseArray ∷ []) rest)
      (skip_elements es (plain (close + 1) close What.CloseArray ∷ rest) 0 m f o a u z (omega arith) (omega arith, h))

  object_skipped : (ms : Members) (close : ℕ) (rest : List Told) (m : Mode) (f : Frame) (o : List Frame) (a : Findings) (u : Heard) (z : State → Heard → Type 0)
      → members_depth ms ≤ levels_within frames
      → LeadsTo frames rest (st 0 m f o a) u z → LeadsTo frames ((members_told ms ++ plain (close + 1) close What.CloseObject ∷ []) ++ rest) (st 1 m f o a) u z
  object_skipped ms close rest m f o a u z d h =
      rw (append_assoc (members_told ms) (plain (close + 1) close What.CloseObject ∷ []) rest)
      (skip_members ms (plain (close + 1) close What.CloseObject ∷ rest) 0 m f o a u z (omega arith) (omega arith, h))

  fed_more : (name : Known) (i : IsFed name) (x : Told) (rest : List Told) (s : State) (f : Frame) (u : Heard) (z : State → Heard → Type 0)
      → LeadsTo frames rest s u z → LeadsTo frames rest s (hear_at 0 (Due name) f (event_of x).what (event_of x).place (at_of x) u) z
  fed_more name i x rest s f u z h =
      subst (λ (w : Heard). LeadsTo frames rest s w z) (sym (fed_unheard name i f (event_of x).what (event_of x).place (at_of x) u)) h

  feed_all : (name : Known) → IsFed name
      → (v : Tree) (taken : List Event) (x : Told) (xs rest : List Told) (f : Frame) (o : List Frame) (a : Findings) (u : Heard) (z : State → Heard → Type 0)
      → depth v ≤ levels_within frames → taken ++ map event_of (x ∷ xs) ≡ value_events v
      → LeadsTo frames rest (st 0 Names (filled name v f) o a) u z → LeadsTo frames ((x ∷ xs) ++ rest) (feeding name v taken (map event_of (x ∷ xs)) f o a) u z
  feed_all Coordinates i v taken x [] rest f o a u z d e h =
      (fits v taken x [] rest (omega arith) e, fed_more Coordinates i x rest (st 0 Names (filled Coordinates v f) o a) f u z h)
  feed_all Coordinates i v taken x (y ∷ ys) rest f o a u z d e h = (
    fits v taken x (y ∷ ys) rest (omega arith) e,
    fed_more Coordinates i x ((y ∷ ys) ++ rest) (feeding Coordinates v (taken ++ event_of x ∷ []) (map event_of (y ∷ ys)) f o a) f u z
        (feed_all Coordinates i v (taken ++ event_of x ∷ []) y ys rest f o a u z d (one_more v taken x (y ∷ ys) e) h),
  )
  feed_all Bbox i v taken x [] rest f o a u z d e h =
      (fits v taken x [] rest (omega arith) e, fed_more Bbox i x rest (st 0 Names (filled Bbox v f) o a) f u z h)
  feed_all Bbox i v taken x (y ∷ ys) rest f o a u z d e h = (
    fits v taken x (y ∷ ys) rest (omega arith) e,
    fed_more Bbox i x ((y ∷ ys) ++ rest) (feeding Bbox v (taken ++ event_of x ∷ []) (map event_of (y ∷ ys)) f o a) f u z
        (feed_all Bbox i v (taken ++ event_of x ∷ []) y ys rest f o a u z d (one_more v taken x (y ∷ ys) e) h),
  )
  feed_all _ i v taken x xs rest f o a u z d e h = absurd i

  feed_told : (name : Known) → IsFed name → (v : Tree) (x : Told) (xs rest : List Told) (f : Frame) (o : List Frame) (a : Findings) (u : Heard) (z : State → Heard → Type 0)
      → depth v ≤ levels_within frames → told v ≡ x ∷ xs
      → LeadsTo frames rest (st 0 Names (filled name v f) o a) u z → LeadsTo frames (told v ++ rest) (feeding name v [] (value_events v) f o a) u z
  feed_told name i v x xs rest f o a u z d e h =
      subst (λ (es : List Event). LeadsTo frames (told v ++ rest) (feeding name v [] es f o a) u z) (told-events v)
      (subst (λ (ts : List Told). LeadsTo frames (ts ++ rest) (feeding name v [] (map event_of ts) f o a) u z) (sym e)
      (feed_all name i v [] x xs rest f o a u z d (ap (λ (ts : List Told). map event_of ts) (sym e) ∙ told-events v) h))

  feed_value : (name : Known) → IsFed name → (v : Tree) (rest : List Told) (f : Frame) (o : List Frame) (a : Findings) (u : Heard) (z : State → Heard → Type 0)
      → depth v ≤ levels_within frames
      → LeadsTo frames rest (st 0 Names (filled name v f) o a) u z → LeadsTo frames (told v ++ rest) (feeding name v [] (value_events v) f o a) u z
  feed_value name i v rest f o a u z d h = let s = some_told v in feed_told name i v s.0 s.1 rest f o a u z d s.2 h

  abbrev closed_as : ℕ → Heard → Role → ℕ → Findings → Heard
  closed_as close u r place found = ends (is_feature r) (close + 1) (feature_found found (length u.told) place close u.begun) u

  close_below : (r : Role) (place close : ℕ) (ms : Members) (rest : List Told) (f : Frame) (o : List Frame) (a : Findings) (u : Heard) (z : State → Heard → Type 0)
      → LeadsTo frames rest (st 0 (mode_behind r) (taken_any (member_of r) (least (faults r (object place ms close))) (kept r (object place ms close)) f) o a)
      (object_heard r place close ms u) z
      → LeadsTo frames (plain (close + 1) close What.CloseObject ∷ rest) (st 0 Names (members_taken ms (blank r place)) (f ∷ o) a) u z
  close_below r place close ms rest f o a u z h =
      let inner : Frame = members_taken ms (blank r place) in
      let e : inner.slots.role ≡ r = frame_role ms (blank r place) in
      let p : inner.slots.place ≡ place = frame_place ms (blank r place) in
      let told : closed_as close u inner.slots.role inner.slots.place (settled inner) ≡ object_heard r place close ms u =
      ap (λ (q : Role). closed_as close u q inner.slots.place (settled inner)) e
      ∙ (ap (λ (n : ℕ). closed_as close u r n (settled inner)) p ∙ ap (closed_as close u r place) (all_closed r place close ms)) in
      let w : Heard = object_heard r place close ms u in (
        tt,
        subst (λ (v : Heard). LeadsTo frames rest (behind close inner.slots.role (settled inner) f o a) v z) (sym told)
            (subst (λ (q : Role). LeadsTo frames rest (behind close q (settled inner) f o a) w z) (sym e)
            (subst (λ (s : State). LeadsTo frames rest s w z) (sym (behind_idle close r (settled inner) f o a))
            (subst (λ (x : Findings). LeadsTo frames rest (st 0 (mode_behind r) (taken_in (member_of r) x f) o a) w z) (sym (all_closed r place close ms)) h))),
      )

  mutual
    -- the value of a first member, in an object at level n
    lead_due : (v : Tree) (name : Known) (rest : List Told) (f : Frame) (o : List Frame) (a : Findings) (u : Heard) (z : State → Heard → Type 0) (n : ℕ) (r : Role)
        → n + depth v ≤ levels_within frames → IsWithin n o r → f.slots.role ≡ r → MayHold r name
        → LeadsTo frames rest (st 0 Names (filled name v f) o a) (due_heard name f.slots.role v u) z → LeadsTo frames (told v ++ rest) (due_st name v f o a) u z
    lead_due v Coordinates rest f o a u z n r d w e m h = feed_value Coordinates tt v rest f o a u z (omega arith) h
    lead_due v Bbox rest f o a u z n r d w e m h = feed_value Bbox tt v rest f o a u z (omega arith) h
    lead_due (constant Null place) name rest f o a u z n r d w e m h = (tt, h)
    lead_due (constant True place) name rest f o a u z n r d w e m h = (tt, h)
    lead_due (constant False place) name rest f o a u z n r d w e m h = (tt, h)
    lead_due (number place literal end) name rest f o a u z n r d w e m h = (tt, h)
    lead_due (string place content end) name rest f o a u z n r d w e m h = (tt, h)
    lead_due (array place es close) Geometries rest f o a u z n r d w e m h = (
      tt,
      rw (append_assoc (elements_told es) (plain (close + 1) close What.CloseArray ∷ []) rest)
          (lead_elements es Role.Part tt (plain (close + 1) close What.CloseArray ∷ rest) f o a u z (n + 1) (omega arith) (omega (arith, credit_small r))
          (tt, h)),
    )
    lead_due (array place es close) Features rest f o a u z n r d w e m h = (
      tt,
      rw (append_assoc (elements_told es) (plain (close + 1) close What.CloseArray ∷ []) rest)
          (lead_elements es Role.Feature tt (plain (close + 1) close What.CloseArray ∷ rest) f o a u z (n + 1) (omega arith) (omega (arith, m)) (tt, h)),
    )
    lead_due (array place es close) name rest f o a u z n r d w e m h =
        let v : Tree = array place es close in
        (tt, array_skipped es close rest Names (filled name v f) o a (due_heard name f.slots.role v u) z (omega arith) h)
    lead_due (object place ms close) Geometry rest f o a u z n r d w e m h = (
      omega (arith, credit_small r),
      rw (append_assoc (members_told ms) (plain (close + 1) close What.CloseObject ∷ []) rest)
          (lead_members ms (plain (close + 1) close What.CloseObject ∷ rest) (blank Role.Geometry place) (f ∷ o) a u z (n + 1) Role.Geometry (omega arith)
          (omega (arith, m)) refl
          (close_below Role.Geometry place close ms rest f o a (members_heard (blank Role.Geometry place) ms u) z h)),
    )
    lead_due (object place ms close) name rest f o a u z n r d w e m h =
        let v : Tree = object place ms close in
        (omega (arith, credit_small r), object_skipped ms close rest Names (filled name v f) o a (due_heard name f.slots.role v u) z (omega arith) h)

    -- an element of an array of values with a role, where the array is at level n
    lead_element : (v : Tree) (r : Role) → IsListed r → (rest : List Told) (f : Frame) (o : List Frame) (a : Findings) (u : Heard) (z : State → Heard → Type 0) (n : ℕ)
        → n + depth v ≤ levels_within frames → 2 * (length o + 2) ≤ n + 1 + credit r
        → LeadsTo frames rest (st 0 (Elements r) (taken_any (member_of r) (least (faults r v)) (kept r v) f) o a) (element_heard r v u) z
        → LeadsTo frames (told v ++ rest) (st 0 (Elements r) f o a) u z
    lead_element (constant Null place) Role.Part i rest f o a u z n d w h = (tt, h)
    lead_element (constant Null place) Role.Feature i rest f o a u z n d w h = (tt, h)
    lead_element (constant Null place) _ i rest f o a u z n d w h = absurd i
    lead_element (constant True place) r i rest f o a u z n d w h = (tt, h)
    lead_element (constant False place) r i rest f o a u z n d w h = (tt, h)
    lead_element (number place literal end) r i rest f o a u z n d w h = (tt, h)
    lead_element (string place content end) r i rest f o a u z n d w h = (tt, h)
    lead_element (array place es close) r i rest f o a u z n d w h =
        let g : Frame = joined (member_of r) (Some (fault_at place G1)) f in
        (tt, array_skipped es close rest (Elements r) g o a (begins (is_feature r) place u) z (omega arith) h)
    lead_element (object place ms close) r i rest f o a u z n d w h = (
      omega (arith, credit_small r),
      rw (append_assoc (members_told ms) (plain (close + 1) close What.CloseObject ∷ []) rest)
          (lead_members ms (plain (close + 1) close What.CloseObject ∷ rest) (blank r place) (f ∷ o) a u z (n + 1) r (omega arith) (omega arith) refl
          (close_below r place close ms rest f o a (members_heard (blank r place) ms u) z
          (subst (λ (m : Mode). LeadsTo frames rest
          (st 0 m (taken_any (member_of r) (least (faults r (object place ms close))) (kept r (object place ms close)) f) o a)
          (element_heard r (object place ms close) u) z)
          (sym (mode_listed r i)) h))),
    )

    lead_elements : (es : Tree.Elements) (r : Role) → IsListed r → (rest : List Told) (f : Frame) (o : List Frame) (a : Findings) (u : Heard) (z : State → Heard → Type 0) (n : ℕ)
        → n + elements_depth es ≤ levels_within frames → 2 * (length o + 2) ≤ n + 1 + credit r
        → LeadsTo frames rest (st 0 (Elements r) (taken_any (member_of r) (least (all_faults r es)) (all_kept r es) f) o a) (elements_heard r es u) z
        → LeadsTo frames (elements_told es ++ rest) (st 0 (Elements r) f o a) u z
    lead_elements end_of_array r i rest f o a u z n d w h = subst (λ (g : Frame). LeadsTo frames rest (st 0 (Elements r) g o a) u z) (taken_none (member_of r) f) h
    lead_elements (element v more) r i rest f o a u z n d w h =
        rw (append_assoc (told v) (elements_told more) rest)
        (lead_element v r i (elements_told more ++ rest) f o a u z n (omega arith) w
        (lead_elements more r i rest (taken_any (member_of r) (least (faults r v)) (kept r v) f) o a (element_heard r v u) z n (omega arith) w
        (subst (λ (g : Frame). LeadsTo frames rest (st 0 (Elements r) g o a) (elements_heard r more (element_heard r v u)) z)
        (ap (λ (x : Option Fault). taken_any (member_of r) x (all_kept r (element v more)) f) (least-append (faults r v) (all_faults r more))
        ∙ sym (taken_twice (member_of r) f (least (faults r v)) (least (all_faults r more)) (kept r v) (all_kept r more) (known_list r i))) h)))

    -- the members of an object at level n
    lead_members : (ms : Members) (rest : List Told) (f : Frame) (o : List Frame) (a : Findings) (u : Heard) (z : State → Heard → Type 0) (n : ℕ) (r : Role)
        → n + members_depth ms ≤ levels_within frames → IsWithin n o r → f.slots.role ≡ r
        → LeadsTo frames rest (st 0 Names (members_taken ms f) o a) (members_heard f ms u) z
        → LeadsTo frames (members_told ms ++ rest) (st 0 Names f o a) u z
    lead_members end_of_object rest f o a u z n r d w e h = h
    lead_members (member place name end v more) rest f o a u z n r d w e h = (
      tt,
      rw (append_assoc (told v) (members_told more) rest)
          (lead_due v (due_after (known_of name) f) (members_told more ++ rest) (named (known_of name) place f) o a u z n r (omega arith) w
          ((named_object (known_of name) place f.slots (is_known (known_of name)) (slot_of (known_of name) f.slots)).role ∙ e)
          (subst (λ (q : Role). MayHold r (if is_known (known_of name) then due_known (known_of name) (slot_of (known_of name) f.slots) q else Other)) (sym e)
          (due_holds (known_of name) r (is_known (known_of name)) (uses r (known_of name)) (slot_of (known_of name) f.slots) refl))
          (lead_members more rest (member_taken place (known_of name) v f) o a
          (due_heard (due_after (known_of name) f) (named (known_of name) place f).slots.role v u) z n r (omega arith) w
          ((member_object (known_of name) place v f.slots).role ∙ e) h)),
    )

  -- what is found in a text and what is heard of its features
  abbrev Ends : Warnings → Tree → State → Heard → Type 0
  Ends had v t u = (t.core.answer ≡ found_behind had v) × (u ≡ root_heard v)

  lead_root : (v : Tree) (had : Warnings) → depth v ≤ levels_within frames → LeadsTo frames (told v) (due_root had) unheard (Ends had v)
  lead_root (constant Null place) had d = (tt, (refl, refl))
  lead_root (constant True place) had d = (tt, (refl, refl))
  lead_root (constant False place) had d = (tt, (refl, refl))
  lead_root (number place literal end) had d = (tt, (refl, refl))
  lead_root (string place content end) had d = (tt, (refl, refl))
  lead_root (array place es close) had d = (
    tt,
    skip_elements es (plain (close + 1) close What.CloseArray ∷ []) 0 Done (blank Role.Root 0) [] (found_behind had (array place es close)) unheard
        (Ends had (array place es close)) (omega arith) (omega arith, (refl, refl)),
  )
  lead_root (object place ms close) had d = (
    omega arith,
    lead_members ms (plain (close + 1) close What.CloseObject ∷ []) (blank Role.Root place) [] (had_found had) unheard
        (Ends had (object place ms close)) 1 Role.Root (omega arith) (omega arith) refl (
          tt,
          (
            ap (λ (x : Findings). record { fault = x.fault; warned = Noted.joined had x.warned }) (all_closed Role.Root place close ms),
            rw (frame_role ms (blank Role.Root place)) refl,
          ),
        ),
  )

  lead_marked : (marked : Bool) (v : Tree) → depth v ≤ levels_within frames
      → LeadsTo frames (mark_told marked ++ told v) start unheard (Ends (marked_kept marked) v)
  lead_marked true v d = (tt, lead_root v (marked_kept true) d)
  lead_marked false v d = lead_root v (marked_kept false) d

  pub lead_text : (text : Text) → depth text.value ≤ levels_within frames → Leads frames (text_told text) start (text_found text)
  lead_text text d =
      leads_by frames (text_told text) start unheard (Ends (marked_kept text.marked) text.value) (text_found text) (λ t w e. e.0)
      (lead_marked text.marked text.value d)

  -- all that is heard in the events of a text
  pub heard_in : (text : Text) → depth text.value ≤ levels_within frames → hears (text_told text) start unheard ≡ root_heard text.value
  heard_in text d =
      (leads_to frames (text_told text) start unheard (Ends (marked_kept text.marked) text.value) (lead_marked text.marked text.value d)).1
