-- While the events of a value come, the text's object shows no other names, and what fails in it goes on to fail.
use Rattle.gj_rules.proofs.Common.{Coordinates, Event, False, Fault, Features, Findings, Frame, G1, Geometries, Geometry, List, MemberSlots, Members}
use Rattle.gj_rules.proofs.Common.{Mode, Names, Null, Role, State, Told, Tree, True, Warnings, all_faults, all_kept, ap, arith, array, blank}
use Rattle.gj_rules.proofs.Common.{constant, element, elements_told, end_of_array, end_of_object, event_of, fault_at, faults, frame_in, get_or, least}
use Rattle.gj_rules.proofs.Common.{least-append, length, map, member, member_of, members_told, mode_behind, number, object, plain, refl, reverse, run}
use Rattle.gj_rules.proofs.Common.{settled, step, string, subst, suc, sym, take, taken_any, taken_in, told, value_events, zero, [], ◌++◌, ◌+◌, ◌<◌}
use Rattle.gj_rules.proofs.Common.{◌∙◌, ◌∷◌}
use Rattle.std.proofs.Common.{◌≡◌, ℕ, Option, Some}
use Rattle.std.proofs.Math.Seq.{take-suc}
use Rattle.std.proofs.lemmas.List.{reverse-append}
use Rattle.gj_json.specs.declared.names.Known.{Known}
use Rattle.gj_json.specs.declared.names.Known.TheVariants.{Bbox}
use Rattle.gj_json.specs.declared.event.What.TheVariants as What
use Rattle.gj_json.specs.Names.{known_of}
use Rattle.gj_json.specs.Tree as Tree
use Rattle.gj_rules.specs.declared.mode.Mode.TheVariants.{Elements}
use Rattle.gj_rules.specs.Internal.FrameCalls.{named, due_after, joined, filled, member_taken, members_taken}
use Rattle.gj_rules.specs.Internal.RulesState.{no_frame}
use Rattle.gj_rules.specs.Internal.LostObjects.{root_of}
use Rattle.gj_rules.specs.declared.frame.Frame as D
use Rattle.gj_rules.specs.Internal.TextKept.{kept}
use Rattle.gj_rules.proofs.Objects.ClosedFrames.{all_closed}
use Rattle.gj_rules.proofs.Objects.GrowingFaults.{Grows, grows_same, grows_twice, grows_joined}
use Rattle.gj_rules.proofs.Texts.ValuesByEvents.{st, feeding, due_st, behind, behind_idle, mode_listed, known_list, IsListed, IsFed, some_told, up, down}
use Rattle.gj_rules.proofs.Texts.ValuesByEvents.{frame_role}
use Rattle.gj_rules.proofs.Objects.JoinedFindings.{taken_none, taken_twice}
use Rattle.gj_rules.proofs.Texts.TimedEvents.{told-events}

-- ---- along events

-- what the text's object has shown lies between the two
pub record In (f g h : MemberSlots) : Type 0 where
  pub lo : Grows f g
  pub hi : Grows g h

abbrev pub root : State → MemberSlots
root s = root_of s.core.top s.core.outer

-- before each of the events it does, and nothing is answered; they lead from the state s to t
abbrev pub Thru : MemberSlots → MemberSlots → Findings → List Told → State → State → Type 0
Thru f h a [] s t = s ≡ t
Thru f h a (x ∷ xs) s t = (In f (root s) h × (s.core.answer ≡ a)) × Thru f h a xs (step x s) t

pub thru_both : (f h : MemberSlots) (a : Findings) (xs ys : List Told) (s t u : State) → Thru f h a xs s t → Thru f h a ys t u → Thru f h a (xs ++ ys) s u
thru_both f h a [] ys s t u p q = subst (λ (z : State). Thru f h a ys z u) (sym p) q
thru_both f h a (x ∷ xs) ys s t u p q = (p.0, thru_both f h a xs ys (step x s) t u p.1 q)

pub thru_run : (f h : MemberSlots) (a : Findings) (xs : List Told) (s t : State) → Thru f h a xs s t → run xs s ≡ t
thru_run f h a [] s t p = p
thru_run f h a (x ∷ xs) s t p = thru_run f h a xs (step x s) t p.1

pub thru_at : (f h : MemberSlots) (a : Findings) (done : List Told) (x : Told) (rest : List Told) (s t : State) → Thru f h a (done ++ x ∷ rest) s t
    → In f (root (run done s)) h × ((run done s).core.answer ≡ a)
thru_at f h a [] x rest s t p = p.0
thru_at f h a (y ∷ ys) x rest s t p = thru_at f h a ys x rest (step y s) t p.1

-- ---- what is not looked into

mutual
  skip_value : (v : Tree) (k : ℕ) (m : Mode) (g : Frame) (o : List Frame) (a : Findings) (f h : MemberSlots) → In f (root_of g o) h
      → Thru f h a (told v) (st (suc k) m g o a) (st (suc k) m g o a)
  skip_value (constant Null place) k m g o a f h i = ((i, refl), refl)
  skip_value (constant True place) k m g o a f h i = ((i, refl), refl)
  skip_value (constant False place) k m g o a f h i = ((i, refl), refl)
  skip_value (number place literal end) k m g o a f h i = ((i, refl), refl)
  skip_value (string place content end) k m g o a f h i = ((i, refl), refl)
  skip_value (array place es close) k m g o a f h i = (
    (i, refl),
    subst (λ n. Thru f h a (elements_told es ++ plain (close + 1) close What.CloseArray ∷ []) (st n m g o a) (st (suc k) m g o a)) (sym (up k))
        (thru_both f h a (elements_told es) (plain (close + 1) close What.CloseArray ∷ []) (st (suc (suc k)) m g o a) (st (suc (suc k)) m g o a)
        (st (suc k) m g o a)
        (skip_elements es (suc k) m g o a f h i) ((i, refl), ap (λ n. st n m g o a) (down k))),
  )
  skip_value (object place ms close) k m g o a f h i = (
    (i, refl),
    subst (λ n. Thru f h a (members_told ms ++ plain (close + 1) close What.CloseObject ∷ []) (st n m g o a) (st (suc k) m g o a)) (sym (up k))
        (thru_both f h a (members_told ms) (plain (close + 1) close What.CloseObject ∷ []) (st (suc (suc k)) m g o a) (st (suc (suc k)) m g o a)
        (st (suc k) m g o a)
        (skip_members ms (suc k) m g o a f h i) ((i, refl), ap (λ n. st n m g o a) (down k))),
  )

  skip_elements : (es : Tree.Elements) (k : ℕ) (m : Mode) (g : Frame) (o : List Frame) (a : Findings) (f h : MemberSlots) → In f (root_of g o) h
      → Thru f h a (elements_told es) (st (suc k) m g o a) (st (suc k) m g o a)
  skip_elements end_of_array k m g o a f h i = refl
  skip_elements (element v more) k m g o a f h i =
      thru_both f h a (told v) (elements_told more) (st (suc k) m g o a) (st (suc k) m g o a) (st (suc k) m g o a) (skip_value v k m g o a f h i)
      (skip_elements more k m g o a f h i)

  skip_members : (ms : Members) (k : ℕ) (m : Mode) (g : Frame) (o : List Frame) (a : Findings) (f h : MemberSlots) → In f (root_of g o) h
      → Thru f h a (members_told ms) (st (suc k) m g o a) (st (suc k) m g o a)
  skip_members end_of_object k m g o a f h i = refl
  skip_members (member place name end v more) k m g o a f h i = (
    (i, refl),
    thru_both f h a (told v) (members_told more) (st (suc k) m g o a) (st (suc k) m g o a) (st (suc k) m g o a) (skip_value v k m g o a f h i)
        (skip_members more k m g o a f h i),
  )

-- the rest of an array or an object that is not looked into
pub array_rest : (es : Tree.Elements) (close : ℕ) (m : Mode) (g : Frame) (o : List Frame) (a : Findings) (f h : MemberSlots) → In f (root_of g o) h
    → Thru f h a (elements_told es ++ plain (close + 1) close What.CloseArray ∷ []) (st 1 m g o a) (st 0 m g o a)
array_rest es close m g o a f h i =
    thru_both f h a (elements_told es) (plain (close + 1) close What.CloseArray ∷ []) (st 1 m g o a) (st 1 m g o a) (st 0 m g o a)
    (skip_elements es 0 m g o a f h i) ((i, refl), refl)

pub object_rest : (ms : Members) (close : ℕ) (m : Mode) (g : Frame) (o : List Frame) (a : Findings) (f h : MemberSlots) → In f (root_of g o) h
    → Thru f h a (members_told ms ++ plain (close + 1) close What.CloseObject ∷ []) (st 1 m g o a) (st 0 m g o a)
object_rest ms close m g o a f h i =
    thru_both f h a (members_told ms) (plain (close + 1) close What.CloseObject ∷ []) (st 1 m g o a) (st 1 m g o a) (st 0 m g o a)
    (skip_members ms 0 m g o a f h i) ((i, refl), refl)

-- ---- what a summary takes

feed_all : (name : Known) → IsFed name
    → (v : Tree) (taken : List Event) (x : Told) (xs : List Told) (g : Frame) (o : List Frame) (a : Findings) (f h : MemberSlots) → In f (root_of g o) h
    → Thru f h a (x ∷ xs) (feeding name v taken (map event_of (x ∷ xs)) g o a) (st 0 Names (filled name v g) o a)
feed_all Coordinates q v taken x [] g o a f h i = ((i, refl), refl)
feed_all Coordinates q v taken x (y ∷ ys) g o a f h i = ((i, refl), feed_all Coordinates q v (taken ++ event_of x ∷ []) y ys g o a f h i)
feed_all Bbox q v taken x [] g o a f h i = ((i, refl), refl)
feed_all Bbox q v taken x (y ∷ ys) g o a f h i = ((i, refl), feed_all Bbox q v (taken ++ event_of x ∷ []) y ys g o a f h i)
feed_all _ q v taken x xs g o a f h i = absurd q

feed_value : (name : Known) → IsFed name → (v : Tree) (g : Frame) (o : List Frame) (a : Findings) (f h : MemberSlots) → In f (root_of g o) h
    → Thru f h a (told v) (feeding name v [] (value_events v) g o a) (st 0 Names (filled name v g) o a)
feed_value name q v g o a f h i = go (some_told v)
  where
    go : (x : Told) × (xs : List Told) × (told v ≡ x ∷ xs) → Thru f h a (told v) (feeding name v [] (value_events v) g o a) (st 0 Names (filled name v g) o a)
    go (x, xs, e) =
        subst (λ (es : List Event). Thru f h a (told v) (feeding name v [] es g o a) (st 0 Names (filled name v g) o a)) (told-events v)
        (subst (λ (ts : List Told). Thru f h a ts (feeding name v [] (map event_of ts) g o a) (st 0 Names (filled name v g) o a)) (sym e)
        (feed_all name q v [] x xs g o a f h i))

-- ---- what has a role

close_is : (r : Role) (place close : ℕ) (ms : Members) (g : Frame) (o : List Frame) (a : Findings)
    → step (plain (close + 1) close What.CloseObject) (st 0 Names (members_taken ms (blank r place)) (g ∷ o) a)
    ≡ st 0 (mode_behind r) (taken_any (member_of r) (least (faults r (object place ms close))) (kept r (object place ms close)) g) o a
close_is r place close ms g o a =
    let inner : Frame = members_taken ms (blank r place) in
    let e : inner.slots.role ≡ r = frame_role ms (blank r place) in
    ap (λ (q : Role). behind close q (settled inner) g o a) e
    ∙ (behind_idle close r (settled inner) g o a
    ∙ ap (λ (x : Findings). st 0 (mode_behind r) (taken_in (member_of r) x g) o a) (all_closed r place close ms))

root_taken : (name : Known) (x : Option Fault) (w : Option Warnings) (g : Frame) (o : List Frame) → Grows (root_of g o) (root_of (taken_any name x w g) o)
root_taken name x w g [] = grows_joined name x g.slots
root_taken name x w g (p ∷ o) = grows_same (root_of p o)

-- an object with a role in another, by its members
object_by : (r : Role) (place close : ℕ) (ms : Members) (g : Frame) (o : List Frame) (a : Findings) (f h : MemberSlots) → In f (root_of g o) h
    → Thru f h a (members_told ms) (st 0 Names (blank r place) (g ∷ o) a) (st 0 Names (members_taken ms (blank r place)) (g ∷ o) a)
    → Thru f h a (members_told ms ++ plain (close + 1) close What.CloseObject ∷ []) (st 0 Names (blank r place) (g ∷ o) a)
    (st 0 (mode_behind r) (taken_any (member_of r) (least (faults r (object place ms close))) (kept r (object place ms close)) g) o a)
object_by r place close ms g o a f h i p =
    thru_both f h a (members_told ms) (plain (close + 1) close What.CloseObject ∷ []) (st 0 Names (blank r place) (g ∷ o) a)
    (st 0 Names (members_taken ms (blank r place)) (g ∷ o) a) _
    p ((i, refl), close_is r place close ms g o a)

-- an array of values with a role, by its elements
list_by : (es : Tree.Elements) (close : ℕ) (r : Role) (g : Frame) (o : List Frame) (a : Findings) (f h : MemberSlots)
    → In f (root_of (taken_any (member_of r) (least (all_faults r es)) (all_kept r es) g) o) h
    → Thru f h a (elements_told es) (st 0 (Elements r) g o a) (st 0 (Elements r) (taken_any (member_of r) (least (all_faults r es)) (all_kept r es) g) o a)
    → Thru f h a (elements_told es ++ plain (close + 1) close What.CloseArray ∷ []) (st 0 (Elements r) g o a)
    (st 0 Names (taken_any (member_of r) (least (all_faults r es)) (all_kept r es) g) o a)
list_by es close r g o a f h j p =
    thru_both f h a (elements_told es) (plain (close + 1) close What.CloseArray ∷ []) (st 0 (Elements r) g o a)
    (st 0 (Elements r) (taken_any (member_of r) (least (all_faults r es)) (all_kept r es) g) o a) _
    p ((j, refl), refl)

mutual
  -- the value of a first member
  pub on_due : (v : Tree) (name : Known) (g : Frame) (o : List Frame) (a : Findings) (f h : MemberSlots) → In f (root_of g o) h
      → In f (root_of (filled name v g) o) h
      → Thru f h a (told v) (due_st name v g o a) (st 0 Names (filled name v g) o a)
  on_due v Coordinates g o a f h i j = feed_value Coordinates tt v g o a f h i
  on_due v Bbox g o a f h i j = feed_value Bbox tt v g o a f h i
  on_due (constant Null place) name g o a f h i j = ((i, refl), refl)
  on_due (constant True place) name g o a f h i j = ((i, refl), refl)
  on_due (constant False place) name g o a f h i j = ((i, refl), refl)
  on_due (number place literal end) name g o a f h i j = ((i, refl), refl)
  on_due (string place content end) name g o a f h i j = ((i, refl), refl)
  on_due (array place es close) Geometries g o a f h i j = ((i, refl), list_by es close Role.Part g o a f h j (on_elements es Role.Part tt g o a f h i j))
  on_due (array place es close) Features g o a f h i j = ((i, refl), list_by es close Role.Feature g o a f h j (on_elements es Role.Feature tt g o a f h i j))
  on_due (array place es close) name g o a f h i j = ((i, refl), array_rest es close Names (filled name (array place es close) g) o a f h j)
  on_due (object place ms close) Geometry g o a f h i j =
      ((i, refl), object_by Role.Geometry place close ms g o a f h i (on_members ms (blank Role.Geometry place) g o a f h i))
  on_due (object place ms close) name g o a f h i j = ((i, refl), object_rest ms close Names (filled name (object place ms close) g) o a f h j)

  -- an element of an array of values with a role
  on_element : (v : Tree) (r : Role) → IsListed r → (g : Frame) (o : List Frame) (a : Findings) (f h : MemberSlots) → In f (root_of g o) h
      → In f (root_of (taken_any (member_of r) (least (faults r v)) (kept r v) g) o) h
      → Thru f h a (told v) (st 0 (Elements r) g o a) (st 0 (Elements r) (taken_any (member_of r) (least (faults r v)) (kept r v) g) o a)
  on_element (constant Null place) Role.Part q g o a f h i j = ((i, refl), refl)
  on_element (constant Null place) Role.Feature q g o a f h i j = ((i, refl), refl)
  on_element (constant Null place) _ q g o a f h i j = absurd q
  on_element (constant True place) r q g o a f h i j = ((i, refl), refl)
  on_element (constant False place) r q g o a f h i j = ((i, refl), refl)
  on_element (number place literal end) r q g o a f h i j = ((i, refl), refl)
  on_element (string place content end) r q g o a f h i j = ((i, refl), refl)
  on_element (array place es close) r q g o a f h i j =
      ((i, refl), array_rest es close (Elements r) (joined (member_of r) (Some (fault_at place G1)) g) o a f h j)
  on_element (object place ms close) r q g o a f h i j =
      let inner : Frame = taken_any (member_of r) (least (faults r (object place ms close))) (kept r (object place ms close)) g in
      let last : Told = plain (close + 1) close What.CloseObject in (
        (i, refl),
        subst (λ (m : Mode). Thru f h a (members_told ms ++ last ∷ []) (st 0 Names (blank r place) (g ∷ o) a) (st 0 m inner o a)) (mode_listed r q)
            (object_by r place close ms g o a f h i (on_members ms (blank r place) g o a f h i)),
      )

  on_elements : (es : Tree.Elements) (r : Role) → IsListed r → (g : Frame) (o : List Frame) (a : Findings) (f h : MemberSlots) → In f (root_of g o) h
      → In f (root_of (taken_any (member_of r) (least (all_faults r es)) (all_kept r es) g) o) h
      → Thru f h a (elements_told es) (st 0 (Elements r) g o a) (st 0 (Elements r) (taken_any (member_of r) (least (all_faults r es)) (all_kept r es) g) o a)
  on_elements end_of_array r q g o a f h i j = ap (λ (x : Frame). st 0 (Elements r) x o a) (sym (taken_none (member_of r) g))
  on_elements (element v more) r q g o a f h i j =
      let mid : Frame = taken_any (member_of r) (least (faults r v)) (kept r v) g in
      let last : Frame = taken_any (member_of r) (least (all_faults r more)) (all_kept r more) mid in
      let e : taken_any (member_of r) (least (all_faults r (element v more))) (all_kept r (element v more)) g ≡ last =
      ap (λ (x : Option Fault). taken_any (member_of r) x (all_kept r (element v more)) g) (least-append (faults r v) (all_faults r more))
      ∙ sym (taken_twice (member_of r) g (least (faults r v)) (least (all_faults r more)) (kept r v) (all_kept r more) (known_list r q)) in
      let end : In f (root_of last o) h = subst (λ (x : Frame). In f (root_of x o) h) e j in
      let here : In f (root_of mid o) h = record {
        lo = grows_twice f (root_of g o) (root_of mid o) i.lo (root_taken (member_of r) (least (faults r v)) (kept r v) g o);
        hi = grows_twice (root_of mid o) (root_of last o) h (root_taken (member_of r) (least (all_faults r more)) (all_kept r more) mid o) end.hi;
      } in
      thru_both f h a (told v) (elements_told more) (st 0 (Elements r) g o a) (st 0 (Elements r) mid o a) _
      (on_element v r q g o a f h i here)
      (subst (λ (x : Frame). Thru f h a (elements_told more) (st 0 (Elements r) mid o a) (st 0 (Elements r) x o a)) (sym e)
      (on_elements more r q mid o a f h here end))

  -- the members of an object in another
  on_members : (ms : Members) (e : Frame) (p : Frame) (o : List Frame) (a : Findings) (f h : MemberSlots) → In f (root_of p o) h
      → Thru f h a (members_told ms) (st 0 Names e (p ∷ o) a) (st 0 Names (members_taken ms e) (p ∷ o) a)
  on_members end_of_object e p o a f h i = refl
  on_members (member place name end v more) e p o a f h i = (
    (i, refl),
    thru_both f h a (told v) (members_told more) (due_st (due_after (known_of name) e) v (named (known_of name) place e) (p ∷ o) a)
        (st 0 Names (member_taken place (known_of name) v e) (p ∷ o) a) _
        (on_due v (due_after (known_of name) e) (named (known_of name) place e) (p ∷ o) a f h i i)
        (on_members more (member_taken place (known_of name) v e) p o a f h i),
  )

-- ---- the outermost frame

-- those around it, the innermost first, end with the first that was opened
pub first_root : (frames : List D.Frame) (n : ℕ) → n < length frames
    → root_of (frame_in (get_or frames n no_frame)) (map frame_in (reverse (take n frames))) ≡ (frame_in (get_or frames 0 no_frame)).slots
first_root frames zero h = refl
first_root frames (suc n) h =
    let within : n < length frames = omega arith in
    rw (take-suc frames n no_frame) (rw (reverse-append (take n frames) (get_or frames n no_frame ∷ [])) (first_root frames n (omega arith)))
