-- At each prefix of a text the frames in use are those of its open objects that have a role.
use Rattle.gj_rules.proofs.Common.{Bool, Coordinates, Crs, Done, Event, False, Fault, Features, Findings, Frame, G1, Geometries, Geometry, IsText}
use Rattle.gj_rules.proofs.Common.{List, Members, Mode, Names, Null, Other, Role, Slot, State, Text, Told, Tree, True, Warnings, all_faults, all_kept}
use Rattle.gj_rules.proofs.Common.{ap, append_assoc, arith, array, at_of, blank, by, cases_lt, constant, due_known, element, elements_told}
use Rattle.gj_rules.proofs.Common.{end_of_array, end_of_object, event_of, false, fault_at, faults, if◌then◌else◌, inl, inr, is_known, is_some}
use Rattle.gj_rules.proofs.Common.{judged_at, judged_in, least, least-append, length, map, mark_told, marked_kept, member, member_of, members_told}
use Rattle.gj_rules.proofs.Common.{mentions, mode_behind, nat_lt, nat_tests, not, number, object, plain, refl, run, same, settled, slot_of, start}
use Rattle.gj_rules.proofs.Common.{step, string, subst, suc, sym, taken_any, taken_in, text_told, told, true, value_events, [], ◌&&◌, ◌++◌, ◌+◌, ◌<◌}
use Rattle.gj_rules.proofs.Common.{◌∙◌, ◌∷◌, ◌≤◌}
use Rattle.std.proofs.Common.{◌≡◌, ℕ}
use Rattle.std.proofs.Common.{Option, Some, None}
use Rattle.gj_json.specs.declared.names.Known.{Known}
use Rattle.gj_json.specs.declared.names.Known.TheVariants.{Bbox}
use Rattle.gj_json.specs.declared.event.What.TheVariants as What
use Rattle.gj_json.specs.Names.{known_of}
use Rattle.gj_json.specs.Open.{is_open}
use Rattle.gj_json.specs.Tree as Tree
use Rattle.gj_rules.specs.declared.mode.Mode.TheVariants.{Elements}
use Rattle.gj_rules.specs.Internal.FrameCalls.{named, due_after, joined, filled, member_taken, members_taken}
use Rattle.gj_rules.specs.Internal.TextKept.{kept}
use Rattle.gj_rules.specs.Judged.{gives, counted, list_judged, elements_judged, members_judged}
use Rattle.gj_rules.specs.Internal.RulesState.{frames_by}
use Rattle.gj_rules.proofs.Texts.ValuesByEvents.{st, feeding, due_st, behind, behind_idle, mode_listed, IsListed, IsFed, some_told, up, down, frame_role}
use Rattle.gj_rules.proofs.Texts.ValuesByEvents.{had_found, due_root}
use Rattle.gj_rules.proofs.Objects.AllMembers.{Mentions, mentions_step, member_object}
use Rattle.gj_rules.proofs.Texts.EventOrder.{Late, After, InOrder, order_behind, late_after, late_behind, late_front, late_back, by_late, by_in_time, in_order}
use Rattle.gj_rules.proofs.Objects.ClosedFrames.{all_closed}
use Rattle.gj_rules.proofs.Objects.SettledObjects.{none_set}
use Rattle.gj_rules.proofs.Texts.TimedEvents.{timed_of, told-events}
use Rattle.gj_rules.proofs.Objects.JoinedFindings.{taken_none, taken_twice}
use Rattle.gj_rules.proofs.Texts.ValuesByEvents.{known_list}
use Rattle.gj_json.proofs.Events.OpenContainers.{opened, shut}

abbrev pub frames_of : State → ℕ
frames_of s = frames_by s.core.mode s.core.outer

-- After the events that are complete in n bytes there are c frames. The letters for the parts of a state are those of
-- the proofs that events lead to an answer.
abbrev pub Cut : ℕ → List Told → State → ℕ → Type 0
Cut n [] s c = frames_of s ≡ c
Cut n (x ∷ xs) s c = (at_of x ≤ n → Cut n xs (step x s) c) × (n < at_of x → frames_of s ≡ c)

cut_late : (n : ℕ) (xs : List Told) (s : State) (c : ℕ) → Late n xs → Cut n xs s c → frames_of s ≡ c
cut_late n [] s c l h = h
cut_late n (x ∷ xs) s c l h = h.1 l.0

-- where an event is late, so are those after it
cut_behind : (n m : ℕ) (xs rest : List Told) (s : State) (c : ℕ) → After m (xs ++ rest) → Cut n rest s c → n < m → frames_of s ≡ c
cut_behind n m xs rest s c i h l = cut_late n rest s c (late_behind n m xs rest l i) h

cut_zero : (n : ℕ) (xs : List Told) (s : State) (c : ℕ) → Cut n xs s c → Cut n xs s (0 + c)
cut_zero n xs s c h = let e : c ≡ 0 + c = omega arith in subst (λ d. Cut n xs s d) e h

-- ---- what opens late is not open

late_counted : (name : Known) (b : Bool) (g gs fs : ℕ) → g ≡ 0 → gs ≡ 0 → fs ≡ 0 → counted name b g gs fs ≡ 0
late_counted Geometry true g gs fs e f h = e
late_counted Geometries true g gs fs e f h = f
late_counted Features true g gs fs e f h = h
late_counted other another g gs fs e f h = refl

mutual
  pub late_value : (v : Tree) (n : ℕ) (r : Role) → Late n (told v) → judged_in n r v ≡ 0
  late_value (constant which place) n r h = refl
  late_value (number place literal end) n r h = refl
  late_value (string place content end) n r h = refl
  late_value (array place es close) n r h = refl
  late_value (object place ms close) n r h =
      let e : nat_lt place n ≡ false = (let l : n < place + 1 = h.0 in grind (arith, nat_tests)) in
      rw e (omega (arith, late_members ms n r [] (late_front n (members_told ms) (plain (close + 1) close What.CloseObject ∷ []) h.1)))

  pub late_list : (v : Tree) (n : ℕ) (r : Role) → Late n (told v) → list_judged n r v ≡ 0
  late_list (constant which place) n r h = refl
  late_list (number place literal end) n r h = refl
  late_list (string place content end) n r h = refl
  late_list (array place es close) n r h = late_elements es n r (late_front n (elements_told es) (plain (close + 1) close What.CloseArray ∷ []) h.1)
  late_list (object place ms close) n r h = refl

  pub late_elements : (es : Tree.Elements) (n : ℕ) (r : Role) → Late n (elements_told es) → elements_judged n r es ≡ 0
  late_elements end_of_array n r h = refl
  late_elements (element v more) n r h =
      omega (arith, late_value v n r (late_front n (told v) (elements_told more) h), late_elements more n r (late_back n (told v) (elements_told more) h))

  pub late_members : (ms : Members) (n : ℕ) (r : Role) (before : List Known) → Late n (members_told ms) → members_judged n r before ms ≡ 0
  late_members end_of_object n r before h = refl
  late_members (member place name end v more) n r before h =
      let l = late_front n (told v) (members_told more) h.1 in
      omega (
        arith,
        late_counted (known_of name) (not (mentions before (known_of name)) && gives r (known_of name)) (judged_in n Role.Geometry v)
            (list_judged n Role.Part v) (list_judged n Role.Feature v)
            (late_value v n Role.Geometry l) (late_list v n Role.Part l) (late_list v n Role.Feature l),
        late_members more n r (known_of name ∷ before) (late_back n (told v) (members_told more) h.1),
      )

-- ---- what is not looked into

regroup : (xs ys zs : List Told) → InOrder ((xs ++ ys) ++ zs) → InOrder (xs ++ (ys ++ zs))
regroup xs ys zs h = subst (λ ts. InOrder ts) (append_assoc xs ys zs) h

mutual
  cut_skipped : (v : Tree) (rest : List Told) (k : ℕ) (m : Mode) (f : Frame) (o : List Frame) (a : Findings) (n c : ℕ) → InOrder (told v ++ rest)
      → Cut n rest (st (suc k) m f o a) c → Cut n (told v ++ rest) (st (suc k) m f o a) c
  cut_skipped (constant Null place) rest k m f o a n c i h = (λ _. h, λ l. cut_behind n _ [] rest (st (suc k) m f o a) c i.0 h l)
  cut_skipped (constant True place) rest k m f o a n c i h = (λ _. h, λ l. cut_behind n _ [] rest (st (suc k) m f o a) c i.0 h l)
  cut_skipped (constant False place) rest k m f o a n c i h = (λ _. h, λ l. cut_behind n _ [] rest (st (suc k) m f o a) c i.0 h l)
  cut_skipped (number place literal end) rest k m f o a n c i h = (λ _. h, λ l. cut_behind n _ [] rest (st (suc k) m f o a) c i.0 h l)
  cut_skipped (string place content end) rest k m f o a n c i h = (λ _. h, λ l. cut_behind n _ [] rest (st (suc k) m f o a) c i.0 h l)
  cut_skipped (array place es close) rest k m f o a n c i h =
      let last : Told = plain (close + 1) close What.CloseArray in
      let j = regroup (elements_told es) (last ∷ []) rest i.1 in
      let b = order_behind (elements_told es) (last ∷ rest) j in (
        λ _. rw (append_assoc (elements_told es) (last ∷ []) rest)
            (subst (λ q. Cut n (elements_told es ++ last ∷ rest) (st q m f o a) c) (sym (up k))
            (cut_skipped_elements es (last ∷ rest) (suc k) m f o a n c j
            (λ _. subst (λ q. Cut n rest (st q m f o a) c) (sym (down k)) h, λ l. cut_behind n _ [] rest (st (suc k) m f o a) c b.0 h l))),
        λ l. cut_behind n _ (elements_told es ++ last ∷ []) rest (st (suc k) m f o a) c i.0 h l,
      )
  cut_skipped (object place ms close) rest k m f o a n c i h =
      let last : Told = plain (close + 1) close What.CloseObject in
      let j = regroup (members_told ms) (last ∷ []) rest i.1 in
      let b = order_behind (members_told ms) (last ∷ rest) j in (
        λ _. rw (append_assoc (members_told ms) (last ∷ []) rest)
            (subst (λ q. Cut n (members_told ms ++ last ∷ rest) (st q m f o a) c) (sym (up k))
            (cut_skipped_members ms (last ∷ rest) (suc k) m f o a n c j
            (λ _. subst (λ q. Cut n rest (st q m f o a) c) (sym (down k)) h, λ l. cut_behind n _ [] rest (st (suc k) m f o a) c b.0 h l))),
        λ l. cut_behind n _ (members_told ms ++ last ∷ []) rest (st (suc k) m f o a) c i.0 h l,
      )

  cut_skipped_elements : (es : Tree.Elements) (rest : List Told) (k : ℕ) (m : Mode) (f : Frame) (o : List Frame) (a : Findings) (n c : ℕ)
      → InOrder (elements_told es ++ rest)
      → Cut n rest (st (suc k) m f o a) c → Cut n (elements_told es ++ rest) (st (suc k) m f o a) c
  cut_skipped_elements end_of_array rest k m f o a n c i h = h
  cut_skipped_elements (element v more) rest k m f o a n c i h =
      let j = regroup (told v) (elements_told more) rest i in
      rw (append_assoc (told v) (elements_told more) rest)
      (cut_skipped v (elements_told more ++ rest) k m f o a n c j
      (cut_skipped_elements more rest k m f o a n c (order_behind (told v) (elements_told more ++ rest) j) h))

  cut_skipped_members : (ms : Members) (rest : List Told) (k : ℕ) (m : Mode) (f : Frame) (o : List Frame) (a : Findings) (n c : ℕ)
      → InOrder (members_told ms ++ rest)
      → Cut n rest (st (suc k) m f o a) c → Cut n (members_told ms ++ rest) (st (suc k) m f o a) c
  cut_skipped_members end_of_object rest k m f o a n c i h = h
  cut_skipped_members (member place name end v more) rest k m f o a n c i h =
      let j = regroup (told v) (members_told more) rest i.1 in (
        λ _. rw (append_assoc (told v) (members_told more) rest)
            (cut_skipped v (members_told more ++ rest) k m f o a n c j
            (cut_skipped_members more rest k m f o a n c (order_behind (told v) (members_told more ++ rest) j) h)),
        λ l. cut_behind n end (told v ++ members_told more) rest (st (suc k) m f o a) c i.0 h l,
      )

-- the rest of an array or an object that is not looked into
array_cut : (es : Tree.Elements) (close : ℕ) (rest : List Told) (m : Mode) (f : Frame) (o : List Frame) (a : Findings) (n c : ℕ)
    → InOrder ((elements_told es ++ plain (close + 1) close What.CloseArray ∷ []) ++ rest)
    → Cut n rest (st 0 m f o a) c → Cut n ((elements_told es ++ plain (close + 1) close What.CloseArray ∷ []) ++ rest) (st 1 m f o a) c
array_cut es close rest m f o a n c i h =
    let last : Told = plain (close + 1) close What.CloseArray in
    let j = regroup (elements_told es) (last ∷ []) rest i in
    let b = order_behind (elements_told es) (last ∷ rest) j in
    rw (append_assoc (elements_told es) (last ∷ []) rest)
    (cut_skipped_elements es (last ∷ rest) 0 m f o a n c j (λ _. h, λ l. cut_behind n _ [] rest (st 0 m f o a) c b.0 h l))

object_cut : (ms : Members) (close : ℕ) (rest : List Told) (m : Mode) (f : Frame) (o : List Frame) (a : Findings) (n c : ℕ)
    → InOrder ((members_told ms ++ plain (close + 1) close What.CloseObject ∷ []) ++ rest)
    → Cut n rest (st 0 m f o a) c → Cut n ((members_told ms ++ plain (close + 1) close What.CloseObject ∷ []) ++ rest) (st 1 m f o a) c
object_cut ms close rest m f o a n c i h =
    let last : Told = plain (close + 1) close What.CloseObject in
    let j = regroup (members_told ms) (last ∷ []) rest i in
    let b = order_behind (members_told ms) (last ∷ rest) j in
    rw (append_assoc (members_told ms) (last ∷ []) rest)
    (cut_skipped_members ms (last ∷ rest) 0 m f o a n c j (λ _. h, λ l. cut_behind n _ [] rest (st 0 m f o a) c b.0 h l))

-- ---- what a summary takes

cut_feed : (name : Known) → IsFed name → (v : Tree) (taken : List Event) (x : Told) (xs rest : List Told) (f : Frame) (o : List Frame) (a : Findings) (n c : ℕ)
    → InOrder ((x ∷ xs) ++ rest)
    → Cut n rest (st 0 Names (filled name v f) o a) c → Cut n ((x ∷ xs) ++ rest) (feeding name v taken (map event_of (x ∷ xs)) f o a) c
cut_feed Coordinates q v taken x [] rest f o a n c i h = (λ _. h, λ l. cut_behind n (at_of x) [] rest (st 0 Names (filled Coordinates v f) o a) c i.0 h l)
cut_feed Coordinates q v taken x (y ∷ ys) rest f o a n c i h = (
  λ _. cut_feed Coordinates q v (taken ++ event_of x ∷ []) y ys rest f o a n c i.1 h,
  λ l. cut_behind n (at_of x) (y ∷ ys) rest
      (st 0 Names (filled Coordinates v f) o a) c i.0 h l,
)
cut_feed Bbox q v taken x [] rest f o a n c i h = (λ _. h, λ l. cut_behind n (at_of x) [] rest (st 0 Names (filled Bbox v f) o a) c i.0 h l)
cut_feed Bbox q v taken x (y ∷ ys) rest f o a n c i h = (
  λ _. cut_feed Bbox q v (taken ++ event_of x ∷ []) y ys rest f o a n c i.1 h,
  λ l. cut_behind n (at_of x) (y ∷ ys) rest
      (st 0 Names (filled Bbox v f) o a) c i.0 h l,
)
cut_feed _ q v taken x xs rest f o a n c i h = absurd q

cut_fed : (name : Known) → IsFed name → (v : Tree) (x : Told) (xs rest : List Told) (f : Frame) (o : List Frame) (a : Findings) (n c : ℕ) → told v ≡ x ∷ xs
    → InOrder (told v ++ rest)
    → Cut n rest (st 0 Names (filled name v f) o a) c → Cut n (told v ++ rest) (feeding name v [] (value_events v) f o a) c
cut_fed name q v x xs rest f o a n c e i h =
    subst (λ (es : List Event). Cut n (told v ++ rest) (feeding name v [] es f o a) c) (told-events v)
    (subst (λ (ts : List Told). Cut n (ts ++ rest) (feeding name v [] (map event_of ts) f o a) c) (sym e)
    (cut_feed name q v [] x xs rest f o a n c (subst (λ (ts : List Told). InOrder (ts ++ rest)) e i) h))

cut_value : (name : Known) → IsFed name → (v : Tree) (rest : List Told) (f : Frame) (o : List Frame) (a : Findings) (n c : ℕ) → InOrder (told v ++ rest)
    → Cut n rest (st 0 Names (filled name v f) o a) c → Cut n (told v ++ rest) (feeding name v [] (value_events v) f o a) c
cut_value name q v rest f o a n c i h = let s = some_told v in cut_fed name q v s.0 s.1 rest f o a n c s.2 i h

-- ---- what has a role

-- the count of the value that is due after a name
abbrev pub due_judged : Known → ℕ → ℕ → ℕ → ℕ
due_judged Geometry g gs fs = g
due_judged Geometries g gs fs = gs
due_judged Features g gs fs = fs
due_judged _ g gs fs = 0

-- it is checked where its name gives a role and is the first of its kind
due_counted : (name : Known) (r : Role) (slot : Option Slot) (b : Bool) (g gs fs : ℕ) → (is_known name ≡ true → is_some slot ≡ b)
    → due_judged (if is_known name then due_known name slot r else Other) g gs fs ≡ counted name (not b && gives r name) g gs fs
due_counted Geometry r (Some s) true g gs fs h = refl
due_counted Geometries r (Some s) true g gs fs h = refl
due_counted Features r (Some s) true g gs fs h = refl
due_counted Geometry r (Some s) false g gs fs h = let e : true ≡ false = h refl in cc
due_counted Geometries r (Some s) false g gs fs h = let e : true ≡ false = h refl in cc
due_counted Features r (Some s) false g gs fs h = let e : true ≡ false = h refl in cc
due_counted Geometry r None true g gs fs h = let e : false ≡ true = h refl in cc
due_counted Geometries r None true g gs fs h = let e : false ≡ true = h refl in cc
due_counted Features r None true g gs fs h = let e : false ≡ true = h refl in cc
due_counted Geometry Role.Root None false g gs fs h = refl
due_counted Geometry _ None false g gs fs h = refl
due_counted Geometries Role.Root None false g gs fs h = refl
due_counted Geometries _ None false g gs fs h = refl
due_counted Features Role.Root None false g gs fs h = refl
due_counted Features _ None false g gs fs h = refl
due_counted Other r slot b g gs fs h = refl
due_counted Crs r slot b g gs fs h = refl
due_counted _ r (Some s) b g gs fs h = refl
due_counted _ Role.Root None b g gs fs h = refl
due_counted _ _ None b g gs fs h = refl

blank_mentions : (r : Role) (place : ℕ) → Mentions [] (blank r place).slots
blank_mentions r place = record { each = λ n k. ap is_some (none_set r place n) }

-- the roles of objects below others
abbrev pub IsInner : Role → Type 0
IsInner Role.Root = ⊥
IsInner _ = Unit {0}

inner_frames : (r : Role) → IsInner r → (o : List Frame) → frames_by (mode_behind r) o ≡ length o + 1
inner_frames Role.Root q o = absurd q
inner_frames other q o = refl

listed_inner : (r : Role) → IsListed r → IsInner r
listed_inner Role.Part q = tt
listed_inner Role.Feature q = tt
listed_inner _ q = absurd q

-- the end of an object that has a role, below another
cut_close : (r : Role) → IsInner r → (place close : ℕ) (ms : Members) (rest : List Told) (f : Frame) (o : List Frame) (a : Findings) (n c : ℕ) → place + 1 ≤ n
    → InOrder (plain (close + 1) close What.CloseObject ∷ rest)
    → Cut n rest (st 0 (mode_behind r) (taken_any (member_of r) (least (faults r (object place ms close))) (kept r (object place ms close)) f) o a) c
    → Cut n (plain (close + 1) close What.CloseObject ∷ rest) (st 0 Names (members_taken ms (blank r place)) (f ∷ o) a) (is_open n place close + c)
cut_close r q place close ms rest f o a n c p i h =
    let inner : Frame = members_taken ms (blank r place) in
    let e : inner.slots.role ≡ r = frame_role ms (blank r place) in (
      λ l. let d : c ≡ is_open n place close + c = omega (arith, shut n place close l) in
          subst (λ x. Cut n rest (behind close inner.slots.role (settled inner) f o a) x) d
          (subst (λ (x : Role). Cut n rest (behind close x (settled inner) f o a) c) (sym e)
          (subst (λ (s : State). Cut n rest s c) (sym (behind_idle close r (settled inner) f o a))
          (subst (λ (x : Findings). Cut n rest (st 0 (mode_behind r) (taken_in (member_of r) x f) o a) c) (sym (all_closed r place close ms)) h))),
      λ l. let k = cut_behind n _ [] rest
          (st 0 (mode_behind r) (taken_any (member_of r) (least (faults r (object place ms close))) (kept r (object place ms close)) f) o a) c i.0 h l in
          omega (arith, opened n place close p l, k, inner_frames r q o),
    )

before_rest : (a b c : ℕ) → b + (a + c) ≡ a + b + c
before_rest a b c = omega arith

both_before : (a b c d : ℕ) → a ≡ b → a + (c + d) ≡ b + c + d
both_before a b c d h = omega arith

none_before : (a c x : ℕ) → a ≡ 0 → x ≡ c → x ≡ a + c
none_before a c x e h = omega arith

late_list_of : (n m : ℕ) (xs ys rest : List Told) → n < m → After m ((xs ++ ys) ++ rest) → Late n xs
late_list_of n m xs ys rest l h = late_front n xs ys (late_front n (xs ++ ys) rest (late_after n m ((xs ++ ys) ++ rest) l h))

-- an array of values with a role
cut_list : (es : Tree.Elements) (place close : ℕ) (r : Role) (rest : List Told) (f : Frame) (o : List Frame) (a : Findings) (n c : ℕ)
    → InOrder (told (array place es close) ++ rest) → Cut n rest (st 0 Names (taken_any (member_of r) (least (all_faults r es)) (all_kept r es) f) o a) c
    → (InOrder (elements_told es ++ plain (close + 1) close What.CloseArray ∷ rest)
    → Cut n (plain (close + 1) close What.CloseArray ∷ rest) (st 0 (Elements r) (taken_any (member_of r) (least (all_faults r es)) (all_kept r es) f) o a) c
    → Cut n (elements_told es ++ plain (close + 1) close What.CloseArray ∷ rest) (st 0 (Elements r) f o a) (elements_judged n r es + c))
    → (place + 1 ≤ n → Cut n ((elements_told es ++ plain (close + 1) close What.CloseArray ∷ []) ++ rest) (st 0 (Elements r) f o a)
    (elements_judged n r es + c))
    × (n < place + 1 → length o + 1 ≡ elements_judged n r es + c)
cut_list es place close r rest f o a n c i h g =
    let last : Told = plain (close + 1) close What.CloseArray in
    let j = regroup (elements_told es) (last ∷ []) rest i.1 in
    let b = order_behind (elements_told es) (last ∷ rest) j in (
      λ _. rw (append_assoc (elements_told es) (last ∷ []) rest)
          (g j (λ _. h, λ l. cut_behind n _ [] rest (st 0 Names (taken_any (member_of r) (least (all_faults r es)) (all_kept r es) f) o a) c b.0 h l)),
      λ l. none_before (elements_judged n r es) c (length o + 1)
          (late_elements es n r (late_list_of n (place + 1) (elements_told es) (last ∷ []) rest l i.0))
          (cut_behind n _ (elements_told es ++ last ∷ []) rest
          (st 0 Names (taken_any (member_of r) (least (all_faults r es)) (all_kept r es) f) o a) c i.0 h l),
    )

mutual
  -- the value of a first member
  cut_due : (v : Tree) (name : Known) (rest : List Told) (f : Frame) (o : List Frame) (a : Findings) (n c : ℕ) → InOrder (told v ++ rest)
      → Cut n rest (st 0 Names (filled name v f) o a) c
      → Cut n (told v ++ rest) (due_st name v f o a)
      (due_judged name (judged_in n Role.Geometry v) (list_judged n Role.Part v) (list_judged n Role.Feature v) + c)
  cut_due v Coordinates rest f o a n c i h = cut_zero n (told v ++ rest) (due_st Coordinates v f o a) c (cut_value Coordinates tt v rest f o a n c i h)
  cut_due v Bbox rest f o a n c i h = cut_zero n (told v ++ rest) (due_st Bbox v f o a) c (cut_value Bbox tt v rest f o a n c i h)
  cut_due (constant Null place) name rest f o a n c i h =
      cut_zero n (told (constant Null place) ++ rest) (due_st name (constant Null place) f o a) c
      (λ _. h, λ l. cut_behind n _ [] rest (st 0 Names (filled name (constant Null place) f) o a) c i.0 h l)
  cut_due (constant True place) name rest f o a n c i h =
      cut_zero n (told (constant True place) ++ rest) (due_st name (constant True place) f o a) c
      (λ _. h, λ l. cut_behind n _ [] rest (st 0 Names (filled name (constant True place) f) o a) c i.0 h l)
  cut_due (constant False place) name rest f o a n c i h =
      cut_zero n (told (constant False place) ++ rest) (due_st name (constant False place) f o a) c
      (λ _. h, λ l. cut_behind n _ [] rest (st 0 Names (filled name (constant False place) f) o a) c i.0 h l)
  cut_due (number place literal end) name rest f o a n c i h =
      cut_zero n (told (number place literal end) ++ rest) (due_st name (number place literal end) f o a) c
      (λ _. h, λ l. cut_behind n _ [] rest (st 0 Names (filled name (number place literal end) f) o a) c i.0 h l)
  cut_due (string place content end) name rest f o a n c i h =
      cut_zero n (told (string place content end) ++ rest) (due_st name (string place content end) f o a) c
      (λ _. h, λ l. cut_behind n _ [] rest (st 0 Names (filled name (string place content end) f) o a) c i.0 h l)
  cut_due (array place es close) Geometries rest f o a n c i h =
      cut_list es place close Role.Part rest f o a n c i h (λ j k. cut_elements es Role.Part tt (plain (close + 1) close What.CloseArray ∷ rest) f o a n c j k)
  cut_due (array place es close) Features rest f o a n c i h =
      cut_list es place close Role.Feature rest f o a n c i h
      (λ j k. cut_elements es Role.Feature tt (plain (close + 1) close What.CloseArray ∷ rest) f o a n c j k)
  cut_due (array place es close) name rest f o a n c i h =
      cut_zero n (told (array place es close) ++ rest) (due_st name (array place es close) f o a) c (
        λ _. array_cut es close rest Names (filled name (array place es close) f) o a n c i.1 h,
        λ l. cut_behind n _ (elements_told es ++ plain (close + 1) close What.CloseArray ∷ []) rest
            (st 0 Names (filled name (array place es close) f) o a) c i.0 h l,
      )
  cut_due (object place ms close) Geometry rest f o a n c i h =
      let last : Told = plain (close + 1) close What.CloseObject in
      let j = regroup (members_told ms) (last ∷ []) rest i.1 in (
        λ l. rw (append_assoc (members_told ms) (last ∷ []) rest)
            (subst (λ d. Cut n (members_told ms ++ last ∷ rest) (st 0 Names (blank Role.Geometry place) (f ∷ o) a) d)
            (before_rest (is_open n place close) (members_judged n Role.Geometry [] ms) c)
            (cut_members ms (last ∷ rest) (blank Role.Geometry place) (f ∷ o) a n (is_open n place close + c) Role.Geometry []
            (blank_mentions Role.Geometry place) refl j
            (cut_close Role.Geometry tt place close ms rest f o a n c l (order_behind (members_told ms) (last ∷ rest) j) h))),
        λ l. none_before (judged_in n Role.Geometry (object place ms close)) c (length o + 1)
            (late_value (object place ms close) n Role.Geometry
            (late_front n (told (object place ms close)) rest (l, late_after n _ ((members_told ms ++ last ∷ []) ++ rest) l i.0)))
            (cut_behind n _ (members_told ms ++ last ∷ []) rest (st 0 Names (filled Geometry (object place ms close) f) o a) c i.0 h l),
      )
  cut_due (object place ms close) name rest f o a n c i h =
      cut_zero n (told (object place ms close) ++ rest) (due_st name (object place ms close) f o a) c (
        λ _. object_cut ms close rest Names (filled name (object place ms close) f) o a n c i.1 h,
        λ l. cut_behind n _ (members_told ms ++ plain (close + 1) close What.CloseObject ∷ []) rest
            (st 0 Names (filled name (object place ms close) f) o a) c i.0 h l,
      )

  -- an element of an array of values with a role
  cut_element : (v : Tree) (r : Role) → IsListed r → (rest : List Told) (f : Frame) (o : List Frame) (a : Findings) (n c : ℕ) → InOrder (told v ++ rest)
      → Cut n rest (st 0 (Elements r) (taken_any (member_of r) (least (faults r v)) (kept r v) f) o a) c
      → Cut n (told v ++ rest) (st 0 (Elements r) f o a) (judged_in n r v + c)
  cut_element (constant Null place) Role.Part q rest f o a n c i h =
      cut_zero n (told (constant Null place) ++ rest) (st 0 (Elements Role.Part) f o a) c
      (λ _. h, λ l. cut_behind n _ [] rest (st 0 (Elements Role.Part) (joined (member_of Role.Part) (Some (fault_at place G1)) f) o a) c i.0 h l)
  cut_element (constant Null place) Role.Feature q rest f o a n c i h =
      cut_zero n (told (constant Null place) ++ rest) (st 0 (Elements Role.Feature) f o a) c
      (λ _. h, λ l. cut_behind n _ [] rest (st 0 (Elements Role.Feature) (joined (member_of Role.Feature) (Some (fault_at place G1)) f) o a) c i.0 h l)
  cut_element (constant Null place) _ q rest f o a n c i h = absurd q
  cut_element (constant True place) r q rest f o a n c i h =
      cut_zero n (told (constant True place) ++ rest) (st 0 (Elements r) f o a) c
      (λ _. h, λ l. cut_behind n _ [] rest (st 0 (Elements r) (joined (member_of r) (Some (fault_at place G1)) f) o a) c i.0 h l)
  cut_element (constant False place) r q rest f o a n c i h =
      cut_zero n (told (constant False place) ++ rest) (st 0 (Elements r) f o a) c
      (λ _. h, λ l. cut_behind n _ [] rest (st 0 (Elements r) (joined (member_of r) (Some (fault_at place G1)) f) o a) c i.0 h l)
  cut_element (number place literal end) r q rest f o a n c i h =
      cut_zero n (told (number place literal end) ++ rest) (st 0 (Elements r) f o a) c
      (λ _. h, λ l. cut_behind n _ [] rest (st 0 (Elements r) (joined (member_of r) (Some (fault_at place G1)) f) o a) c i.0 h l)
  cut_element (string place content end) r q rest f o a n c i h =
      cut_zero n (told (string place content end) ++ rest) (st 0 (Elements r) f o a) c
      (λ _. h, λ l. cut_behind n _ [] rest (st 0 (Elements r) (joined (member_of r) (Some (fault_at place G1)) f) o a) c i.0 h l)
  cut_element (array place es close) r q rest f o a n c i h =
      cut_zero n (told (array place es close) ++ rest) (st 0 (Elements r) f o a) c (
        λ _. array_cut es close rest (Elements r) (joined (member_of r) (Some (fault_at place G1)) f) o a n c i.1 h,
        λ l. cut_behind n _ (elements_told es ++ plain (close + 1) close What.CloseArray ∷ []) rest
            (st 0 (Elements r) (joined (member_of r) (Some (fault_at place G1)) f) o a) c i.0 h l,
      )
  cut_element (object place ms close) r q rest f o a n c i h =
      let last : Told = plain (close + 1) close What.CloseObject in
      let j = regroup (members_told ms) (last ∷ []) rest i.1 in (
        λ l. rw (append_assoc (members_told ms) (last ∷ []) rest)
            (subst (λ d. Cut n (members_told ms ++ last ∷ rest) (st 0 Names (blank r place) (f ∷ o) a) d)
            (before_rest (is_open n place close) (members_judged n r [] ms) c)
            (cut_members ms (last ∷ rest) (blank r place) (f ∷ o) a n (is_open n place close + c) r [] (blank_mentions r place) refl j
            (cut_close r (listed_inner r q) place close ms rest f o a n c l (order_behind (members_told ms) (last ∷ rest) j)
            (subst (λ (m : Mode). Cut n rest
            (st 0 m (taken_any (member_of r) (least (faults r (object place ms close))) (kept r (object place ms close)) f) o a) c)
            (sym (mode_listed r q)) h)))),
        λ l. none_before (judged_in n r (object place ms close)) c (length o + 1)
            (late_value (object place ms close) n r
            (late_front n (told (object place ms close)) rest (l, late_after n _ ((members_told ms ++ last ∷ []) ++ rest) l i.0)))
            (cut_behind n _ (members_told ms ++ last ∷ []) rest
            (st 0 (Elements r) (taken_any (member_of r) (least (faults r (object place ms close))) (kept r (object place ms close)) f) o a) c i.0 h l),
      )

  cut_elements : (es : Tree.Elements) (r : Role) → IsListed r → (rest : List Told) (f : Frame) (o : List Frame) (a : Findings) (n c : ℕ)
      → InOrder (elements_told es ++ rest)
      → Cut n rest (st 0 (Elements r) (taken_any (member_of r) (least (all_faults r es)) (all_kept r es) f) o a) c
      → Cut n (elements_told es ++ rest) (st 0 (Elements r) f o a) (elements_judged n r es + c)
  cut_elements end_of_array r q rest f o a n c i h =
      cut_zero n rest (st 0 (Elements r) f o a) c (subst (λ (g : Frame). Cut n rest (st 0 (Elements r) g o a) c) (taken_none (member_of r) f) h)
  cut_elements (element v more) r q rest f o a n c i h =
      let j = regroup (told v) (elements_told more) rest i in
      rw (append_assoc (told v) (elements_told more) rest)
      (subst (λ d. Cut n (told v ++ (elements_told more ++ rest)) (st 0 (Elements r) f o a) d)
      (both_before (judged_in n r v) (judged_in n r v) (elements_judged n r more) c refl)
      (cut_element v r q (elements_told more ++ rest) f o a n (elements_judged n r more + c) j
      (cut_elements more r q rest (taken_any (member_of r) (least (faults r v)) (kept r v) f) o a n c (order_behind (told v) (elements_told more ++ rest) j)
      (subst (λ (g : Frame). Cut n rest (st 0 (Elements r) g o a) c)
      (ap (λ (x : Option Fault). taken_any (member_of r) x (all_kept r (element v more)) f) (least-append (faults r v) (all_faults r more))
      ∙ sym (taken_twice (member_of r) f (least (faults r v)) (least (all_faults r more)) (kept r v) (all_kept r more) (known_list r q))) h))))

  -- the members after those of the names `before`
  cut_members : (ms : Members) (rest : List Told) (f : Frame) (o : List Frame) (a : Findings) (n c : ℕ) (r : Role) (before : List Known)
      → Mentions before f.slots → f.slots.role ≡ r → InOrder (members_told ms ++ rest)
      → Cut n rest (st 0 Names (members_taken ms f) o a) c → Cut n (members_told ms ++ rest) (st 0 Names f o a) (members_judged n r before ms + c)
  cut_members end_of_object rest f o a n c r before m e i h = cut_zero n rest (st 0 Names f o a) c h
  cut_members (member place name end v more) rest f o a n c r before m e i h =
      let j = regroup (told v) (members_told more) rest i.1 in
      let known : Known = known_of name in
      let g : ℕ = judged_in n Role.Geometry v in
      let gs : ℕ = list_judged n Role.Part v in
      let fs : ℕ = list_judged n Role.Feature v in
      let more_count : ℕ = members_judged n r (known ∷ before) more in
      let next = cut_members more rest (member_taken place known v f) o a n c r (known ∷ before)
      (record { each = λ q k. mentions_step before q known place v f.slots (same q known) m k refl })
      ((member_object known place v f.slots).role ∙ e) (order_behind (told v) (members_told more ++ rest) j) h in (
        λ _. rw (append_assoc (told v) (members_told more) rest)
            (subst (λ d. Cut n (told v ++ (members_told more ++ rest)) (due_st (due_after known f) v (named known place f) o a) d)
            (both_before (due_judged (due_after known f) g gs fs) (counted known (not (mentions before known) && gives r known) g gs fs) more_count c
            (ap (λ (q : Role). due_judged (if is_known known then due_known known (slot_of known f.slots) q else Other) g gs fs) e
            ∙ due_counted known r (slot_of known f.slots) (mentions before known) g gs fs (m.each known)))
            (cut_due v (due_after known f) (members_told more ++ rest) (named known place f) o a n (more_count + c) j next)),
        λ l. none_before (members_judged n r before (member place name end v more)) c (length o + 1)
            (late_members (member place name end v more) n r before
            (l, late_front n (told v ++ members_told more) rest (late_after n end ((told v ++ members_told more) ++ rest) l i.0)))
            (cut_behind n end (told v ++ members_told more) rest (st 0 Names (members_taken (member place name end v more) f) o a) c i.0 h l),
      )

-- ---- the text

cut_root : (v : Tree) (had : Warnings) (n : ℕ) → InOrder (told v) → Cut n (told v) (due_root had) (judged_in n Role.Root v)
cut_root (constant Null place) had n i = (λ _. refl, λ l. refl)
cut_root (constant True place) had n i = (λ _. refl, λ l. refl)
cut_root (constant False place) had n i = (λ _. refl, λ l. refl)
cut_root (number place literal end) had n i = (λ _. refl, λ l. refl)
cut_root (string place content end) had n i = (λ _. refl, λ l. refl)
cut_root (array place es close) had n i = (
  λ _. cut_skipped_elements es (plain (close + 1) close What.CloseArray ∷ []) 0 Done (blank Role.Root 0) []
      (record { fault = Some (fault_at place G1); warned = had }) n 0 i.1 (λ _. refl, λ l. refl),
  λ l. refl,
)
cut_root (object place ms close) had n i =
    let last : Told = plain (close + 1) close What.CloseObject in (
      λ l. subst (λ d. Cut n (members_told ms ++ last ∷ []) (st 0 Names (blank Role.Root place) [] (had_found had)) d)
          (before_none (is_open n place close) (members_judged n Role.Root [] ms))
          (cut_members ms (last ∷ []) (blank Role.Root place) [] (had_found had) n (is_open n place close) Role.Root []
          (blank_mentions Role.Root place) refl i.1
          (λ k. sym (shut n place close k), λ k. sym (opened n place close l k))),
      λ l. sym (late_value (object place ms close) n Role.Root (l, late_after n (place + 1) (members_told ms ++ last ∷ []) l i.0)),
    )
  where
    before_none : (a b : ℕ) → b + a ≡ a + b
    before_none a b = omega arith

cut_marked : (marked : Bool) (v : Tree) (n : ℕ) → InOrder (mark_told marked ++ told v) → Cut n (mark_told marked ++ told v) start (judged_in n Role.Root v)
cut_marked true v n i = (λ _. cut_root v (marked_kept true) n i.1, λ l. sym (late_value v n Role.Root (late_after n _ (told v) l i.0)))
cut_marked false v n i = cut_root v (marked_kept false) n i

cut_text : (text : Text) (n : ℕ) → InOrder (text_told text) → Cut n (text_told text) start (judged_at n text)
cut_text text n i = cut_marked text.marked text.value n i

-- the events that are complete in n bytes, and the frames after them
pub record Front (n : ℕ) (xs : List Told) (s : State) (c : ℕ) : Type 0 where
  pub done : List Told
  pub rest : List Told
  pub split : xs ≡ done ++ rest
  pub complete : map event_of done ≡ by n (map timed_of xs)
  pub frames : frames_of (run done s) ≡ c

front_on : (n : ℕ) (x : Told) (xs : List Told) (s : State) (c : ℕ) → at_of x ≤ n → Front n xs (step x s) c → Front n (x ∷ xs) s c
front_on n x xs s c l h = record {
  done = x ∷ h.done;
  rest = h.rest;
  split = ap (λ (ys : List Told). x ∷ ys) h.split;
  complete = ap (λ (es : List Event). event_of x ∷ es) h.complete ∙ sym (by_in_time n x xs l);
  frames = h.frames;
}

front_of : (n : ℕ) (xs : List Told) (s : State) (c : ℕ) → InOrder xs → Cut n xs s c → Front n xs s c
front_of n [] s c i h = record { done = []; rest = []; split = refl; complete = refl; frames = h }
front_of n (x ∷ xs) s c i h =
    elim (cases_lt n (at_of x)) [
      | inr l ↦ front_on n x xs s c l (front_of n xs (step x s) c i.1 (h.0 l))
      | inl l ↦ record { done = []; rest = x ∷ xs; split = refl; complete = sym (by_late n (x ∷ xs) (l, late_after n (at_of x) xs l i.0)); frames = h.1 l }
    ]

pub front_text : (text : Text) (bytes : List ℕ) (n : ℕ) → IsText text bytes → Front n (text_told text) start (judged_at n text)
front_text text bytes n h = let i = in_order text bytes h in front_of n (text_told text) start (judged_at n text) i (cut_text text n i)
