-- How many containers are open in a prefix.
use Rattle.gj_json.proofs.Common.{Elements, InTime, IsTimely, Level, List, Members, Mode, StandsAs, Text, Timed, Tree, ap, arith, array, constant}
use Rattle.gj_json.proofs.Common.{done_elements, done_members, element, elements_events, end_of_array, end_of_object, events, false, leaf_timed}
use Rattle.gj_json.proofs.Common.{length, levels_of, levels_with, mark_events, member, members_events, nat_le, nat_lt, nat_tests, object, open_at}
use Rattle.gj_json.proofs.Common.{partial_timed, refl, stack_timed, string, sym, timed, true, ℕ, [], ◌&&◌, ◌++◌, ◌+◌, ◌<◌, ◌∙◌, ◌∷◌, ◌≡◌, ◌≤◌}
use Rattle.gj_json.specs.declared.event.What.TheVariants as What
use Rattle.gj_json.specs.Tree.{number}
use Rattle.gj_json.specs.Names.{known_of}
use Rattle.gj_json.specs.Open.{is_open, open_in, elements_open, members_open}
use Rattle.gj_json.specs.Internal.TextMachine.{Broken, text_due, mark_one, mark_two, begun, Frame, in_array, in_object, Member, Leaf, value_due, value_done}
use Rattle.gj_json.specs.Internal.TextMachine.{array_opened, object_opened, constant_on, number_on, string_on, name_due, name_on, colon_due, back_elements}
use Rattle.gj_json.specs.Internal.TextMachine.{back_members}
use Rattle.gj_json.proofs.Readers.Simulation.{levels_length}
use Rattle.gj_json.proofs.Machine.Completions.{TextFrom, After, AfterName, Due, Completes}
use Rattle.gj_json.proofs.Events.EventTimes.{Late, later, late, late_elements, late_more_elements, late_members, late_more_members}

pub front : (n : ℕ) (xs ys : List Timed) → InTime n (xs ++ ys) → InTime n xs × InTime n ys
front n [] ys h = (tt, h)
front n (x ∷ xs) ys h = let g = front n xs ys h.1 in ((h.0, g.0), g.1)

front_late : (n : ℕ) (xs ys : List Timed) → Late n (xs ++ ys) → Late n xs × Late n ys
front_late n [] ys h = (tt, h)
front_late n (x ∷ xs) ys h = let g = front_late n xs ys h.1 in ((h.0, g.0), g.1)

pub shut : (n place close : ℕ) → close + 1 ≤ n → is_open n place close ≡ 0
shut n place close h = let e : (nat_lt place n && nat_le n close) ≡ false = grind (arith, nat_tests) in rw e refl

unopened : (n place close : ℕ) → n < place + 1 → is_open n place close ≡ 0
unopened n place close h = let e : (nat_lt place n && nat_le n close) ≡ false = grind (arith, nat_tests) in rw e refl

pub opened : (n place close : ℕ) → place + 1 ≤ n → n < close + 1 → is_open n place close ≡ 1
opened n place close h k = let e : (nat_lt place n && nat_le n close) ≡ true = grind (arith, nat_tests) in rw e refl

mutual
  -- what is complete has nothing open
  complete : (t : Tree) (n : ℕ) → InTime n (events t) → open_in n t ≡ 0
  complete (constant which place) n h = refl
  complete (number place literal end) n h = refl
  complete (string place content end) n h = refl
  complete (array place elements close) n h =
      let g = front n (elements_events elements) (timed (close + 1) close What.CloseArray ∷ []) h.1 in
      omega (arith, shut n place close g.1.0, complete_elements elements n g.0)
  complete (object place members close) n h =
      let g = front n (members_events members) (timed (close + 1) close What.CloseObject ∷ []) h.1 in
      omega (arith, shut n place close g.1.0, complete_members members n g.0)

  complete_elements : (elements : Elements) (n : ℕ) → InTime n (elements_events elements) → elements_open n elements ≡ 0
  complete_elements end_of_array n h = refl
  complete_elements (element v more) n h = let g = front n (events v) (elements_events more) h in omega (arith, complete v n g.0, complete_elements more n g.1)

  complete_members : (members : Members) (n : ℕ) → InTime n (members_events members) → members_open n members ≡ 0
  complete_members end_of_object n h = refl
  complete_members (member place name end v more) n h = let g =
      front n (events v) (members_events more) h.1 in omega (arith, complete v n g.0, complete_members more n g.1)

mutual
  -- nor has what is yet to come
  to_come : (t : Tree) (n : ℕ) → Late n (events t) → open_in n t ≡ 0
  to_come (constant which place) n h = refl
  to_come (number place literal end) n h = refl
  to_come (string place content end) n h = refl
  to_come (array place elements close) n h =
      let g = front_late n (elements_events elements) (timed (close + 1) close What.CloseArray ∷ []) h.1 in
      omega (arith, unopened n place close h.0, elements_to_come elements n g.0)
  to_come (object place members close) n h =
      let g = front_late n (members_events members) (timed (close + 1) close What.CloseObject ∷ []) h.1 in
      omega (arith, unopened n place close h.0, members_to_come members n g.0)

  elements_to_come : (elements : Elements) (n : ℕ) → Late n (elements_events elements) → elements_open n elements ≡ 0
  elements_to_come end_of_array n h = refl
  elements_to_come (element v more) n h = let g =
      front_late n (events v) (elements_events more) h in omega (arith, to_come v n g.0, elements_to_come more n g.1)

  members_to_come : (members : Members) (n : ℕ) → Late n (members_events members) → members_open n members ≡ 0
  members_to_come end_of_object n h = refl
  members_to_come (member place name end v more) n h = let g =
      front_late n (events v) (members_events more) h.1 in omega (arith, to_come v n g.0, members_to_come more n g.1)

back_open : (n : ℕ) (done : List Tree) (more : Elements) → InTime n (done_elements done) → elements_open n (back_elements done more) ≡ elements_open n more
back_open n [] more h = refl
back_open n (t ∷ done) more h =
    let g = front n (done_elements done) (events t) h in
    back_open n done (element t more) g.0 ∙ omega (arith, complete t n g.1)

back_members_open : (n : ℕ) (done : List Member) (more : Members) → InTime n (done_members done) → members_open n (back_members done more) ≡ members_open n more
back_members_open n [] more h = refl
back_members_open n (m ∷ done) more h =
    let g = front n (done_members done) (timed m.end m.place (What.Name (known_of m.name)) ∷ events m.value) h in
    back_members_open n done (member m.place m.name m.end m.value more) g.0 ∙ omega (arith, complete m.value n g.1.1)

-- around the value t are the containers of the stack
pub after_open : (stack : List Frame) (t T : Tree) (n m : ℕ) (bytes : List ℕ) → n ≤ m → InTime n (stack_timed stack) → After stack t T m bytes
    → open_in n T ≡ length stack + open_in n t
after_open [] t T n m bytes l i h = ap (open_in n) h.1 ∙ omega arith
after_open (in_array place done ∷ stack) t T n m bytes l i h =
    let g = front n (stack_timed stack) (timed (place + 1) place What.OpenArray ∷ done_elements done) i in
    let k = front_late m (elements_events h.0) (timed (h.1 + 1) h.1 What.CloseArray ∷ [])
    (later m _ (elements_events h.0 ++ timed (h.1 + 1) h.1 What.CloseArray ∷ []) (omega arith) (late_more_elements h.0 h.1 _ _ h.2.after.before)) in
    let r = after_open stack (array place (back_elements done (element t h.0)) h.1) T n _ _ (omega arith) g.0 h.2.after.after in
    omega (
      arith,
      r,
      back_open n done (element t h.0) g.1.1,
      opened n place h.1 g.1.0 (omega (arith, k.1.0)),
      elements_to_come h.0 n
          (later n m (elements_events h.0) l k.0),
    )
after_open (in_object place done np name ne ∷ stack) t T n m bytes l i h =
    let g = front n (stack_timed stack) (timed (place + 1) place What.OpenObject ∷ (done_members done ++ timed ne np (What.Name (known_of name)) ∷ [])) i in
    let j = front n (done_members done) (timed ne np (What.Name (known_of name)) ∷ []) g.1.1 in
    let k = front_late m (members_events h.0) (timed (h.1 + 1) h.1 What.CloseObject ∷ [])
    (later m _ (members_events h.0 ++ timed (h.1 + 1) h.1 What.CloseObject ∷ []) (omega arith) (late_more_members h.0 h.1 _ _ h.2.after.before)) in
    let r = after_open stack (object place (back_members done (member np name ne t h.0)) h.1) T n _ _ (omega arith) g.0 h.2.after.after in
    omega (
      arith,
      r,
      back_members_open n done (member np name ne t h.0) j.0,
      opened n place h.1 g.1.0 (omega (arith, k.1.0)),
      members_to_come h.0 n
          (later n m (members_events h.0) l k.0),
    )

-- the same around a member's value, though its name is yet to come
member_open : (stack : List Frame) (place : ℕ) (done : List Member) (np : ℕ) (name : List ℕ) (ne : ℕ) (t T : Tree) (n m : ℕ) (bytes : List ℕ) → n ≤ m
    → InTime n (stack_timed stack) → place + 1 ≤ n → InTime n (done_members done)
    → After (in_object place done np name ne ∷ stack) t T m bytes → open_in n T ≡ length stack + 1 + open_in n t
member_open stack place done np name ne t T n m bytes l i p j h =
    let k = front_late m (members_events h.0) (timed (h.1 + 1) h.1 What.CloseObject ∷ [])
    (later m _ (members_events h.0 ++ timed (h.1 + 1) h.1 What.CloseObject ∷ []) (omega arith) (late_more_members h.0 h.1 _ _ h.2.after.before)) in
    let r = after_open stack (object place (back_members done (member np name ne t h.0)) h.1) T n _ _ (omega arith) i h.2.after.after in
    omega (
      arith,
      r,
      back_members_open n done (member np name ne t h.0) j,
      opened n place h.1 p (omega (arith, k.1.0)),
      members_to_come h.0 n
          (later n m (members_events h.0) l k.0),
    )

name_open : (stack : List Frame) (place : ℕ) (done : List Member) (np : ℕ) (name : List ℕ) (ne : ℕ) (T : Tree) (n m : ℕ) (bytes : List ℕ) → n ≤ m
    → InTime n (stack_timed stack) → place + 1 ≤ n → InTime n (done_members done)
    → AfterName stack place done np name ne T m bytes → open_in n T ≡ length stack + 1
name_open stack place done np name ne T n m bytes l i p j h =
    let r = member_open stack place done np name ne h.0 T n _ _ (omega arith) i p j h.1.after.after.after.after in
    omega (arith, r, to_come h.0 n (later n _ (events h.0) (omega arith) (late h.0 _ _ h.1.after.after.after.before)))

due_open : (stack : List Frame) (T : Tree) (n m : ℕ) (bytes : List ℕ) → n ≤ m → InTime n (stack_timed stack) → Due stack T m bytes
    → open_in n T ≡ length stack + 0
due_open stack T n m bytes l i h =
    let r = after_open stack h.0 T n _ _ (omega arith) i h.1.after.after in
    omega (arith, r, to_come h.0 n (later n _ (events h.0) (omega arith) (late h.0 _ _ h.1.after.before)))

-- the containers that a leaf has open itself
abbrev pub own_levels : Leaf → ℕ
own_levels (array_opened place) = 1
own_levels (object_opened place) = 1
own_levels (name_due place done) = 1
own_levels (name_on place done np so_far state) = 1
own_levels (colon_due place done np name ne) = 1
own_levels _ = 0

pub levels_with-length : (leaf : Leaf) (stack : List Frame) → length (levels_with leaf (levels_of stack)) ≡ length stack + own_levels leaf
levels_with-length value_due stack = omega (arith, levels_length stack)
levels_with-length other stack = omega (arith, levels_length stack)

-- the levels of a state are the containers that are open, in each tree that goes on from it
levels_open : (stack : List Frame) (leaf : Leaf) (T : Tree) (n : ℕ) (bytes : List ℕ) → InTime n (stack_timed stack ++ leaf_timed leaf)
    → Completes stack leaf T n bytes → open_in n T ≡ length stack + own_levels leaf
levels_open stack value_due T n bytes i h = due_open stack T n _ _ (omega arith) (front n (stack_timed stack) [] i).0 h
levels_open stack (value_done t) T n bytes i h = let g =
    front n (stack_timed stack) (events t) i in omega (arith, after_open stack t T n _ _ (omega arith) g.0 h, complete t n g.1)
levels_open stack (array_opened place) T n bytes i h =
    let g = front n (stack_timed stack) (timed (place + 1) place What.OpenArray ∷ []) i in
    let k = front_late n (elements_events h.0) (timed (h.1 + 1) h.1 What.CloseArray ∷ [])
    (later n _ (elements_events h.0 ++ timed (h.1 + 1) h.1 What.CloseArray ∷ []) (omega arith) (late_elements h.0 h.1 _ _ h.2.after.before)) in
    omega (
      arith,
      after_open stack (array place h.0 h.1) T n _ _ (omega arith) g.0 h.2.after.after,
      opened n place h.1 g.1.0
          (omega (arith, k.1.0)),
      elements_to_come h.0 n k.0,
    )
levels_open stack (object_opened place) T n bytes i h =
    let g = front n (stack_timed stack) (timed (place + 1) place What.OpenObject ∷ []) i in
    let k = front_late n (members_events h.0) (timed (h.1 + 1) h.1 What.CloseObject ∷ [])
    (later n _ (members_events h.0 ++ timed (h.1 + 1) h.1 What.CloseObject ∷ []) (omega arith) (late_members h.0 h.1 _ _ h.2.after.before)) in
    omega (
      arith,
      after_open stack (object place h.0 h.1) T n _ _ (omega arith) g.0 h.2.after.after,
      opened n place h.1 g.1.0
          (omega (arith, k.1.0)),
      members_to_come h.0 n k.0,
    )
levels_open stack (constant_on which place left) T n bytes i h =
    after_open stack (constant which place) T n _ _ (omega arith) (front n (stack_timed stack) [] i).0 h.after
levels_open stack (number_on place so_far) T n bytes i h =
    after_open stack (number place (so_far ++ h.0) h.1) T n _ _ (omega arith) (front n (stack_timed stack) [] i).0 h.3.after.after
levels_open stack (string_on place so_far state) T n bytes i h =
    after_open stack (string place (so_far ++ h.0) h.1) T n _ _ (omega arith) (front n (stack_timed stack) [] i).0 h.2.after
levels_open stack (name_due place done) T n bytes i h =
    let g = front n (stack_timed stack) (timed (place + 1) place What.OpenObject ∷ done_members done) i in
    name_open stack place done h.0 h.1 h.2 T n _ _ (omega arith) g.0 g.1.0 g.1.1 h.3.after.after
levels_open stack (name_on place done np so_far state) T n bytes i h =
    let g = front n (stack_timed stack) (timed (place + 1) place What.OpenObject ∷ done_members done) i in
    name_open stack place done np (so_far ++ h.0) h.1 T n _ _ (omega arith) g.0 g.1.0 g.1.1 h.2.after
levels_open stack (colon_due place done np name ne) T n bytes i h =
    let g = front n (stack_timed stack) (timed (place + 1) place What.OpenObject ∷ (done_members done ++ timed ne np (What.Name (known_of name)) ∷ [])) i in
    name_open stack place done np name ne T n _ _ (omega arith) g.0 g.1.0 (front n (done_members done) (timed ne np (What.Name (known_of name)) ∷ []) g.1.1).0 h

-- ---- a whole text

due_closed : (T : Text) (n m : ℕ) (bytes : List ℕ) → n ≤ m → Due [] T.value m bytes → open_at n T ≡ 0
due_closed T n m bytes l h =
    let e : T.value ≡ h.0 = h.1.after.after.1 in
    let k : open_in n h.0 ≡ 0 = to_come h.0 n (later n _ (events h.0) (omega arith) (late h.0 _ _ h.1.after.before)) in
    rw e k

pub open_levels : (state : Broken) (mode : Mode) (levels : List Level) (T : Text) (n start : ℕ) (bytes : List ℕ) → StandsAs state mode levels
    → IsTimely state start n → TextFrom T n bytes state → length levels ≡ open_at n T
open_levels text_due mode levels T n start bytes a t h = rw (a.1) (sym (due_closed T n (n + length h.first) _ (omega arith) h.after))
open_levels mark_one mode levels T n start bytes a t h = rw (a.1) (sym (due_closed T n (n + length h.1.first) _ (omega arith) h.1.after))
open_levels mark_two mode levels T n start bytes a t h = rw (a.1) (sym (due_closed T n (n + length h.1.first) _ (omega arith) h.1.after))
open_levels (begun marked s) mode levels T n start bytes a t h =
    rw (a.1) (levels_with-length s.leaf s.stack
    ∙ sym (levels_open s.stack s.leaf T.value n bytes (front n (mark_events marked) (partial_timed s) t.seen_by).1 h.1))
