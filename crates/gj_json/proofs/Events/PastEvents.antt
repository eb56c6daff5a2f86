-- The events that a state of the machine has seen.
use Rattle.gj_json.proofs.Common.{Bool, ConstantAt, EdgeAt, Elements, Exactly, IsTimely, List, Members, Spells, SpellsMoreElements, SpellsMoreMembers}
use Rattle.gj_json.proofs.Common.{Text, Timed, Tree, What, ap, append_assoc, arith, array, constant, done_elements, done_members, element}
use Rattle.gj_json.proofs.Common.{elements_events, events, events_by, false, leaf_timed, length, mark_events, member, members_events, object}
use Rattle.gj_json.proofs.Common.{partial_timed, refl, seen, stack_timed, string, sym, text_events, timed, true, ℕ, [], ◌++◌, ◌+◌, ◌<◌, ◌∙◌, ◌∷◌, ◌≡◌}
use Rattle.gj_json.proofs.Common.{◌≤◌}
use Rattle.std.proofs.lemmas.List.{append-nil}
use Rattle.gj_json.specs.Bytes.{colon as colon_byte, quote as quote_byte}
use Rattle.gj_json.specs.Tree.{number}
use Rattle.gj_json.specs.Names.{known_of}
use Rattle.gj_json.specs.Grammar.{Then, White, Ends}
use Rattle.gj_json.specs.Events.{by}
use Rattle.gj_json.specs.Internal.TextMachine.{Broken, text_due, mark_one, mark_two, begun, Frame, in_array, in_object, Member, Leaf, value_due, value_done}
use Rattle.gj_json.specs.Internal.TextMachine.{array_opened, object_opened, constant_on, number_on, string_on, name_due, name_on, colon_due, back_elements}
use Rattle.gj_json.specs.Internal.TextMachine.{back_members}
use Rattle.gj_json.proofs.Machine.Completions.{TextFrom, Due, After, AfterName, Completes}
use Rattle.gj_json.proofs.Events.EventTimes.{Late, told, by-append, by-in_time, by-late, late-append, later, late, late_elements, late_more_elements}
use Rattle.gj_json.proofs.Events.EventTimes.{late_members, late_more_members, quoted_after, ends_after}

pub back_elements-events : (done : List Tree) (more : Elements) → elements_events (back_elements done more) ≡ done_elements done ++ elements_events more
back_elements-events [] more = refl
back_elements-events (t ∷ done) more = back_elements-events done (element t more) ∙ sym (append_assoc (done_elements done) (events t) (elements_events more))

pub back_members-events : (done : List Member) (more : Members) → members_events (back_members done more) ≡ done_members done ++ members_events more
back_members-events [] more = refl
back_members-events (m ∷ done) more = back_members-events done (member m.place m.name m.end m.value more)
    ∙ sym (append_assoc (done_members done) (timed m.end m.place (What.Name (known_of m.name)) ∷ events m.value) (members_events more))

regroup : (S X D E M G : List Timed) (o c : Timed) → X ≡ D ++ (E ++ M) → S ++ ((o ∷ (X ++ c ∷ [])) ++ G) ≡ (S ++ (o ∷ D)) ++ (E ++ ((M ++ c ∷ []) ++ G))
regroup S X D E M G o c e = rw e (simp append_assoc)

regroup_named : (S X D E M G : List Timed) (o p c : Timed) → X ≡ D ++ (p ∷ (E ++ M))
    → S ++ ((o ∷ (X ++ c ∷ [])) ++ G) ≡ (S ++ (o ∷ (D ++ p ∷ []))) ++ (E ++ ((M ++ c ∷ []) ++ G))
regroup_named S X D E M G o p c e = rw e (simp append_assoc)

-- All that the tree T has is what was seen before the value t, what t has, and what comes later.
pub after_seen : (stack : List Frame) (t T : Tree) (n : ℕ) (bytes : List ℕ) → After stack t T n bytes → (rest : List Timed) × Late n rest
    × (events T ≡ stack_timed stack ++ (events t ++ rest))
after_seen [] t T n bytes h = ([], tt, ap events h.1 ∙ sym (append-nil (events t)))
after_seen (in_array place done ∷ stack) t T n bytes h =
    let w : Then White (Then (SpellsMoreElements h.0 h.1) (After stack (array place (back_elements done (element t h.0)) h.1) T)) n bytes = h.2 in
    let g = after_seen stack (array place (back_elements done (element t h.0)) h.1) T _ _ w.after.after in
    let l : Late n (elements_events h.0 ++ timed (h.1 + 1) h.1 What.CloseArray ∷ []) =
    later n _ (elements_events h.0 ++ timed (h.1 + 1) h.1 What.CloseArray ∷ []) (omega arith) (late_more_elements h.0 h.1 _ _ w.after.before) in (
      (elements_events h.0 ++ timed (h.1 + 1) h.1 What.CloseArray ∷ []) ++ g.0,
      late-append n _ g.0 l (later n _ g.0 (omega arith) g.1),
      g.2 ∙ regroup (stack_timed stack) _ (done_elements done) (events t) (elements_events h.0) g.0 (timed (place + 1) place What.OpenArray)
          (timed (h.1 + 1) h.1 What.CloseArray) (back_elements-events done (element t h.0)),
    )
after_seen (in_object place done np name ne ∷ stack) t T n bytes h =
    let w : Then White (Then (SpellsMoreMembers h.0 h.1) (After stack (object place (back_members done (member np name ne t h.0)) h.1) T)) n bytes = h.2 in
    let g = after_seen stack (object place (back_members done (member np name ne t h.0)) h.1) T _ _ w.after.after in
    let l : Late n (members_events h.0 ++ timed (h.1 + 1) h.1 What.CloseObject ∷ []) =
    later n _ (members_events h.0 ++ timed (h.1 + 1) h.1 What.CloseObject ∷ []) (omega arith) (late_more_members h.0 h.1 _ _ w.after.before) in (
      (members_events h.0 ++ timed (h.1 + 1) h.1 What.CloseObject ∷ []) ++ g.0,
      late-append n _ g.0 l (later n _ g.0 (omega arith) g.1),
      g.2 ∙ regroup_named (stack_timed stack) _ (done_members done) (events t) (members_events h.0) g.0 (timed (place + 1) place What.OpenObject)
          (timed ne np (What.Name (known_of name))) (timed (h.1 + 1) h.1 What.CloseObject) (back_members-events done (member np name ne t h.0)),
    )

-- ---- the same of each state: its past, and what comes later

abbrev pub Split : List Frame → Leaf → Tree → ℕ → Type 0
Split stack leaf T n = (rest : List Timed) × Late n rest × (events T ≡ (stack_timed stack ++ leaf_timed leaf) ++ rest)

-- where nothing of the value t is seen yet
unseen : (stack : List Frame) (leaf : Leaf) (t T : Tree) (n m : ℕ) (bytes : List ℕ) → leaf_timed leaf ≡ [] → n ≤ m → Late n (events t) → After stack t T m bytes
    → Split stack leaf T n
unseen stack leaf t T n m bytes e l late h =
    let g = after_seen stack t T m bytes h in
    (events t ++ g.0, late-append n (events t) g.0 late (later n m g.0 l g.1), (rw (e, append-nil (stack_timed stack)) g.2))

opened_split : (S X G : List Timed) (o c : Timed) (E : List Timed) → E ≡ S ++ ((o ∷ (X ++ c ∷ [])) ++ G) → E ≡ (S ++ o ∷ []) ++ ((X ++ c ∷ []) ++ G)
opened_split S X G o c E e = e ∙ simp append_assoc

name_split : (stack : List Frame) (place : ℕ) (done : List Member) (np : ℕ) (name : List ℕ) (ne : ℕ) (T : Tree) (n : ℕ) (bytes : List ℕ)
    → AfterName stack place done np name ne T n bytes
    → (rest : List Timed) × Late n rest
    × (events T ≡ (stack_timed stack ++ (timed (place + 1) place What.OpenObject ∷ (done_members done ++ timed ne np (What.Name (known_of name)) ∷ [])))
    ++ rest)
name_split stack place done np name ne T n bytes h =
    let w : Then White (Then (Exactly (colon_byte ∷ [])) (Then White (Then (Spells h.0) (After (in_object place done np name ne ∷ stack) h.0 T)))) n bytes =
    h.1 in
    let v : Then White (Then (Spells h.0) (After (in_object place done np name ne ∷ stack) h.0 T)) (n + length w.first + length w.after.first) w.after.rest =
    w.after.after in
    let g = after_seen (in_object place done np name ne ∷ stack) h.0 T _ _ v.after.after in (
      events h.0 ++ g.0,
      late-append n (events h.0) g.0 (later n _ (events h.0) (omega arith) (late h.0 _ _ v.after.before))
          (later n _ g.0 (omega arith) g.1),
      g.2,
    )

due_split : (S D R : List Timed) (o p : Timed) (E : List Timed) → E ≡ (S ++ (o ∷ (D ++ p ∷ []))) ++ R → E ≡ (S ++ (o ∷ D)) ++ (p ∷ R)
due_split S D R o p E e = e ∙ simp append_assoc

string_after : {A : ℕ → List ℕ → Type 0} {n end : ℕ} {bytes : List ℕ} → Then A (Then (Exactly (quote_byte ∷ [])) (Ends end)) n bytes → n < end
string_after h = let l : length h.after.first ≡ 1 = ap length h.after.before in omega (arith, ends_after h.after)

pub split : (stack : List Frame) (leaf : Leaf) (T : Tree) (n : ℕ) (bytes : List ℕ) → ConstantAt leaf n → Completes stack leaf T n bytes → Split stack leaf T n
split stack value_due T n bytes k h =
    unseen stack value_due h.0 T n _ _ refl (omega arith) (later n _ (events h.0) (omega arith) (late h.0 _ _ h.1.after.before)) h.1.after.after
split stack (value_done t) T n bytes k h = let g = after_seen stack t T n bytes h in (g.0, g.1, g.2 ∙ sym (append_assoc (stack_timed stack) (events t) g.0))
split stack (array_opened place) T n bytes k h =
    let g = after_seen stack (array place h.0 h.1) T _ _ h.2.after.after in
    let l : Late n (elements_events h.0 ++ timed (h.1 + 1) h.1 What.CloseArray ∷ []) =
    later n _ (elements_events h.0 ++ timed (h.1 + 1) h.1 What.CloseArray ∷ []) (omega arith) (late_elements h.0 h.1 _ _ h.2.after.before) in (
      (elements_events h.0 ++ timed (h.1 + 1) h.1 What.CloseArray ∷ []) ++ g.0,
      late-append n _ g.0 l (later n _ g.0 (omega arith) g.1),
      opened_split (stack_timed stack) (elements_events h.0) g.0 (timed (place + 1) place What.OpenArray) (timed (h.1 + 1) h.1 What.CloseArray) (events T) g.2,
    )
split stack (object_opened place) T n bytes k h =
    let g = after_seen stack (object place h.0 h.1) T _ _ h.2.after.after in
    let l : Late n (members_events h.0 ++ timed (h.1 + 1) h.1 What.CloseObject ∷ []) =
    later n _ (members_events h.0 ++ timed (h.1 + 1) h.1 What.CloseObject ∷ []) (omega arith) (late_members h.0 h.1 _ _ h.2.after.before) in (
      (members_events h.0 ++ timed (h.1 + 1) h.1 What.CloseObject ∷ []) ++ g.0,
      late-append n _ g.0 l (later n _ g.0 (omega arith) g.1),
      opened_split (stack_timed stack) (members_events h.0) g.0 (timed (place + 1) place What.OpenObject) (timed (h.1 + 1) h.1 What.CloseObject) (events T) g.2,
    )
split stack (constant_on which place left) T n bytes k h =
    unseen stack (constant_on which place left) (constant which place) T n _ _ refl (omega arith) (omega (arith, k.0, k.1), tt) h.after
split stack (number_on place so_far) T n bytes k h =
    unseen stack (number_on place so_far) (number place (so_far ++ h.0) h.1) T n _ _ refl (omega arith) (omega (arith, h.3.after.before.1), tt) h.3.after.after
split stack (string_on place so_far state) T n bytes k h =
    unseen stack (string_on place so_far state) (string place (so_far ++ h.0) h.1) T n _ _ refl (omega arith)
    (string_after {end = h.1} h.2.before, tt) h.2.after
split stack (name_due place done) T n bytes k h =
    let g = name_split stack place done h.0 h.1 h.2 T _ _ h.3.after.after in
    let q = quoted_after h.0 h.1 h.2 h.3.after.before in (
      timed h.2 h.0 (What.Name (known_of h.1)) ∷ g.0,
      (omega (arith, q), later n _ g.0 (omega arith) g.1),
      due_split (stack_timed stack) (done_members done) g.0
          (timed (place + 1) place What.OpenObject) (timed h.2 h.0 (What.Name (known_of h.1))) (events T) g.2,
    )
split stack (name_on place done np so_far state) T n bytes k h =
    let g = name_split stack place done np (so_far ++ h.0) h.1 T _ _ h.2.after in
    let q = string_after {end = h.1} h.2.before in (
      timed h.1 np (What.Name (known_of (so_far ++ h.0))) ∷ g.0,
      (omega (arith, q), later n _ g.0 (omega arith) g.1),
      due_split (stack_timed stack)
          (done_members done) g.0 (timed (place + 1) place What.OpenObject) (timed h.1 np (What.Name (known_of (so_far ++ h.0)))) (events T) g.2,
    )
split stack (colon_due place done np name ne) T n bytes k h = name_split stack place done np name ne T n bytes h

-- ---- a whole text

-- the past of a state, and what comes later
pub record Parts (state : Broken) (T : Text) (n : ℕ) : Type 0 where
  pub later_events : List Timed
  pub late : Late n later_events
  pub split : text_events T ≡ seen state ++ later_events

due_late : (T : Text) (n m : ℕ) (bytes : List ℕ) → n ≤ m → Due [] T.value m bytes → Late n (events T.value)
due_late T n m bytes l h =
    let e : T.value ≡ h.0 = h.1.after.after.1 in
    let k : Late n (events h.0) = later n _ (events h.0) (omega arith) (late h.0 _ _ h.1.after.before) in
    rw e k

mark_late : (T : Text) (n m : ℕ) (bytes : List ℕ) → n < 3 → n ≤ m → Due [] T.value m bytes → Late n (text_events T)
mark_late T n m bytes k l h = late-append n (mark_events T.marked) (events T.value) (go T.marked) (due_late T n m bytes l h)
  where
    go : (marked : Bool) → Late n (mark_events marked)
    go true = (k, tt)
    go false = tt

parts : (state : Broken) (T : Text) (n start : ℕ) (bytes : List ℕ) → EdgeAt state start n → TextFrom T n bytes state → Parts state T n
parts text_due T n start bytes e h =
    record { later_events = text_events T; late = mark_late T n (n + length h.first) _ (omega arith) (omega arith) h.after; split = refl }
parts mark_one T n start bytes e h =
    record { later_events = text_events T; late = mark_late T n (n + length h.1.first) _ (omega arith) (omega arith) h.1.after; split = refl }
parts mark_two T n start bytes e h =
    record { later_events = text_events T; late = mark_late T n (n + length h.1.first) _ (omega arith) (omega arith) h.1.after; split = refl }
parts (begun marked s) T n start bytes e h =
    let g = split s.stack s.leaf T.value n bytes e.1 h.1 in
    record {
      later_events = g.0;
      late = g.1;
      split = ap (λ m. mark_events m ++ events T.value) h.0 ∙ ap (λ xs. mark_events marked ++ xs) g.2
          ∙ sym (append_assoc (mark_events marked) (partial_timed s) g.0);
    }

-- what is complete in the bytes so far is what was seen
pub events_seen : (state : Broken) (T : Text) (n start : ℕ) (bytes : List ℕ) → IsTimely state start n → TextFrom T n bytes state
    → events_by n T ≡ told (seen state)
events_seen state T n start bytes t h =
    let g = parts state T n start bytes t.edge h in
    ap (by n) g.split ∙ by-append n (seen state) g.later_events ∙ ap (λ xs. xs ++ by n g.later_events) (by-in_time n (seen state) t.seen_by)
    ∙ ap (λ xs. told (seen state) ++ xs) (by-late n g.later_events g.late) ∙ append-nil (told (seen state))
