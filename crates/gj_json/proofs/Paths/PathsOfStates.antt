-- The path that a prefix of a text leads to, by the state of the machine.
use Rattle.gj_json.proofs.Common.{BegunAs, Bool, Elements, False, InTime, Index, IsText, IsTimely, LeafAs, Level, List, Members, Mode, None, Null}
use Rattle.gj_json.proofs.Common.{Option, PathStep, Some, Spells, SpellsElements, SpellsMembers, SpellsMoreElements, SpellsMoreMembers, StandsAs}
use Rattle.gj_json.proofs.Common.{Text, TrailAt, Tree, True, advanced, ap, arith, array, constant, done_elements, done_members, element}
use Rattle.gj_json.proofs.Common.{elements_events, end_of_array, end_of_object, events, false, if◌then◌else◌, leaf_timed, length, mark_events, member}
use Rattle.gj_json.proofs.Common.{members_events, nat_le, nat_lt, nat_tests, object, outer_steps, partial_timed, path_at, refl, run, stack_timed}
use Rattle.gj_json.proofs.Common.{string, sym, timed, true, ℕ, [], ◌&&◌, ◌++◌, ◌+◌, ◌==◌, ◌∙◌, ◌∷◌, ◌≡◌, ◌≤◌}
use Rattle.std.proofs.Common.{unwrap_or}
use Rattle.std.specs.Option.{option_or}
use Rattle.gj_json.specs.declared.event.What.TheVariants as What
use Rattle.gj_json.specs.Tree.{number}
use Rattle.gj_json.specs.Names.{known_of}
use Rattle.gj_json.specs.Path.{by_step, path_in, elements_path, members_path}
use Rattle.gj_json.specs.Internal.PathTrail.{stack_steps, LeafTrail, begins, kept_steps}
use Rattle.gj_json.specs.Internal.TextMachine.{Broken, text_due, mark_one, mark_two, begun, Frame, in_array, in_object, Member, Leaf, value_due}
use Rattle.gj_json.specs.Internal.TextMachine.{value_done, array_opened, object_opened, constant_on, number_on, string_on, name_due, name_on, colon_due}
use Rattle.gj_json.specs.Internal.TextMachine.{back_elements, back_members}
use Rattle.gj_json.proofs.Machine.Completions.{Goes, TextFrom, After, AfterName, Due, Completes}
use Rattle.gj_json.proofs.Events.OpenContainers.{front}
use Rattle.gj_json.proofs.Paths.PathSteps.{outward}
use Rattle.gj_json.proofs.Grammar.NonemptyTokens.{Whole, WholeDone, WholeDoneMembers, WholeStack, whole_in, whole_text}
use Rattle.gj_json.proofs.Machine.ReachedStates.{reached}
use Rattle.gj_json.proofs.Machine.MachineTexts.{text_goes_on}

abbrev to_value : ℕ → ℕ → Option (List PathStep)
to_value n place = if place + 1 == n then Some [] else None

abbrev to_container : Bool → Option (List PathStep) → Option (List PathStep)
to_container is_open inside = if is_open then Some (unwrap_or inside []) else None

abbrev has_open : ℕ → ℕ → ℕ → Bool
has_open n place close = nat_lt place n && nat_le n close

elsewhere : (n place : ℕ) → (place + 1 ≡ n → ⊥) → to_value n place ≡ None
elsewhere n place d = let e : (place + 1 == n) ≡ false = grind (arith, nat_tests) in rw e refl

unopened : (n place close : ℕ) → n ≤ place → has_open n place close ≡ false
unopened n place close h = grind (arith, nat_tests)

shut : (n place close : ℕ) → close + 1 ≤ n → has_open n place close ≡ false
shut n place close h = grind (arith, nat_tests)

opened : (n place close : ℕ) → place + 1 ≤ n → n ≤ close → has_open n place close ≡ true
opened n place close h k = grind (arith, nat_tests)

-- ---- it leads into nothing that is yet to come

mutual
  to_come : (t : Tree) (n m : ℕ) (bytes : List ℕ) → n ≤ m → Spells t m bytes → path_in n t ≡ None
  to_come (constant which place) n m bytes l h = elsewhere n place (λ e. omega (arith, h.0))
  to_come (number place literal end) n m bytes l h = elsewhere n place (λ e. omega (arith, h.0))
  to_come (string place content end) n m bytes l h = elsewhere n place (λ e. omega (arith, h.0))
  to_come (array place elements close) n m bytes l h = rw (unopened n place close (omega (arith, h.0))) refl
  to_come (object place members close) n m bytes l h = rw (unopened n place close (omega (arith, h.0))) refl

  elements_to_come : (elements : Elements) (close n m i : ℕ) (bytes : List ℕ) → n ≤ m → SpellsElements elements close m bytes
      → elements_path n i elements ≡ None
  elements_to_come end_of_array close n m i bytes l h = refl
  elements_to_come (element v more) close n m i bytes l h =
      rw (to_come v n _ _ l h.before) (more_elements_to_come more close n _ (i + 1) _ (omega arith) h.after.after)

  more_elements_to_come : (elements : Elements) (close n m i : ℕ) (bytes : List ℕ) → n ≤ m → SpellsMoreElements elements close m bytes
      → elements_path n i elements ≡ None
  more_elements_to_come end_of_array close n m i bytes l h = refl
  more_elements_to_come (element v more) close n m i bytes l h =
      rw (to_come v n _ _ (omega arith) h.after.after.before) (more_elements_to_come more close n _ (i + 1) _ (omega arith) h.after.after.after.after)

  members_to_come : (members : Members) (close n m : ℕ) (bytes : List ℕ) → n ≤ m → SpellsMembers members close m bytes → members_path n members ≡ None
  members_to_come end_of_object close n m bytes l h = refl
  members_to_come (member place name end v more) close n m bytes l h =
      rw (to_come v n _ _ (omega arith) h.after.after.after.after.before)
      (more_members_to_come more close n _ _ (omega arith) h.after.after.after.after.after.after)

  more_members_to_come : (members : Members) (close n m : ℕ) (bytes : List ℕ) → n ≤ m → SpellsMoreMembers members close m bytes → members_path n members ≡ None
  more_members_to_come end_of_object close n m bytes l h = refl
  more_members_to_come (member place name end v more) close n m bytes l h =
      rw (to_come v n _ _ (omega arith) h.after.after.after.after.after.after.before)
      (more_members_to_come more close n _ _ (omega arith) h.after.after.after.after.after.after.after.after)

-- ---- nor into anything that is complete

complete : (t : Tree) (n : ℕ) → InTime n (events t) → Whole t → path_in n t ≡ None
complete (constant Null place) n h w = elsewhere n place (λ e. omega (arith, h.0))
complete (constant True place) n h w = elsewhere n place (λ e. omega (arith, h.0))
complete (constant False place) n h w = elsewhere n place (λ e. omega (arith, h.0))
complete (number place literal end) n h w = elsewhere n place (λ e. omega (arith, h.0, w))
complete (string place content end) n h w = elsewhere n place (λ e. omega (arith, h.0, w))
complete (array place elements close) n h w =
    let g = front n (elements_events elements) (timed (close + 1) close What.CloseArray ∷ []) h.1 in
    rw (shut n place close g.1.0) refl
complete (object place members close) n h w =
    let g = front n (members_events members) (timed (close + 1) close What.CloseObject ∷ []) h.1 in
    rw (shut n place close g.1.0) refl

back_path : (n i : ℕ) (done : List Tree) (more : Elements) → InTime n (done_elements done) → WholeDone done
    → elements_path n i (back_elements done more) ≡ elements_path n (i + length done) more
back_path n i [] more h w = ap (λ k. elements_path n k more) (omega arith)
back_path n i (t ∷ done) more h w =
    let g = front n (done_elements done) (events t) h in
    let e = complete t n g.1 w.0 in
    let k : i + length done + 1 ≡ i + length (t ∷ done) = omega arith in
    back_path n i done (element t more) g.0 w.1 ∙ rw e (ap (λ j. elements_path n j more) k)

back_members_path : (n : ℕ) (done : List Member) (more : Members) → InTime n (done_members done) → WholeDoneMembers done
    → members_path n (back_members done more) ≡ members_path n more
back_members_path n [] more h w = refl
back_members_path n (m ∷ done) more h w =
    let g = front n (done_members done) (timed m.end m.place (What.Name (known_of m.name)) ∷ events m.value) h in
    let e = complete m.value n g.1.1 w.0 in
    back_members_path n done (member m.place m.name m.end m.value more) g.0 w.1 ∙ rw e refl

-- ---- around a value

-- what the elements lead to, from the value after those that have ended
abbrev at_element : ℕ → ℕ → Option (List PathStep) → Elements → Option (List PathStep)
at_element n i o more = option_or (by_step (Index i) o) (elements_path n (i + 1) more)

array_path : (n place close : ℕ) (done : List Tree) (t : Tree) (more : Elements) (o : Option (List PathStep)) → place + 1 ≤ n → n ≤ close
    → InTime n (done_elements done) → WholeDone done → path_in n t ≡ o
    → path_in n (array place (back_elements done (element t more)) close) ≡ to_container true (at_element n (length done) o more)
array_path n place close done t more o p c h w e =
    let z : 0 + length done ≡ length done = omega arith in
    let k : elements_path n 0 (back_elements done (element t more)) ≡ at_element n (length done) o more =
    back_path n 0 done (element t more) h w ∙ ap (λ j. elements_path n j (element t more)) z ∙ rw e refl in
    rw (opened n place close p c, k) refl

abbrev at_member : ℕ → List ℕ → Option (List PathStep) → Members → Option (List PathStep)
at_member n name o more = option_or (by_step (PathStep.Member (known_of name)) o) (members_path n more)

object_path : (n place close : ℕ) (done : List Member) (np : ℕ) (name : List ℕ) (ne : ℕ) (t : Tree) (more : Members) (o : Option (List PathStep))
    → place + 1 ≤ n → n ≤ close → InTime n (done_members done) → WholeDoneMembers done → path_in n t ≡ o
    → path_in n (object place (back_members done (member np name ne t more)) close) ≡ to_container true (at_member n name o more)
object_path n place close done np name ne t more o p c h w e =
    let k : members_path n (back_members done (member np name ne t more)) ≡ at_member n name o more =
    back_members_path n done (member np name ne t more) h w ∙ rw e refl in
    rw (opened n place close p c, k) refl

-- a closing bracket stands after what is yet to come
close_behind : (elements : Elements) (close n : ℕ) (bytes : List ℕ) → SpellsMoreElements elements close n bytes → n ≤ close
close_behind end_of_array close n bytes h = omega (arith, h.1)
close_behind (element v more) close n bytes h = omega (arith, close_behind more close _ _ h.after.after.after.after)

close_behind_members : (members : Members) (close n : ℕ) (bytes : List ℕ) → SpellsMoreMembers members close n bytes → n ≤ close
close_behind_members end_of_object close n bytes h = omega (arith, h.1)
close_behind_members (member place name end v more) close n bytes h =
    omega (arith, close_behind_members more close _ _ h.after.after.after.after.after.after.after.after)

close_behind_first : (elements : Elements) (close n : ℕ) (bytes : List ℕ) → SpellsElements elements close n bytes → n ≤ close
close_behind_first end_of_array close n bytes h = omega (arith, h.1)
close_behind_first (element v more) close n bytes h = omega (arith, close_behind more close _ _ h.after.after)

close_behind_first_member : (members : Members) (close n : ℕ) (bytes : List ℕ) → SpellsMembers members close n bytes → n ≤ close
close_behind_first_member end_of_object close n bytes h = omega (arith, h.1)
close_behind_first_member (member place name end v more) close n bytes h =
    omega (arith, close_behind_members more close _ _ h.after.after.after.after.after.after)

-- it leads through the containers of the stack to what it leads to in the value t
through : (stack : List Frame) (t T : Tree) (n m : ℕ) (bytes : List ℕ) (steps : List PathStep) → n ≤ m → InTime n (stack_timed stack) → WholeStack stack
    → After stack t T m bytes → path_in n t ≡ Some steps
    → path_in n T ≡ Some (outward (stack_steps stack) steps)
through [] t T n m bytes steps l i w h e = ap (path_in n) h.1 ∙ e
through (in_array place done ∷ stack) t T n m bytes steps l i w h e =
    let g = front n (stack_timed stack) (timed (place + 1) place What.OpenArray ∷ done_elements done) i in
    let c = close_behind h.0 h.1 _ _ h.2.after.before in
    let k = array_path n place h.1 done t h.0 (Some steps) g.1.0 (omega (arith, c)) g.1.1 w.0 e in
    through stack (array place (back_elements done (element t h.0)) h.1) T n _ _ (Index (length done) ∷ steps) (omega arith) g.0 w.1 h.2.after.after k
through (in_object place done np name ne ∷ stack) t T n m bytes steps l i w h e =
    let g = front n (stack_timed stack) (timed (place + 1) place What.OpenObject ∷ (done_members done ++ timed ne np (What.Name (known_of name)) ∷ [])) i in
    let j = front n (done_members done) (timed ne np (What.Name (known_of name)) ∷ []) g.1.1 in
    let c = close_behind_members h.0 h.1 _ _ h.2.after.before in
    let k = object_path n place h.1 done np name ne t h.0 (Some steps) g.1.0 (omega (arith, c)) j.0 w.0 e in
    through stack (object place (back_members done (member np name ne t h.0)) h.1) T n _ _ (PathStep.Member (known_of name) ∷ steps)
    (omega arith) g.0 w.1 h.2.after.after k

abbrev Leads : ℕ → Tree → List PathStep → Type 0
Leads n T steps = unwrap_or (path_in n T) [] ≡ outward steps []

to_it : (stack : List Frame) (t T : Tree) (n m : ℕ) (bytes : List ℕ) → n ≤ m → InTime n (stack_timed stack) → WholeStack stack → After stack t T m bytes
    → path_in n t ≡ Some [] → Leads n T (stack_steps stack)
to_it stack t T n m bytes l i w h e = ap (λ o. unwrap_or o []) (through stack t T n m bytes [] l i w h e)

-- where it leads nowhere in a member's value, though the name is yet to come, it leads to the object
to_object : (stack : List Frame) (place : ℕ) (done : List Member) (np : ℕ) (name : List ℕ) (ne : ℕ) (t T : Tree) (n m : ℕ) (bytes : List ℕ) → n ≤ m
    → InTime n (stack_timed stack) → place + 1 ≤ n → InTime n (done_members done)
    → WholeStack (in_object place done np name ne ∷ stack) → After (in_object place done np name ne ∷ stack) t T m bytes → path_in n t ≡ None
    → Leads n T (stack_steps stack)
to_object stack place done np name ne t T n m bytes l i p j w h e =
    let c = close_behind_members h.0 h.1 _ _ h.2.after.before in
    let k = object_path n place h.1 done np name ne t h.0 None p (omega (arith, c)) j w.0 e in
    let r : members_path n h.0 ≡ None = more_members_to_come h.0 h.1 n _ _ (omega arith) h.2.after.before in
    let s : path_in n (object place (back_members done (member np name ne t h.0)) h.1) ≡ Some [] = k ∙ rw r refl in
    to_it stack (object place (back_members done (member np name ne t h.0)) h.1) T n _ _ (omega arith) i w.1 h.2.after.after s

-- where it leads nowhere in the value t, it leads to the innermost container
to_innermost : (stack : List Frame) (t T : Tree) (n m : ℕ) (bytes : List ℕ) → n ≤ m → InTime n (stack_timed stack) → WholeStack stack → After stack t T m bytes
    → path_in n t ≡ None → Leads n T (outer_steps (stack_steps stack))
to_innermost [] t T n m bytes l i w h e = ap (λ o. unwrap_or o []) (ap (path_in n) h.1 ∙ e)
to_innermost (in_array place done ∷ stack) t T n m bytes l i w h e =
    let g = front n (stack_timed stack) (timed (place + 1) place What.OpenArray ∷ done_elements done) i in
    let c = close_behind h.0 h.1 _ _ h.2.after.before in
    let k = array_path n place h.1 done t h.0 None g.1.0 (omega (arith, c)) g.1.1 w.0 e in
    let r : elements_path n (length done + 1) h.0 ≡ None = more_elements_to_come h.0 h.1 n _ (length done + 1) _ (omega arith) h.2.after.before in
    let s : path_in n (array place (back_elements done (element t h.0)) h.1) ≡ Some [] = k ∙ rw r refl in
    to_it stack (array place (back_elements done (element t h.0)) h.1) T n _ _ (omega arith) g.0 w.1 h.2.after.after s
to_innermost (in_object place done np name ne ∷ stack) t T n m bytes l i w h e =
    let g = front n (stack_timed stack) (timed (place + 1) place What.OpenObject ∷ (done_members done ++ timed ne np (What.Name (known_of name)) ∷ [])) i in
    let j = front n (done_members done) (timed ne np (What.Name (known_of name)) ∷ []) g.1.1 in
    to_object stack place done np name ne t T n m bytes l g.0 g.1.0 j.0 w h e

-- a value that is no array and no object is under way
to_begun : (stack : List Frame) (t T : Tree) (place n m : ℕ) (bytes : List ℕ) → n ≤ m → InTime n (stack_timed stack) → WholeStack stack
    → After stack t T m bytes → path_in n t ≡ to_value n place
    → Leads n T (kept_steps (place + 1 == n) (stack_steps stack))
to_begun stack t T place n m bytes l i w h e = go (place + 1 == n) e
  where
    go : (b : Bool) → path_in n t ≡ (if b then Some [] else None) → Leads n T (kept_steps b (stack_steps stack))
    go true f = to_it stack t T n m bytes l i w h f
    go false f = to_innermost stack t T n m bytes l i w h f

outer-advanced : (steps : List PathStep) → outer_steps (advanced steps) ≡ outer_steps steps
outer-advanced [] = refl
outer-advanced (Index i ∷ steps) = refl
outer-advanced (PathStep.Member known ∷ steps) = refl

-- ---- each leaf

module _ (T : Tree) (n : ℕ) (whole : Whole T) where
  stack_whole : (stack : List Frame) (t : Tree) (m : ℕ) (bytes : List ℕ) → After stack t T m bytes → WholeStack stack
  stack_whole stack t m bytes h = (whole_in stack t T m bytes h whole).0

  due : (stack : List Frame) (m : ℕ) (bytes : List ℕ) → n ≤ m → InTime n (stack_timed stack) → Due stack T m bytes → Leads n T (outer_steps (stack_steps stack))
  due stack m bytes l i h =
      to_innermost stack h.0 T n _ _ (omega arith) i (stack_whole stack h.0 _ _ h.1.after.after) h.1.after.after
      (to_come h.0 n _ _ (omega arith) h.1.after.before)

  value_to_come : (stack : List Frame) (place : ℕ) (done : List Member) (np : ℕ) (name : List ℕ) (ne m : ℕ) (bytes : List ℕ) → n ≤ m
      → InTime n (stack_timed stack) → place + 1 ≤ n → InTime n (done_members done)
      → AfterName stack place done np name ne T m bytes → Leads n T (stack_steps stack)
  value_to_come stack place done np name ne m bytes l i p j h =
      let a = h.1.after.after.after.after in
      to_object stack place done np name ne h.0 T n _ _ (omega arith) i p j (stack_whole (in_object place done np name ne ∷ stack) h.0 _ _ a) a
      (to_come h.0 n _ _ (omega arith) h.1.after.after.after.before)

  leaf_leads : (stack : List Frame) (leaf : Leaf) (mode : Mode) (start : ℕ) (bytes : List ℕ) (steps : List PathStep) → LeafAs leaf mode → BegunAs leaf start
      → LeafTrail stack leaf steps → InTime n (stack_timed stack ++ leaf_timed leaf)
      → Completes stack leaf T n bytes → Leads n T (kept_steps (begins mode start n) steps)
  leaf_leads stack value_due mode start bytes steps a g e i h = rw (a, e) (due stack n _ (omega arith) (front n (stack_timed stack) [] i).0 h)
  leaf_leads stack (value_done t) mode start bytes steps a g e i h =
      let f = front n (stack_timed stack) (events t) i in
      let w = whole_in stack t T n _ h whole in
      rw (a, e, outer-advanced (stack_steps stack)) (to_innermost stack t T n _ _ (omega arith) f.0 w.0 h (complete t n f.1 w.1))
  leaf_leads stack (array_opened place) mode start bytes steps a g e i h =
      let f = front n (stack_timed stack) (timed (place + 1) place What.OpenArray ∷ []) i in
      let r : elements_path n 0 h.0 ≡ None = elements_to_come h.0 h.1 n _ 0 _ (omega arith) h.2.after.before in
      let c = close_behind_first h.0 h.1 _ _ h.2.after.before in
      let s : path_in n (array place h.0 h.1) ≡ Some [] = rw (opened n place h.1 f.1.0 (omega (arith, c)), r) refl in
      rw (a, e) (to_it stack (array place h.0 h.1) T n _ _ (omega arith) f.0 (stack_whole stack _ _ _ h.2.after.after) h.2.after.after s)
  leaf_leads stack (object_opened place) mode start bytes steps a g e i h =
      let f = front n (stack_timed stack) (timed (place + 1) place What.OpenObject ∷ []) i in
      let r : members_path n h.0 ≡ None = members_to_come h.0 h.1 n _ _ (omega arith) h.2.after.before in
      let c = close_behind_first_member h.0 h.1 _ _ h.2.after.before in
      let s : path_in n (object place h.0 h.1) ≡ Some [] = rw (opened n place h.1 f.1.0 (omega (arith, c)), r) refl in
      rw (a, e.are) (to_it stack (object place h.0 h.1) T n _ _ (omega arith) f.0 (stack_whole stack _ _ _ h.2.after.after) h.2.after.after s)
  leaf_leads stack (constant_on which place left) mode start bytes steps a g e i h =
      rw (a.1, g, e) (to_begun stack (constant which place) T place n _ _ (omega arith) (front n (stack_timed stack) [] i).0
      (stack_whole stack _ _ _ h.after) h.after refl)
  leaf_leads stack (number_on place so_far) mode start bytes steps a g e i h =
      rw (a, g, e) (to_begun stack (number place (so_far ++ h.0) h.1) T place n _ _ (omega arith) (front n (stack_timed stack) [] i).0
      (stack_whole stack _ _ _ h.3.after.after) h.3.after.after refl)
  leaf_leads stack (string_on place so_far state) mode start bytes steps a g e i h =
      rw (a, g, e) (to_begun stack (string place (so_far ++ h.0) h.1) T place n _ _ (omega arith) (front n (stack_timed stack) [] i).0
      (stack_whole stack _ _ _ h.2.after) h.2.after refl)
  leaf_leads stack (name_due place done) mode start bytes steps a g e i h =
      let f = front n (stack_timed stack) (timed (place + 1) place What.OpenObject ∷ done_members done) i in
      rw (a, e.are) (value_to_come stack place done h.0 h.1 h.2 _ _ (omega arith) f.0 f.1.0 f.1.1 h.3.after.after)
  leaf_leads stack (name_on place done np so_far state) mode start bytes steps a g e i h =
      let f = front n (stack_timed stack) (timed (place + 1) place What.OpenObject ∷ done_members done) i in
      rw (a, e.are) (value_to_come stack place done np (so_far ++ h.0) h.1 _ _ (omega arith) f.0 f.1.0 f.1.1 h.2.after)
  leaf_leads stack (colon_due place done np name ne) mode start bytes steps a g e i h =
      let f = front n (stack_timed stack) (timed (place + 1) place What.OpenObject ∷ (done_members done ++ timed ne np (What.Name (known_of name)) ∷ [])) i in
      rw (a, e) (value_to_come stack place done np name ne n _ (omega arith) f.0 f.1.0
      (front n (done_members done) (timed ne np (What.Name (known_of name)) ∷ []) f.1.1).0 h)

-- ---- a whole text

pub path_leads : (state : Broken) (mode : Mode) (levels : List Level) (T : Text) (n start : ℕ) (bytes : List ℕ) (steps : List PathStep) → Whole T.value
    → StandsAs state mode levels → IsTimely state start n → TrailAt state steps → TextFrom T n bytes state
    → path_at n T ≡ outward (kept_steps (begins mode start n) steps) []
path_leads text_due mode levels T n start bytes steps w a t e h = rw (a.0, e) (due T.value n w [] (n + length h.first) _ (omega arith) tt h.after)
path_leads mark_one mode levels T n start bytes steps w a t e h = rw (a.0, e) (due T.value n w [] (n + length h.1.first) _ (omega arith) tt h.1.after)
path_leads mark_two mode levels T n start bytes steps w a t e h = rw (a.0, e) (due T.value n w [] (n + length h.1.first) _ (omega arith) tt h.1.after)
path_leads (begun marked s) mode levels T n start bytes steps w a t e h =
    leaf_leads T.value n w s.stack s.leaf mode start bytes steps a.0 t.edge.0 e (front n (mark_events marked) (partial_timed s) t.seen_by).1 h.1

-- ---- texts that begin alike

-- some steps of a state
leaf_steps : (stack : List Frame) (leaf : Leaf) → (steps : List PathStep) × LeafTrail stack leaf steps
leaf_steps stack value_due = (stack_steps stack, refl)
leaf_steps stack (value_done t) = (advanced (stack_steps stack), refl)
leaf_steps stack (array_opened place) = (Index 0 ∷ stack_steps stack, refl)
leaf_steps stack (object_opened place) = (Index 0 ∷ stack_steps stack, record { inner = Index 0; are = refl })
leaf_steps stack (constant_on which place left) = (stack_steps stack, refl)
leaf_steps stack (number_on place so_far) = (stack_steps stack, refl)
leaf_steps stack (string_on place so_far state) = (stack_steps stack, refl)
leaf_steps stack (name_due place done) = (Index 0 ∷ stack_steps stack, record { inner = Index 0; are = refl })
leaf_steps stack (name_on place done np so_far state) = (Index 0 ∷ stack_steps stack, record { inner = Index 0; are = refl })
leaf_steps stack (colon_due place done np name ne) = (PathStep.Member (known_of name) ∷ stack_steps stack, refl)

steps_of_state : (state : Broken) → (steps : List PathStep) × TrailAt state steps
steps_of_state text_due = ([], refl)
steps_of_state mark_one = ([], refl)
steps_of_state mark_two = ([], refl)
steps_of_state (begun marked s) = leaf_steps s.stack s.leaf

pub same_path : (bytes more other : List ℕ) (T U : Text) → IsText T (bytes ++ more) → IsText U (bytes ++ other)
    → path_at (length bytes) T ≡ path_at (length bytes) U
same_path bytes more other T U h k = go (run bytes) refl (text_goes_on T bytes more h) (text_goes_on U bytes other k)
  where
    go : (o : Option Broken) → run bytes ≡ o → Goes (TextFrom T (length bytes) more) o → Goes (TextFrom U (length bytes) other) o
        → path_at (length bytes) T ≡ path_at (length bytes) U
    go None e a b = absurd a
    go (Some s) e a b =
        let r = reached bytes s e in
        let g = steps_of_state s in
        path_leads s r.mode r.levels T (length bytes) r.start more g.0 (whole_text T (bytes ++ more) h) r.kept r.timely g.1 a
        ∙ sym (path_leads s r.mode r.levels U (length bytes) r.start other g.0 (whole_text U (bytes ++ other) k) r.kept r.timely g.1 b)
