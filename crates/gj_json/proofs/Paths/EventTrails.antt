-- The steps after the events that a state has seen.
use Rattle.gj_json.proofs.Common.{AllByRecursion, Bool, Elements, Event, False, FitsBroken, FitsLeaf, Flat, Index, List, Members, None, Null}
use Rattle.gj_json.proofs.Common.{Numbered, Option, PathStep, Some, Timed, TrailAt, Tree, True, advanced, ap, append_assoc, arith, array, constant}
use Rattle.gj_json.proofs.Common.{depth, done_elements, done_members, element, elements_depth, elements_events, end_of_array, end_of_object, events}
use Rattle.gj_json.proofs.Common.{false, flat_events, leaf_timed, length, map-append, mark_events, member, members_events, object, option_to_list}
use Rattle.gj_json.proofs.Common.{partial_timed, refl, seen, stack_timed, string, subst, suc, sym, timed, true, ℕ, [], ◌++◌, ◌+◌, ◌<◌, ◌^◌, ◌∙◌, ◌∷◌}
use Rattle.gj_json.proofs.Common.{◌≡◌, ◌≤◌}
use Rattle.std.proofs.lemmas.List.{append-nil, length-append}
use Rattle.gj_json.specs.declared.event.What.TheVariants as What
use Rattle.gj_json.specs.Flat.{numbers_events}
use Rattle.gj_json.specs.declared.limits.TheConstants.{MOST_LEVELS}
use Rattle.gj_json.specs.Tree.{number}
use Rattle.gj_json.specs.Tree.{members_depth}
use Rattle.gj_json.specs.Names.{known_of}
use Rattle.gj_json.specs.Internal.PathTrail.{IsSmall, followed, HasRoom, Follows, stack_steps, LeafTrail}
use Rattle.gj_json.specs.Internal.TextMachine.{Frame, in_array, in_object, Member, Leaf, value_due, value_done, array_opened, object_opened, constant_on}
use Rattle.gj_json.specs.Internal.TextMachine.{number_on, string_on, name_due, name_on, colon_due, Broken, text_due, mark_one, mark_two, begun}
use Rattle.gj_json.specs.Internal.ReaderState.{Fits}
use Rattle.gj_json.proofs.Events.EventTimes.{told}

pub follows_on : (p q : List PathStep) (more : List Event) → ((t : List PathStep) → p ≡ t → Follows q more t) → (es : List Event) (s : List PathStep)
    → Follows p es s → Follows q (es ++ more) s
follows_on p q more f [] s h = f s h
follows_on p q more f (e ∷ es) s h = λ room. follows_on p q more f es (followed e.what s) (h room)

pub follows_flat : (p q : List PathStep) (flat : Flat) → (IsSmall (advanced p) → q ≡ advanced p) → (t : List PathStep) → p ≡ t → Follows q (flat_events flat) t
follows_flat p q flat f t e = go flat.third
  where
    g : IsSmall (advanced t) → q ≡ advanced t
    g = let P : List PathStep → Type 0 = λ s. IsSmall (advanced s) → q ≡ advanced s in subst P e f

    go : (third : Option Numbered) → Follows q (numbers_events flat.place (flat.first ∷ flat.second ∷ option_to_list third) flat.close) t
    go None = λ a b c d. g d
    go (Some third) = λ a b c d l. g l

-- ---- events that lead from some steps to others

abbrev Passes : List Timed → List PathStep → List PathStep → Type 0
Passes xs s t = (p : List PathStep) (more : List Event) → Follows p (told xs ++ more) s → Follows p more t

passes_none : (s : List PathStep) → Passes [] s s
passes_none s p more h = h

passes_cons : (x : Timed) (xs : List Timed) (s t : List PathStep) → HasRoom x.event.what s → Passes xs (followed x.event.what s) t → Passes (x ∷ xs) s t
passes_cons x xs s t room f p more h = f p more (h room)

passes_both : (xs ys : List Timed) (s t u : List PathStep) → Passes xs s t → Passes ys t u → Passes (xs ++ ys) s u
passes_both xs ys s t u f g p more h =
    let e : told (xs ++ ys) ++ more ≡ told xs ++ (told ys ++ more) =
    ap (λ es. es ++ more) (map-append (λ (x : Timed). x.event) xs ys) ∙ append_assoc (told xs) (told ys) more in
    let P : List Event → Type 0 = λ es. Follows p es s in
    g p more (f p (told ys ++ more) (subst P e h))

-- ---- a value

events_some : (t : Tree) → 1 ≤ length (events t)
events_some (constant which place) = omega arith
events_some other = omega arith

mutual
  value_passes : (t : Tree) (steps : List PathStep) → depth t + length steps ≤ MOST_LEVELS → length (events t) < 2 ^ 63 → IsSmall (advanced steps)
      → Passes (events t) steps (advanced steps)
  value_passes (constant Null place) steps d c s = λ p more h. h s
  value_passes (constant True place) steps d c s = λ p more h. h s
  value_passes (constant False place) steps d c s = λ p more h. h s
  value_passes (number place literal end) steps d c s = λ p more h. h s
  value_passes (string place content end) steps d c s = λ p more h. h s
  value_passes (array place elements close) steps d c s =
      let last = timed (close + 1) close What.CloseArray in
      let l = length-append (elements_events elements) (last ∷ []) in
      let g = elements_pass elements 0 steps (omega (arith, d)) (omega (arith, c, l)) in
      passes_cons (timed (place + 1) place What.OpenArray) (elements_events elements ++ last ∷ []) steps (advanced steps) (omega (arith, d))
      (passes_both (elements_events elements) (last ∷ []) (Index 0 ∷ steps) (Index g.0 ∷ steps) (advanced steps) g.1
      (passes_cons last [] (Index g.0 ∷ steps) (advanced steps) s (passes_none (advanced steps))))
  value_passes (object place members close) steps d c s =
      let last = timed (close + 1) close What.CloseObject in
      let l = length-append (members_events members) (last ∷ []) in
      let g = members_pass members (Index 0) steps (omega (arith, d)) (omega (arith, c, l)) in
      passes_cons (timed (place + 1) place What.OpenObject) (members_events members ++ last ∷ []) steps (advanced steps) (omega (arith, d))
      (passes_both (members_events members) (last ∷ []) (Index 0 ∷ steps) (g.0 ∷ steps) (advanced steps) g.1
      (passes_cons last [] (g.0 ∷ steps) (advanced steps) s (passes_none (advanced steps))))

  elements_pass : (elements : Elements) (i : ℕ) (steps : List PathStep) → elements_depth elements + (length steps + 1) ≤ MOST_LEVELS
      → i + length (elements_events elements) < 2 ^ 63 → (j : ℕ) × Passes (elements_events elements) (Index i ∷ steps) (Index j ∷ steps)
  elements_pass end_of_array i steps d c = (i, passes_none (Index i ∷ steps))
  elements_pass (element v more) i steps d c =
      let l = length-append (events v) (elements_events more) in
      let o = events_some v in
      let f = value_passes v (Index i ∷ steps) (omega (arith, d)) (omega (arith, c, l)) (omega (arith, c, l, o)) in
      let g = elements_pass more (i + 1) steps (omega (arith, d)) (omega (arith, c, l, o)) in
      (g.0, passes_both (events v) (elements_events more) (Index i ∷ steps) (Index (i + 1) ∷ steps) (Index g.0 ∷ steps) f g.1)

  members_pass : (members : Members) (x : PathStep) (steps : List PathStep) → members_depth members + (length steps + 1) ≤ MOST_LEVELS
      → length (members_events members) < 2 ^ 63 → (y : PathStep) × Passes (members_events members) (x ∷ steps) (y ∷ steps)
  members_pass end_of_object x steps d c = (x, passes_none (x ∷ steps))
  members_pass (member place name end v more) x steps d c =
      let l = length-append (events v) (members_events more) in
      let k : PathStep = PathStep.Member (known_of name) in
      let f = value_passes v (k ∷ steps) (omega (arith, d)) (omega (arith, c, l)) tt in
      let g = members_pass more k steps (omega (arith, d)) (omega (arith, c, l)) in (
        g.0,
        passes_cons (timed end place (What.Name (known_of name))) (events v ++ members_events more) (x ∷ steps) (g.0 ∷ steps) tt
            (passes_both (events v) (members_events more) (k ∷ steps) (k ∷ steps) (g.0 ∷ steps) f g.1),
      )

-- ---- what has ended in a container that is open

done_many : (done : List Tree) → length done ≤ length (done_elements done)
done_many [] = omega arith
done_many (t ∷ done) = omega (arith, done_many done, events_some t, length-append (done_elements done) (events t))

done_pass : (d n : ℕ) (done : List Tree) (steps : List PathStep) → length steps ≡ n → d ≤ MOST_LEVELS → AllByRecursion (λ t. depth t + (n + 1) ≤ d) done
    → length (done_elements done) < 2 ^ 63 → Passes (done_elements done) (Index 0 ∷ steps) (Index (length done) ∷ steps)
done_pass d n [] steps e m h c = passes_none (Index 0 ∷ steps)
done_pass d n (t ∷ done) steps e m h c =
    let l = length-append (done_elements done) (events t) in
    let k : length done + 1 ≡ length (t ∷ done) = omega arith in
    let P : ℕ → Type 0 = λ i. Passes (done_elements (t ∷ done)) (Index 0 ∷ steps) (Index i ∷ steps) in
    let f = done_pass d n done steps e m h.1 (omega (arith, c, l)) in
    let g = value_passes t (Index (length done) ∷ steps) (omega (arith, h.0)) (omega (arith, c, l)) (omega (arith, c, l, done_many done)) in
    subst P k (passes_both (done_elements done) (events t) (Index 0 ∷ steps) (Index (length done) ∷ steps) (Index (length done + 1) ∷ steps) f g)

done_members_pass : (d n : ℕ) (done : List Member) (steps : List PathStep) → length steps ≡ n → d ≤ MOST_LEVELS
    → AllByRecursion (λ m. depth m.value + (n + 1) ≤ d) done → length (done_members done) < 2 ^ 63 → (y : PathStep)
    × Passes (done_members done) (Index 0 ∷ steps) (y ∷ steps)
done_members_pass d n [] steps e m h c = (Index 0, passes_none (Index 0 ∷ steps))
done_members_pass d n (t ∷ done) steps e m h c =
    let named = timed t.end t.place (What.Name (known_of t.name)) in
    let l = length-append (done_members done) (named ∷ events t.value) in
    let k : PathStep = PathStep.Member (known_of t.name) in
    let f = done_members_pass d n done steps e m h.1 (omega (arith, c, l)) in
    let g = value_passes t.value (k ∷ steps) (omega (arith, h.0)) (omega (arith, c, l)) tt in (
      k,
      passes_both (done_members done) (named ∷ events t.value) (Index 0 ∷ steps) (f.0 ∷ steps) (k ∷ steps) f.1
          (passes_cons named (events t.value) (f.0 ∷ steps) (k ∷ steps) tt g),
    )

-- ---- the containers that are open

steps_long : (stack : List Frame) → length (stack_steps stack) ≡ length stack
steps_long [] = refl
steps_long (in_array place done ∷ stack) = ap suc (steps_long stack)
steps_long (in_object place done np name ne ∷ stack) = ap suc (steps_long stack)

opened_pass : (d : ℕ) (stack : List Frame) (place : ℕ) (done : List Member) → length stack + 1 ≤ d → d ≤ MOST_LEVELS
    → AllByRecursion (λ m. depth m.value + (length stack + 1) ≤ d) done → length (done_members done) < 2 ^ 63
    → (y : PathStep) × Passes (timed (place + 1) place What.OpenObject ∷ done_members done) (stack_steps stack) (y ∷ stack_steps stack)
opened_pass d stack place done o m h c =
    let g = done_members_pass d (length stack) done (stack_steps stack) (steps_long stack) m h c in (
      g.0,
      passes_cons (timed (place + 1) place What.OpenObject) (done_members done) (stack_steps stack) (g.0 ∷ stack_steps stack)
          (omega (arith, o, m, steps_long stack)) g.1,
    )

named_pass : (d : ℕ) (stack : List Frame) (place : ℕ) (done : List Member) (np : ℕ) (name : List ℕ) (ne : ℕ) → length stack + 1 ≤ d → d ≤ MOST_LEVELS
    → AllByRecursion (λ m. depth m.value + (length stack + 1) ≤ d) done → length (done_members done) < 2 ^ 63
    → Passes (timed (place + 1) place What.OpenObject ∷ (done_members done ++ timed ne np (What.Name (known_of name)) ∷ [])) (stack_steps stack)
    (PathStep.Member (known_of name) ∷ stack_steps stack)
named_pass d stack place done np name ne o m h c =
    let g = opened_pass d stack place done o m h c in
    let named = timed ne np (What.Name (known_of name)) in
    let k : PathStep = PathStep.Member (known_of name) in
    passes_both (timed (place + 1) place What.OpenObject ∷ done_members done) (named ∷ []) (stack_steps stack) (g.0 ∷ stack_steps stack)
    (k ∷ stack_steps stack) g.1 (passes_cons named [] (g.0 ∷ stack_steps stack) (k ∷ stack_steps stack) tt (passes_none (k ∷ stack_steps stack)))

stack_pass : (d : ℕ) (stack : List Frame) → Fits d stack → d ≤ MOST_LEVELS → length (stack_timed stack) < 2 ^ 63
    → Passes (stack_timed stack) [] (stack_steps stack)
stack_pass d [] f m c = passes_none []
stack_pass d (in_array place done ∷ stack) f m c =
    let opening = timed (place + 1) place What.OpenArray in
    let l = length-append (stack_timed stack) (opening ∷ done_elements done) in
    let g = done_pass d (length stack) done (stack_steps stack) (steps_long stack) m f.1 (omega (arith, c, l)) in
    passes_both (stack_timed stack) (opening ∷ done_elements done) [] (stack_steps stack) (Index (length done) ∷ stack_steps stack)
    (stack_pass d stack f.2 m (omega (arith, c, l)))
    (passes_cons opening (done_elements done) (stack_steps stack) (Index (length done) ∷ stack_steps stack) (omega (arith, f.0, m, steps_long stack)) g)
stack_pass d (in_object place done np name ne ∷ stack) f m c =
    let named = timed ne np (What.Name (known_of name)) in
    let inner = timed (place + 1) place What.OpenObject ∷ (done_members done ++ named ∷ []) in
    let l = length-append (stack_timed stack) inner in
    let k = length-append (done_members done) (named ∷ []) in
    passes_both (stack_timed stack) inner [] (stack_steps stack) (PathStep.Member (known_of name) ∷ stack_steps stack)
    (stack_pass d stack f.2 m (omega (arith, c, l)))
    (named_pass d stack place done np name ne f.0 m f.1 (omega (arith, c, l, k)))

stack_small : (stack : List Frame) → length (stack_timed stack) < 2 ^ 63 → IsSmall (advanced (stack_steps stack))
stack_small [] c = tt
stack_small (in_array place done ∷ stack) c =
    omega (arith, c, done_many done, length-append (stack_timed stack) (timed (place + 1) place What.OpenArray ∷ done_elements done))
stack_small (in_object place done np name ne ∷ stack) c = tt

-- ---- each leaf

abbrev LeafPass : List Frame → Leaf → Type 0
LeafPass stack leaf = (steps : List PathStep) × LeafTrail stack leaf steps × Passes (leaf_timed leaf) (stack_steps stack) steps

leaf_none : (stack : List Frame) → Passes [] (stack_steps stack) (stack_steps stack)
leaf_none stack = passes_none (stack_steps stack)

leaf_pass : (d : ℕ) (stack : List Frame) (leaf : Leaf) → FitsLeaf d stack leaf → d ≤ MOST_LEVELS
    → length (stack_timed stack) + length (leaf_timed leaf) < 2 ^ 63 → LeafPass stack leaf
leaf_pass d stack value_due f m c = (stack_steps stack, refl, leaf_none stack)
leaf_pass d stack (value_done t) f m c = (
  advanced (stack_steps stack),
  refl,
  value_passes t (stack_steps stack) (omega (arith, f.0, m, steps_long stack)) (omega (arith, c))
      (stack_small stack (omega (arith, c))),
)
leaf_pass d stack (array_opened place) f m c = (
  Index 0 ∷ stack_steps stack,
  refl,
  passes_cons (timed (place + 1) place What.OpenArray) [] (stack_steps stack) (Index 0 ∷ stack_steps stack)
      (omega (arith, f.0, m, steps_long stack)) (passes_none (Index 0 ∷ stack_steps stack)),
)
leaf_pass d stack (object_opened place) f m c = (
  Index 0 ∷ stack_steps stack,
  record { inner = Index 0; are = refl },
  passes_cons (timed (place + 1) place What.OpenObject) [] (stack_steps stack)
      (Index 0 ∷ stack_steps stack) (omega (arith, f.0, m, steps_long stack)) (passes_none (Index 0 ∷ stack_steps stack)),
)
leaf_pass d stack (constant_on which place left) f m c = (stack_steps stack, refl, leaf_none stack)
leaf_pass d stack (number_on place so_far) f m c = (stack_steps stack, refl, leaf_none stack)
leaf_pass d stack (string_on place so_far state) f m c = (stack_steps stack, refl, leaf_none stack)
leaf_pass d stack (name_due place done) f m c = let g =
    opened_pass d stack place done f.0 m f.1 (omega (arith, c)) in (g.0 ∷ stack_steps stack, record { inner = g.0; are = refl }, g.1)
leaf_pass d stack (name_on place done np so_far state) f m c = let g =
    opened_pass d stack place done f.0 m f.1 (omega (arith, c)) in (g.0 ∷ stack_steps stack, record { inner = g.0; are = refl }, g.1)
leaf_pass d stack (colon_due place done np name ne) f m c =
    let k = length-append (done_members done) (timed ne np (What.Name (known_of name)) ∷ []) in
    (PathStep.Member (known_of name) ∷ stack_steps stack, refl, named_pass d stack place done np name ne f.0 m f.1 (omega (arith, c, k)))

-- ---- a whole text

mark_pass : (marked : Bool) → Passes (mark_events marked) [] []
mark_pass true = λ p more h. h tt
mark_pass false = passes_none []

-- steps that follow the events that a state has seen are the steps of the state
pub seen_trail : (state : Broken) (d : ℕ) (p : List PathStep) → FitsBroken d state → d ≤ MOST_LEVELS → length (seen state) < 2 ^ 63
    → Follows p (told (seen state)) [] → TrailAt state p
seen_trail text_due d p f m c h = h
seen_trail mark_one d p f m c h = h
seen_trail mark_two d p f m c h = h
seen_trail (begun marked s) d p f m c h =
    let l = length-append (mark_events marked) (partial_timed s) in
    let k = length-append (stack_timed s.stack) (leaf_timed s.leaf) in
    let fits : Fits d s.stack = leaf_stack d s.stack s.leaf f in
    let g = leaf_pass d s.stack s.leaf f m (omega (arith, c, l, k)) in
    let both = passes_both (stack_timed s.stack) (leaf_timed s.leaf) [] (stack_steps s.stack) g.0 (stack_pass d s.stack fits m (omega (arith, c, l, k))) g.2 in
    let all = passes_both (mark_events marked) (partial_timed s) [] [] g.0 (mark_pass marked) both in
    let e : p ≡ g.0 = all p [] (rw append-nil h) in
    let P : List PathStep → Type 0 = λ xs. LeafTrail s.stack s.leaf xs in
    subst P (sym e) g.1
  where
    leaf_stack : (d : ℕ) (stack : List Frame) (leaf : Leaf) → FitsLeaf d stack leaf → Fits d stack
    leaf_stack d stack value_due f = f
    leaf_stack d stack (value_done t) f = f.1
    leaf_stack d stack (array_opened place) f = f.1
    leaf_stack d stack (object_opened place) f = f.1
    leaf_stack d stack (constant_on which place left) f = f
    leaf_stack d stack (number_on place so_far) f = f
    leaf_stack d stack (string_on place so_far state) f = f
    leaf_stack d stack other f = f.2
