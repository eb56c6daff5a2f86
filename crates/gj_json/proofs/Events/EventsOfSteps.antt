-- Which events a step of the machine completes.
use Rattle.gj_json.proofs.Common.{BegunAs, Bool, Class, CloseArray, CloseObject, Colon, Comma, Constant, ConstantAt, ConstantOn, EdgeAt, Ending}
use Rattle.gj_json.proofs.Common.{Event, Exact, Go, HasValue, HasWords, InTime, IsTimely, LeafAs, Letter, Level, List, MarkOne, MarkTwo, Mode}
use Rattle.gj_json.proofs.Common.{Move, None, Null, NumberOn, NumberStart, NumberTurn, OpenArray, OpenObject, Option, Quote, Refuse, Some}
use Rattle.gj_json.proofs.Common.{StandsAs, StringState, StringStep, Timed, Tree, Turns, ValueDone, ValueDue, What, Words, after_move}
use Rattle.gj_json.proofs.Common.{after_value, ap, append_assoc, arith, begin_value, constant, constant_move, done_elements, done_members, drop}
use Rattle.gj_json.proofs.Common.{element, emitted, end_of_array, end_of_object, event_at, events, false, get_or, if◌then◌else◌, inner_of, leaf_timed}
use Rattle.gj_json.proofs.Common.{length, letters_after, letters_of, levels_of, levels_with, mark_events, mark_first, mark_second, mark_third, member}
use Rattle.gj_json.proofs.Common.{move_of, name_string_move, nat_tests, number_events, number_move, option_to_list, partial_timed, refl, seen}
use Rattle.gj_json.proofs.Common.{stack_timed, start_after, step, step_array_opened, step_colon_due, step_constant, step_leaf, step_name}
use Rattle.gj_json.proofs.Common.{step_name_due, step_number, step_object_opened, step_string, step_value_due, string_ends, string_goes, string_move}
use Rattle.gj_json.proofs.Common.{string_next, string_refuses, subst, suc, sym, timed, to, true, turn_of, under_leaf, under_of, value_of}
use Rattle.gj_json.proofs.Common.{value_string_move, what_of, with_mark, words_of, ℕ, [], ◌++◌, ◌+◌, ◌<◌, ◌==◌, ◌∙◌, ◌∷◌, ◌≡◌, ◌≤◌}
use Rattle.std.proofs.Common.{eq-eqb, length-append, length-drop, drop-cons}
use Rattle.gj_json.specs.declared.class.Class.TheVariants.{White}
use Rattle.gj_number.specs.DecidedNumbers.{is_number, begins_number}
use Rattle.gj_json.specs.Tree.{number}
use Rattle.gj_json.specs.Names.{known_of}
use Rattle.gj_json.specs.Internal.ByteClasses.{class_of}
use Rattle.gj_json.specs.Internal.TextMachine.{Broken, text_due, mark_one, mark_two, begun, Frame, in_array, in_object, Member, Leaf, Partial}
use Rattle.gj_json.specs.Internal.TextMachine.{value_due, value_done, array_opened, object_opened, constant_on, number_on, string_on, name_due, name_on}
use Rattle.gj_json.specs.Internal.TextMachine.{colon_due}
use Rattle.gj_json.specs.Internal.Transitions.{begin_move, due_move, array_move, object_move, name_due_move, colon_move}
use Rattle.std.proofs.lemmas.List.{append-nil}
use Rattle.gj_json.specs.Internal.ToldEvents.{move_event}
use Rattle.gj_json.proofs.Events.EventTimes.{told, in_time-append, in_time_on}
use Rattle.gj_json.proofs.Events.PastEvents.{back_elements-events, back_members-events}

abbrev seen_at : List Frame → Leaf → List Timed
seen_at stack leaf = stack_timed stack ++ leaf_timed leaf

-- events that are complete at one length
abbrev pub all_at : ℕ → List Event → List Timed
all_at m [] = []
all_at m (e ∷ es) = record { at = m; event = e } ∷ all_at m es

-- the state after a byte has seen this, and then the events
abbrev pub Tell : List Timed → ℕ → List Event → Option Partial → Type 0
Tell before n es None = Unit {0}
Tell before n es (Some s) = (partial_timed s ≡ before ++ all_at (n + 1) es) × ConstantAt s.leaf (n + 1)

-- what a byte ends, opens or closes
abbrev made : Move → ℕ → ℕ → List Event
made move start n = option_to_list (move_event move start n)

word_at : (which : Constant) (n : ℕ) → (n + 1 + length (letters_after which) ≡ n + length (letters_of which)) × (0 < length (letters_after which))
word_at Null n = (omega arith, omega arith)
word_at other n = (omega arith, omega arith)

on_begin : (stack : List Frame) (before : List Timed) (start n b : ℕ) (c : Class) → before ≡ stack_timed stack
    → Tell before n (made (begin_move c) start n) (begin_value stack n b c)
on_begin stack before start n b OpenArray e = (ap (λ xs. xs ++ timed (n + 1) n What.OpenArray ∷ []) (sym e), tt)
on_begin stack before start n b OpenObject e = (ap (λ xs. xs ++ timed (n + 1) n What.OpenObject ∷ []) (sym e), tt)
on_begin stack before start n b (Letter which) e = (ap (λ xs. xs ++ []) (sym e), word_at which n)
on_begin stack before start n b Quote e = (ap (λ xs. xs ++ []) (sym e), tt)
on_begin stack before start n b NumberStart e = (ap (λ xs. xs ++ []) (sym e), tt)
on_begin stack before start n b other e = tt

on_value_due : (stack : List Frame) (start n b : ℕ) (c : Class) → Tell (seen_at stack value_due) n (made (due_move c) start n) (step_value_due stack n b c)
on_value_due stack start n b White = (sym (append-nil (stack_timed stack ++ [])), tt)
on_value_due stack start n b c = on_begin stack (seen_at stack value_due) start n b c (append-nil (stack_timed stack))

module _ (value : Option Exact) (words : Words) where
  on_array_opened : (stack : List Frame) (place start n b : ℕ) (c : Class)
      → Tell (seen_at stack (array_opened place)) n (made (array_move c) start n) (step_array_opened stack place n b c)
  on_array_opened stack place start n b White = (sym (append-nil (stack_timed stack ++ timed (place + 1) place What.OpenArray ∷ [])), tt)
  on_array_opened stack place start n b CloseArray =
      (sym (append_assoc (stack_timed stack) (timed (place + 1) place What.OpenArray ∷ []) (timed (n + 1) n What.CloseArray ∷ [])), tt)
  on_array_opened stack place start n b c = on_begin (in_array place [] ∷ stack) (seen_at stack (array_opened place)) start n b c refl

  on_object_opened : (stack : List Frame) (place start n b : ℕ) (c : Class)
      → Tell (seen_at stack (object_opened place)) n (made (object_move c) start n) (step_object_opened stack place n c)
  on_object_opened stack place start n b White = (sym (append-nil (stack_timed stack ++ timed (place + 1) place What.OpenObject ∷ [])), tt)
  on_object_opened stack place start n b CloseObject =
      (sym (append_assoc (stack_timed stack) (timed (place + 1) place What.OpenObject ∷ []) (timed (n + 1) n What.CloseObject ∷ [])), tt)
  on_object_opened stack place start n b Quote = (sym (append-nil (stack_timed stack ++ timed (place + 1) place What.OpenObject ∷ [])), tt)
  on_object_opened stack place start n b _ = tt

  on_name_due : (stack : List Frame) (place : ℕ) (done : List Member) (start n : ℕ) (c : Class)
      → Tell (seen_at stack (name_due place done)) n (made (name_due_move c) start n) (step_name_due stack place done n c)
  on_name_due stack place done start n White = (sym (append-nil (stack_timed stack ++ timed (place + 1) place What.OpenObject ∷ done_members done)), tt)
  on_name_due stack place done start n Quote = (sym (append-nil (stack_timed stack ++ timed (place + 1) place What.OpenObject ∷ done_members done)), tt)
  on_name_due stack place done start n _ = tt

  on_colon_due : (stack : List Frame) (place : ℕ) (done : List Member) (np : ℕ) (name : List ℕ) (ne start n : ℕ) (c : Class)
      → Tell (seen_at stack (colon_due place done np name ne)) n (made (colon_move c) start n) (step_colon_due stack place done np name ne c)
  on_colon_due stack place done np name ne start n White = (sym (append-nil (seen_at stack (colon_due place done np name ne))), tt)
  on_colon_due stack place done np name ne start n Colon = (refl, tt)
  on_colon_due stack place done np name ne start n _ = tt

  -- after a value of which all was seen
  closed_array : (S D E : List Timed) (X : List Timed) (o c : Timed) → X ≡ D ++ (E ++ []) → S ++ (o ∷ (X ++ c ∷ [])) ≡ ((S ++ (o ∷ D)) ++ E) ++ c ∷ []
  closed_array S D E X o c e = rw e (simp (append_assoc, append-nil))

  closed_object : (S D E : List Timed) (X : List Timed) (o p c : Timed) → X ≡ D ++ (p ∷ (E ++ []))
      → S ++ (o ∷ (X ++ c ∷ [])) ≡ ((S ++ (o ∷ (D ++ p ∷ []))) ++ E) ++ c ∷ []
  closed_object S D E X o p c e = rw e (simp (append_assoc, append-nil))

  on_after : (stack : List Frame) (t : Tree) (start n : ℕ) (c : Class)
      → Tell (seen_at stack (value_done t)) n (made (after_move (inner_of (levels_of stack)) c) start n) (after_value stack t n c)
  on_after [] t start n White = (sym (append-nil (events t)), tt)
  on_after (in_array place done ∷ stack) t start n White = (sym (append-nil (seen_at (in_array place done ∷ stack) (value_done t))), tt)
  on_after (in_array place done ∷ stack) t start n Comma = (simp (append_assoc, append-nil), tt)
  on_after (in_array place done ∷ stack) t start n CloseArray = (
    closed_array (stack_timed stack) (done_elements done) (events t) _ (timed (place + 1) place What.OpenArray) (timed (n + 1) n What.CloseArray)
        (back_elements-events done (element t end_of_array)),
    tt,
  )
  on_after (in_object place done np name ne ∷ stack) t start n White = (sym (append-nil (seen_at (in_object place done np name ne ∷ stack) (value_done t))), tt)
  on_after (in_object place done np name ne ∷ stack) t start n Comma = (simp (append_assoc, append-nil), tt)
  on_after (in_object place done np name ne ∷ stack) t start n CloseObject = (
    closed_object (stack_timed stack) (done_members done) (events t) _ (timed (place + 1) place What.OpenObject) (timed ne np (What.Name (known_of name)))
        (timed (n + 1) n What.CloseObject) (back_members-events done (member np name ne t end_of_object)),
    tt,
  )
  on_after _ t start n _ = tt

  -- a number is complete with the byte that follows it
  number_told : (stack : List Frame) (place : ℕ) (so_far : List ℕ) (n : ℕ) (es : List Event) (o : Option Partial)
      → Tell (seen_at stack (value_done (number place so_far n))) n es o
      → Tell (stack_timed stack ++ []) n (event_at place (What.Number (value_of so_far)) ∷ es) o
  number_told stack place so_far n es None h = tt
  number_told stack place so_far n es (Some s) h = (h.0 ∙ simp (append_assoc, append-nil), h.1)

  on_number : (stack : List Frame) (place : ℕ) (so_far : List ℕ) (n b : ℕ) (c : Class) (goes may_end : Bool)
      → (turn_of goes may_end ≡ NumberTurn.Ends → value ≡ value_of so_far)
      → Tell (stack_timed stack ++ []) n
      (emitted NumberOn (turn_of goes may_end) (number_move (turn_of goes may_end) (after_move (inner_of (levels_of stack)) c)) value place n)
      (step_number stack place so_far b goes (if may_end then after_value stack (number place so_far n) n c else None))
  on_number stack place so_far n b c true may_end v = (sym (append-nil (stack_timed stack ++ [])), tt)
  on_number stack place so_far n b c false true v =
      rw (v refl) (number_told stack place so_far n _ (after_value stack (number place so_far n) n c) (on_after stack (number place so_far n) place n c))
  on_number stack place so_far n b c false false v = tt

  on_string : (stack : List Frame) (place : ℕ) (so_far : List ℕ) (state : StringState) (n : ℕ) (s : StringStep) → words ≡ words_of so_far
      → Tell (stack_timed stack ++ []) n (made (value_string_move words (string_move s)) place n) (step_string stack place so_far n s)
  on_string stack place so_far state n string_ends x = rw x (simp append-nil, tt)
  on_string stack place so_far state n (string_goes [] next) x = (sym (append-nil (stack_timed stack ++ [])), tt)
  on_string stack place so_far state n (string_goes (c ∷ more) next) x = (sym (append-nil (stack_timed stack ++ [])), tt)
  on_string stack place so_far state n string_refuses x = tt

  on_name_string : (stack : List Frame) (place : ℕ) (done : List Member) (np : ℕ) (so_far : List ℕ) (state : StringState) (n : ℕ) (s : StringStep)
      → words ≡ words_of so_far
      → Tell (seen_at stack (name_on place done np so_far state)) n (made (name_string_move words (string_move s)) np n)
      (step_name stack place done np so_far n s)
  on_name_string stack place done np so_far state n string_ends x = rw x (simp append_assoc, tt)
  on_name_string stack place done np so_far state n (string_goes [] next) x = (sym (append-nil (seen_at stack (name_on place done np so_far state))), tt)
  on_name_string stack place done np so_far state n (string_goes (c ∷ more) next) x =
      (sym (append-nil (seen_at stack (name_on place done np so_far state))), tt)
  on_name_string stack place done np so_far state n string_refuses x = tt

  word_ended : (stack : List Frame) (which : Constant) (place count n : ℕ) → n + 1 ≡ place + length (letters_of which) → (t : Bool)
      → Tell (stack_timed stack ++ []) n (made (if t then Go ValueDone (Ending.Literal which) else Refuse) place n)
      (if t then to stack (value_done (constant which place)) else None)
  word_ended stack which place count n e true = (simp append-nil (ap (λ m. stack_timed stack ++ timed m place (what_of which) ∷ []) (sym e)), tt)
  word_ended stack which place count n e false = tt

  word_goes : (stack : List Frame) (which : Constant) (place count next n : ℕ) (left : List ℕ) → ConstantAt (constant_on which place left) (n + 1) → (t : Bool)
      → Tell (stack_timed stack ++ []) n (made (if t then Go (ConstantOn which next) Ending.Nothing else Refuse) place n)
      (if t then to stack (constant_on which place left) else None)
  word_goes stack which place count next n left w true = (sym (append-nil (stack_timed stack ++ [])), w)
  word_goes stack which place count next n left w false = tt

  on_constant : (stack : List Frame) (which : Constant) (place : ℕ) (left : List ℕ) (n b count : ℕ) → left ≡ drop count (letters_of which)
      → count < length (letters_of which) → ConstantAt (constant_on which place left) n
      → Tell (stack_timed stack ++ []) n (made (constant_move which count b) place n) (step_constant stack which place left n b)
  on_constant stack which place [] n b count l c w = absurd (omega (arith, w.1))
  on_constant stack which place (a ∷ []) n b count l c w =
      let k = drop-cons (letters_of which) count 0 c in
      let ea : a ≡ get_or (letters_of which) count 0 = cc in
      let er : [] ≡ drop (suc count) (letters_of which) = cc in
      let full : (count + 1 == length (letters_of which)) ≡ true = eq-eqb _ _ (omega (arith, length-drop (suc count) (letters_of which), ap length er)) in
      rw (full, ← ea) (word_ended stack which place count n (omega (arith, w.0)) (b == a))
  on_constant stack which place (a ∷ x ∷ left) n b count l c w =
      let k = drop-cons (letters_of which) count 0 c in
      let ea : a ≡ get_or (letters_of which) count 0 = cc in
      let er : x ∷ left ≡ drop (suc count) (letters_of which) = cc in
      let more : count + 1 < length (letters_of which) = omega (arith, length-drop (suc count) (letters_of which), ap length er) in
      let full : (count + 1 == length (letters_of which)) ≡ false = grind (arith, nat_tests) in
      rw (full, ← ea) (word_goes stack which place count (count + 1) n (x ∷ left) (omega (arith, w.0), omega arith) (b == a))

  -- ---- any leaf

  tells : (stack : List Frame) (leaf : Leaf) (mode : Mode) (turn : NumberTurn) (start n b : ℕ) → LeafAs leaf mode → Turns (under_leaf leaf) b turn
      → HasValue (under_leaf leaf) turn value → HasWords (under_leaf leaf) words → BegunAs leaf start → ConstantAt leaf n
      → Tell (seen_at stack leaf) n (emitted mode turn (move_of mode turn (inner_of (levels_with leaf (levels_of stack))) words b) value start n)
      (step_leaf stack leaf n b)
  tells stack value_due mode turn start n b a u v x g w = rw a (on_value_due stack start n b (class_of b))
  tells stack (value_done t) mode turn start n b a u v x g w = rw a (on_after stack t start n (class_of b))
  tells stack (array_opened place) mode turn start n b a u v x g w = rw a (on_array_opened stack place start n b (class_of b))
  tells stack (object_opened place) mode turn start n b a u v x g w = rw a (on_object_opened stack place start n b (class_of b))
  tells stack (constant_on which place left) mode turn start n b a u v x g w = rw (a.1, g) (on_constant stack which place left n b a.0 a.2 a.3 w)
  tells stack (number_on place so_far) mode turn start n b a u v x g w =
      rw (a, u, g) (on_number stack place so_far n b (class_of b) (begins_number (so_far ++ b ∷ [])) (is_number so_far) (λ e. v (u ∙ e)))
  tells stack (string_on place so_far state) mode turn start n b a u v x g w = rw (a, g) (on_string stack place so_far state n (string_next state b) x)
  tells stack (name_due place done) mode turn start n b a u v x g w = rw a (on_name_due stack place done start n (class_of b))
  tells stack (name_on place done np so_far state) mode turn start n b a u v x g w =
      rw (a, g) (on_name_string stack place done np so_far state n (string_next state b) x)
  tells stack (colon_due place done np name ne) mode turn start n b a u v x g w = rw a (on_colon_due stack place done np name ne start n (class_of b))

-- ---- where what is under way began

abbrev pub Began : ℕ → Option Partial → Type 0
Began start None = Unit {0}
Began start (Some s) = BegunAs s.leaf start

begin_began : (stack : List Frame) (n b : ℕ) (c : Class) → Began n (begin_value stack n b c)
begin_began stack n b OpenArray = tt
begin_began stack n b OpenObject = tt
begin_began stack n b (Letter which) = refl
begin_began stack n b Quote = refl
begin_began stack n b NumberStart = refl
begin_began stack n b other = tt

due_began : (stack : List Frame) (n b : ℕ) (c : Class) → Began n (step_value_due stack n b c)
due_began stack n b White = tt
due_began stack n b c = begin_began stack n b c

array_began : (stack : List Frame) (place n b : ℕ) (c : Class) → Began n (step_array_opened stack place n b c)
array_began stack place n b White = tt
array_began stack place n b CloseArray = tt
array_began stack place n b c = begin_began (in_array place [] ∷ stack) n b c

object_began : (stack : List Frame) (place n : ℕ) (c : Class) → Began n (step_object_opened stack place n c)
object_began stack place n White = tt
object_began stack place n CloseObject = tt
object_began stack place n Quote = refl
object_began stack place n _ = tt

name_began : (stack : List Frame) (place : ℕ) (done : List Member) (n : ℕ) (c : Class) → Began n (step_name_due stack place done n c)
name_began stack place done n White = tt
name_began stack place done n Quote = refl
name_began stack place done n _ = tt

colon_began : (stack : List Frame) (place : ℕ) (done : List Member) (np : ℕ) (name : List ℕ) (ne n : ℕ) (c : Class)
    → Began n (step_colon_due stack place done np name ne c)
colon_began stack place done np name ne n White = tt
colon_began stack place done np name ne n other = tt

after_began : (start : ℕ) (stack : List Frame) (t : Tree) (n : ℕ) (c : Class) → Began start (after_value stack t n c)
after_began start [] t n White = tt
after_began start (in_array place done ∷ stack) t n White = tt
after_began start (in_array place done ∷ stack) t n Comma = tt
after_began start (in_array place done ∷ stack) t n CloseArray = tt
after_began start (in_object place done np name ne ∷ stack) t n White = tt
after_began start (in_object place done np name ne ∷ stack) t n Comma = tt
after_began start (in_object place done np name ne ∷ stack) t n CloseObject = tt
after_began start _ t n _ = tt

word_began : (stack : List Frame) (which : Constant) (place : ℕ) (left : List ℕ) (n b : ℕ) → Began place (step_constant stack which place left n b)
word_began stack which place [] n b = after_began place stack (constant which place) n (class_of b)
word_began stack which place (a ∷ []) n b = go (b == a)
  where
    go : (t : Bool) → Began place (if t then to stack (value_done (constant which place)) else None)
    go true = tt
    go false = tt
word_began stack which place (a ∷ c ∷ left) n b = go (b == a)
  where
    go : (t : Bool) → Began place (if t then to stack (constant_on which place (c ∷ left)) else None)
    go true = refl
    go false = tt

number_began : (stack : List Frame) (place : ℕ) (so_far : List ℕ) (n b : ℕ) (c : Class) (goes may_end : Bool)
    → Began place (step_number stack place so_far b goes (if may_end then after_value stack (number place so_far n) n c else None))
number_began stack place so_far n b c true may_end = refl
number_began stack place so_far n b c false true = after_began place stack (number place so_far n) n c
number_began stack place so_far n b c false false = tt

text_began : (stack : List Frame) (place : ℕ) (so_far : List ℕ) (n : ℕ) (s : StringStep) → Began place (step_string stack place so_far n s)
text_began stack place so_far n string_ends = tt
text_began stack place so_far n (string_goes more next) = refl
text_began stack place so_far n string_refuses = tt

name_text_began : (stack : List Frame) (place : ℕ) (done : List Member) (np : ℕ) (so_far : List ℕ) (n : ℕ) (s : StringStep)
    → Began np (step_name stack place done np so_far n s)
name_text_began stack place done np so_far n string_ends = tt
name_text_began stack place done np so_far n (string_goes more next) = refl
name_text_began stack place done np so_far n string_refuses = tt

began : (stack : List Frame) (leaf : Leaf) (mode : Mode) (start n b : ℕ) → LeafAs leaf mode → BegunAs leaf start
    → Began (start_after mode start n) (step_leaf stack leaf n b)
began stack value_due mode start n b a g = rw a (due_began stack n b (class_of b))
began stack (value_done t) mode start n b a g = rw a (after_began n stack t n (class_of b))
began stack (array_opened place) mode start n b a g = rw a (array_began stack place n b (class_of b))
began stack (object_opened place) mode start n b a g = rw a (object_began stack place n (class_of b))
began stack (constant_on which place left) mode start n b a g = rw (a.1, g) (word_began stack which place left n b)
began stack (number_on place so_far) mode start n b a g =
    rw (a, g) (number_began stack place so_far n b (class_of b) (begins_number (so_far ++ b ∷ [])) (is_number so_far))
began stack (string_on place so_far state) mode start n b a g = rw (a, g) (text_began stack place so_far n (string_next state b))
began stack (name_due place done) mode start n b a g = rw a (name_began stack place done n (class_of b))
began stack (name_on place done np so_far state) mode start n b a g = rw (a, g) (name_text_began stack place done np so_far n (string_next state b))
began stack (colon_due place done np name ne) mode start n b a g = rw a (colon_began stack place done np name ne n (class_of b))

-- ---- a whole text

-- the state after a byte at n has seen this, and then the events, and what is under way began at `start`
abbrev pub Tells : List Timed → ℕ → ℕ → List Event → Option Broken → Type 0
Tells before start n es None = Unit {0}
Tells before start n es (Some s) = (seen s ≡ before ++ all_at (n + 1) es) × EdgeAt s start (n + 1)

marked_tells : (marked : Bool) (before : List Timed) (start n : ℕ) (es : List Event) (o : Option Partial) → Tell before n es o → Began start o
    → Tells (mark_events marked ++ before) start n es (with_mark marked o)
marked_tells marked before start n es None h g = tt
marked_tells marked before start n es (Some s) h g =
    (ap (λ xs. mark_events marked ++ xs) h.0 ∙ sym (append_assoc (mark_events marked) before (all_at (n + 1) es)), (g, h.1))

module _ (value : Option Exact) (words : Words) where
  due_tells : (start n b : ℕ) (t : Bool) → n ≡ 0
      → Tells [] n n (made (if t then Go MarkOne Ending.Nothing else due_move (class_of b)) start n)
      (if t then Some mark_one else with_mark false (step_value_due [] n b (class_of b)))
  due_tells start n b true e = (refl, omega arith)
  due_tells start n b false e =
      marked_tells false [] n n _ (step_value_due [] n b (class_of b)) (on_value_due [] start n b (class_of b)) (due_began [] n b (class_of b))

  one_tells : (start n : ℕ) (t : Bool) → n ≡ 1
      → Tells [] n n (made (if t then Go MarkTwo Ending.Nothing else Refuse) start n) (if t then Some mark_two else None)
  one_tells start n true e = (refl, omega arith)
  one_tells start n false e = tt

  two_tells : (start n : ℕ) (t : Bool) → n ≡ 2
      → Tells [] n n (made (if t then Go ValueDue Ending.Mark else Refuse) start n)
      (if t then Some (begun true (record { stack = []; leaf = value_due })) else None)
  two_tells start n true e = (ap (λ k. timed (k + 1) 0 What.Mark ∷ []) (sym e), (tt, tt))
  two_tells start n false e = tt

  -- what a byte reports, from what the reader keeps
  pub step_tells : (state : Broken) (mode : Mode) (turn : NumberTurn) (levels : List Level) (start n b : ℕ) → StandsAs state mode levels
      → Turns (under_of state) b turn → HasValue (under_of state) turn value → HasWords (under_of state) words → EdgeAt state start n
      → Tells (seen state) (start_after mode start n) n (emitted mode turn (move_of mode turn (inner_of levels) words b) value start n) (step state n b)
  step_tells text_due mode turn levels start n b a t v x e = rw (a.0) (due_tells start n b (b == mark_first) e)
  step_tells mark_one mode turn levels start n b a t v x e = rw (a.0) (one_tells start n (b == mark_second) e)
  step_tells mark_two mode turn levels start n b a t v x e = rw (a.0) (two_tells start n (b == mark_third) e)
  step_tells (begun marked s) mode turn levels start n b a t v x e =
      rw (a.1) (marked_tells marked (partial_timed s) (start_after mode start n) n _ (step_leaf s.stack s.leaf n b)
      (tells value words s.stack s.leaf mode turn start n b a.0 t v x e.0 e.1) (began s.stack s.leaf mode start n b a.0 e.0))

in_time-all_at : (m : ℕ) (es : List Event) → InTime m (all_at m es)
in_time-all_at m [] = tt
in_time-all_at m (e ∷ es) = (omega arith, in_time-all_at m es)

pub length-all_at : (m : ℕ) (es : List Event) → length (all_at m es) ≡ length es
length-all_at m [] = refl
length-all_at m (e ∷ es) = ap suc (length-all_at m es)

pub told-all_at : (m : ℕ) (es : List Event) → told (all_at m es) ≡ es
told-all_at m [] = refl
told-all_at m (e ∷ es) = ap (λ xs. e ∷ xs) (told-all_at m es)

-- and the state that it leads to
pub timely_on : (before : List Timed) (start n : ℕ) (es : List Event) (s : Broken) → InTime n before → Tells before start n es (Some s)
    → IsTimely s start (n + 1)
timely_on before start n es s i h =
    let P : List Timed → Type 0 = λ xs. InTime (n + 1) xs in
    record {
      seen_by = subst P (sym h.0)
          (in_time-append (n + 1) before (all_at (n + 1) es) (in_time_on n (n + 1) before (omega arith) i) (in_time-all_at (n + 1) es));
      edge = h.1;
    }

one_few : (o : Option Event) → length (option_to_list o) ≤ 1
one_few None = omega arith
one_few (Some e) = omega arith

-- a byte completes two events at the most
pub emitted_few : (mode : Mode) (turn : NumberTurn) (move : Move) (value : Option Exact) (start n : ℕ) → length (emitted mode turn move value start n) ≤ 2
emitted_few mode turn move value start n =
    omega (arith, numbers mode turn, one_few (move_event move start n), length-append (number_events mode turn value start) (made move start n))
  where
    numbers : (mode : Mode) (turn : NumberTurn) → length (number_events mode turn value start) ≤ 1
    numbers NumberOn NumberTurn.Ends = omega arith
    numbers other another = omega arith
