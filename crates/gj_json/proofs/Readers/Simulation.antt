-- What the reader keeps moves as the machine does.
use Rattle.gj_json.proofs.Common.{Array, Bool, Class, Close, CloseArray, CloseObject, Colon, Comma, Constant, ConstantOn, Ending, FitsBroken}
use Rattle.gj_json.proofs.Common.{FitsLeaf, FitsName, Go, LeafAs, Letter, Level, List, MarkOne, MarkTwo, Mode, Move, None, Null, NumberStart}
use Rattle.gj_json.proofs.Common.{NumberTurn, Object, Open, OpenArray, OpenObject, Option, Quote, Refuse, Some, StandsAs, StringStep, Tree}
use Rattle.gj_json.proofs.Common.{Turns, ValueDone, ValueDue, Words, after_move, after_value, ap, arith, begin_value, constant, constant_move}
use Rattle.gj_json.proofs.Common.{depth, drop, element, end_of_array, end_of_object, false, get_or, if◌then◌else◌, inner_of, length, letters_after}
use Rattle.gj_json.proofs.Common.{letters_of, levels_of, levels_with, mark_first, mark_second, mark_third, member, move_of, name_string_move}
use Rattle.gj_json.proofs.Common.{nat_tests, number_move, opened, outer_of, refl, step, step_array_opened, step_colon_due, step_constant, step_leaf}
use Rattle.gj_json.proofs.Common.{step_name, step_name_due, step_number, step_object_opened, step_string, step_value_due, string_ends, string_goes}
use Rattle.gj_json.proofs.Common.{string_move, string_next, string_refuses, suc, sym, to, true, turn_of, under_leaf, under_of, value_string_move}
use Rattle.gj_json.proofs.Common.{with_mark, ℕ, [], ◌++◌, ◌+◌, ◌<◌, ◌==◌, ◌∷◌, ◌≡◌, ◌≤◌}
use Rattle.std.proofs.Common.{eq-eqb, length-drop, drop-cons}
use Rattle.gj_json.specs.declared.class.Class.TheVariants.{White}
use Rattle.gj_json.specs.Tree.{number}
use Rattle.gj_json.specs.Internal.ByteClasses.{class_of}
use Rattle.gj_json.specs.Internal.TextMachine.{Frame, in_array, in_object, Member, Leaf, Partial, Broken, text_due, mark_one, mark_two, begun}
use Rattle.gj_json.specs.Internal.TextMachine.{value_due, value_done, array_opened, object_opened, constant_on, number_on, string_on, name_due, name_on}
use Rattle.gj_json.specs.Internal.TextMachine.{colon_due, begin_name}
use Rattle.gj_json.specs.Internal.Transitions.{begin_move, due_move, array_move, name_move, object_move, name_due_move, colon_move}
use Rattle.gj_json.specs.Internal.ReaderState.{PartialAs, Fits}
use Rattle.gj_number.specs.DecidedNumbers.{is_number, begins_number}
use Rattle.gj_json.proofs.Machine.Completions.{Goes}
use Rattle.gj_json.proofs.Grammar.OneCharacter.{OneCharacter, one_character}
use Rattle.gj_json.proofs.Machine.CompletableStates.{elements_joined, members_joined, levels_fit}

-- what the move says of the machine's step
abbrev pub Simulates : ℕ → List Level → Move → Option Partial → Type 0
Simulates d levels Refuse o = o ≡ None
Simulates d levels (Go mode ending) o = Goes (λ s. PartialAs s mode levels × FitsLeaf d s.stack s.leaf) o
Simulates d levels (Open level) o = Goes (λ s. PartialAs s (opened level) (level ∷ levels) × (length levels + 1 ≤ d → FitsLeaf d s.stack s.leaf)) o
Simulates d levels (Close level) o = Goes (λ s. PartialAs s ValueDone (outer_of levels) × FitsLeaf d s.stack s.leaf) o

pub levels_length : (stack : List Frame) → length (levels_of stack) ≡ length stack
levels_length [] = refl
levels_length (in_array place done ∷ stack) = ap suc (levels_length stack)
levels_length (in_object place done np name ne ∷ stack) = ap suc (levels_length stack)

constant_begun : (which : Constant) → (letters_after which ≡ drop 1 (letters_of which)) × (1 < length (letters_of which))
constant_begun Null = (refl, omega arith)
constant_begun other = (refl, omega arith)

on_begin : (d : ℕ) (stack : List Frame) (n b : ℕ) (c : Class) → Fits d stack → Simulates d (levels_of stack) (begin_move c) (begin_value stack n b c)
on_begin d stack n b OpenArray f = ((refl, refl), λ l. (omega (arith, levels_length stack), f))
on_begin d stack n b OpenObject f = ((refl, refl), λ l. (omega (arith, levels_length stack), f))
on_begin d stack n b Quote f = ((refl, refl), f)
on_begin d stack n b NumberStart f = ((refl, refl), f)
on_begin d stack n b (Letter which) f = (((1, refl, (constant_begun which).0, (constant_begun which).1), refl), f)
on_begin d stack n b other f = refl

on_after : (d : ℕ) (stack : List Frame) (t : Tree) (n : ℕ) (c : Class) → (depth t + length stack ≤ d) × Fits d stack
    → Simulates d (levels_of stack) (after_move (inner_of (levels_of stack)) c) (after_value stack t n c)
on_after d [] t n White f = ((refl, refl), f)
on_after d (in_array place done ∷ stack) t n White f = ((refl, refl), f)
on_after d (in_array place done ∷ stack) t n Comma f = ((refl, refl), (f.1.0, (omega (arith, f.0), f.1.1), f.1.2))
on_after d (in_array place done ∷ stack) t n CloseArray f =
    let g = elements_joined d (length stack + 1) done (element t end_of_array) f.1.1 (omega (arith, f.0, f.1.0)) in
    ((refl, refl), (omega (arith, g), f.1.2))
on_after d (in_object place done np name ne ∷ stack) t n White f = ((refl, refl), f)
on_after d (in_object place done np name ne ∷ stack) t n Comma f = ((refl, refl), (f.1.0, (omega (arith, f.0), f.1.1), f.1.2))
on_after d (in_object place done np name ne ∷ stack) t n CloseObject f =
    let g = members_joined d (length stack + 1) done (member np name ne t end_of_object) f.1.1 (omega (arith, f.0, f.1.0)) in
    ((refl, refl), (omega (arith, g), f.1.2))
on_after d _ t n _ f = refl

on_value_due : (d : ℕ) (stack : List Frame) (n b : ℕ) (c : Class) → Fits d stack → Simulates d (levels_of stack) (due_move c) (step_value_due stack n b c)
on_value_due d stack n b White f = ((refl, refl), f)
on_value_due d stack n b c f = on_begin d stack n b c f

on_array_opened : (d : ℕ) (stack : List Frame) (place n b : ℕ) (c : Class) → (length stack + 1 ≤ d) × Fits d stack
    → Simulates d (Array ∷ levels_of stack) (array_move c) (step_array_opened stack place n b c)
on_array_opened d stack place n b White f = ((refl, refl), f)
on_array_opened d stack place n b CloseArray f = ((refl, refl), (omega (arith, f.0), f.1))
on_array_opened d stack place n b c f = on_begin d (in_array place [] ∷ stack) n b c (f.0, tt, f.1)

on_name : (d : ℕ) (stack : List Frame) (place : ℕ) (done : List Member) (n : ℕ) (c : Class) → FitsName d stack done
    → Simulates d (Object ∷ levels_of stack) (name_move c) (begin_name stack place done n c)
on_name d stack place done n Quote f = ((refl, refl), f)
on_name d stack place done n _ f = refl

on_object_opened : (d : ℕ) (stack : List Frame) (place n b : ℕ) (c : Class) → (length stack + 1 ≤ d) × Fits d stack
    → Simulates d (Object ∷ levels_of stack) (object_move c) (step_object_opened stack place n c)
on_object_opened d stack place n b White f = ((refl, refl), f)
on_object_opened d stack place n b CloseObject f = ((refl, refl), (omega (arith, f.0), f.1))
on_object_opened d stack place n b c f = on_name d stack place [] n c (f.0, tt, f.1)

on_name_due : (d : ℕ) (stack : List Frame) (place : ℕ) (done : List Member) (n : ℕ) (c : Class) → FitsName d stack done
    → Simulates d (Object ∷ levels_of stack) (name_due_move c) (step_name_due stack place done n c)
on_name_due d stack place done n White f = ((refl, refl), f)
on_name_due d stack place done n c f = on_name d stack place done n c f

on_colon_due : (d : ℕ) (stack : List Frame) (place : ℕ) (done : List Member) (np : ℕ) (name : List ℕ) (ne n : ℕ) (c : Class) → FitsName d stack done
    → Simulates d (Object ∷ levels_of stack) (colon_move c) (step_colon_due stack place done np name ne c)
on_colon_due d stack place done np name ne n White f = ((refl, refl), f)
on_colon_due d stack place done np name ne n Colon f = ((refl, refl), f)
on_colon_due d stack place done np name ne n _ f = refl

on_string : (words : Words) (d : ℕ) (stack : List Frame) (place : ℕ) (so_far : List ℕ) (n : ℕ) (s : StringStep) → OneCharacter s → Fits d stack
    → Simulates d (levels_of stack) (value_string_move words (string_move s)) (step_string stack place so_far n s)
on_string words d stack place so_far n string_ends o f = ((refl, refl), (omega (arith, levels_fit d stack f), f))
on_string words d stack place so_far n (string_goes [] state) o f = ((refl, refl), f)
on_string words d stack place so_far n (string_goes (c ∷ []) state) o f = ((rw o refl, refl), f)
on_string words d stack place so_far n (string_goes (c ∷ e ∷ more) state) o f = absurd o
on_string words d stack place so_far n string_refuses o f = refl

on_name_string : (words : Words) (d : ℕ) (stack : List Frame) (place : ℕ) (done : List Member) (np : ℕ) (so_far : List ℕ) (n : ℕ) (s : StringStep)
    → OneCharacter s → FitsName d stack done
    → Simulates d (Object ∷ levels_of stack) (name_string_move words (string_move s)) (step_name stack place done np so_far n s)
on_name_string words d stack place done np so_far n string_ends o f = ((refl, refl), f)
on_name_string words d stack place done np so_far n (string_goes [] state) o f = ((refl, refl), f)
on_name_string words d stack place done np so_far n (string_goes (c ∷ []) state) o f = ((rw o refl, refl), f)
on_name_string words d stack place done np so_far n (string_goes (c ∷ e ∷ more) state) o f = absurd o
on_name_string words d stack place done np so_far n string_refuses o f = refl

on_number : (d : ℕ) (stack : List Frame) (place : ℕ) (so_far : List ℕ) (n b : ℕ) (c : Class) (goes may_end : Bool) → Fits d stack
    → Simulates d (levels_of stack) (number_move (turn_of goes may_end) (after_move (inner_of (levels_of stack)) c))
    (step_number stack place so_far b goes (if may_end then after_value stack (number place so_far n) n c else None))
on_number d stack place so_far n b c true may_end f = ((refl, refl), f)
on_number d stack place so_far n b c false true f = on_after d stack (number place so_far n) n c (omega (arith, levels_fit d stack f), f)
on_number d stack place so_far n b c false false f = refl

test_go : (d : ℕ) (stack : List Frame) (t : Bool) (mode : Mode) (ending : Ending) (leaf : Leaf) → LeafAs leaf mode
    → levels_with leaf (levels_of stack) ≡ levels_of stack → FitsLeaf d stack leaf
    → Simulates d (levels_of stack) (if t then Go mode ending else Refuse) (if t then to stack leaf else None)
test_go d stack true mode ending leaf a e f = ((a, sym e), f)
test_go d stack false mode ending leaf a e f = refl

on_constant : (d : ℕ) (stack : List Frame) (which : Constant) (place : ℕ) (left : List ℕ) (n b count : ℕ) → left ≡ drop count (letters_of which)
    → count < length (letters_of which) → Fits d stack
    → Simulates d (levels_of stack) (constant_move which count b) (step_constant stack which place left n b)
on_constant d stack which place [] n b count l c f = absurd (omega (arith, length-drop count (letters_of which), ap length l))
on_constant d stack which place (a ∷ []) n b count l c f =
    let k = drop-cons (letters_of which) count 0 c in
    let ea : a ≡ get_or (letters_of which) count 0 = cc in
    let er : [] ≡ drop (suc count) (letters_of which) = cc in
    let full : (count + 1 == length (letters_of which)) ≡ true = eq-eqb _ _ (omega (arith, length-drop (suc count) (letters_of which), ap length er)) in
    rw (full, ← ea) (test_go d stack (b == a) ValueDone (Ending.Literal which) (value_done (constant which place)) refl refl
    (omega (arith, levels_fit d stack f), f))
on_constant d stack which place (a ∷ x ∷ left) n b count l c f =
    let k = drop-cons (letters_of which) count 0 c in
    let ea : a ≡ get_or (letters_of which) count 0 = cc in
    let er : x ∷ left ≡ drop (suc count) (letters_of which) = cc in
    let more : count + 1 < length (letters_of which) = omega (arith, length-drop (suc count) (letters_of which), ap length er) in
    let s : suc count ≡ count + 1 = omega arith in
    let full : (count + 1 == length (letters_of which)) ≡ false = grind (arith, nat_tests) in
    rw (full, ← ea) (test_go d stack (b == a) (ConstantOn which (count + 1)) Ending.Nothing (constant_on which place (x ∷ left))
    (count + 1, refl, (rw (← s) er), more) refl f)

leaf_moves : (d : ℕ) (stack : List Frame) (leaf : Leaf) (mode : Mode) (turn : NumberTurn) (words : Words) (n b : ℕ) → LeafAs leaf mode
    → Turns (under_leaf leaf) b turn → FitsLeaf d stack leaf
    → Simulates d (levels_with leaf (levels_of stack)) (move_of mode turn (inner_of (levels_with leaf (levels_of stack))) words b) (step_leaf stack leaf n b)
leaf_moves d stack value_due mode turn words n b a w f = rw a (on_value_due d stack n b (class_of b) f)
leaf_moves d stack (value_done t) mode turn words n b a w f = rw a (on_after d stack t n (class_of b) f)
leaf_moves d stack (array_opened place) mode turn words n b a w f = rw a (on_array_opened d stack place n b (class_of b) f)
leaf_moves d stack (object_opened place) mode turn words n b a w f = rw a (on_object_opened d stack place n b (class_of b) f)
leaf_moves d stack (constant_on which place left) mode turn words n b a w f = rw (a.1) (on_constant d stack which place left n b a.0 a.2 a.3 f)
leaf_moves d stack (number_on place so_far) mode turn words n b a w f =
    rw (a, w) (on_number d stack place so_far n b (class_of b) (begins_number (so_far ++ b ∷ [])) (is_number so_far) f)
leaf_moves d stack (string_on place so_far state) mode turn words n b a w f =
    rw a (on_string words d stack place so_far n (string_next state b) (one_character state b) f)
leaf_moves d stack (name_due place done) mode turn words n b a w f = rw a (on_name_due d stack place done n (class_of b) f)
leaf_moves d stack (name_on place done np so_far state) mode turn words n b a w f =
    rw a (on_name_string words d stack place done np so_far n (string_next state b) (one_character state b) f)
leaf_moves d stack (colon_due place done np name ne) mode turn words n b a w f = rw a (on_colon_due d stack place done np name ne n (class_of b) f)

-- ---- a whole text

abbrev pub Follows : ℕ → List Level → Move → Option Broken → Type 0
Follows d levels Refuse o = o ≡ None
Follows d levels (Go mode ending) o = Goes (λ s. StandsAs s mode levels × FitsBroken d s) o
Follows d levels (Open level) o = Goes (λ s. StandsAs s (opened level) (level ∷ levels) × (length levels + 1 ≤ d → FitsBroken d s)) o
Follows d levels (Close level) o = Goes (λ s. StandsAs s ValueDone (outer_of levels) × FitsBroken d s) o

marked_follows : (d : ℕ) (levels : List Level) (move : Move) (marked : Bool) (o : Option Partial) → Simulates d levels move o
    → Follows d levels move (with_mark marked o)
marked_follows d levels Refuse marked o h = rw h refl
marked_follows d levels (Go mode ending) marked None h = h
marked_follows d levels (Go mode ending) marked (Some s) h = h
marked_follows d levels (Open level) marked None h = h
marked_follows d levels (Open level) marked (Some s) h = h
marked_follows d levels (Close level) marked None h = h
marked_follows d levels (Close level) marked (Some s) h = h

due_follows : (d n b : ℕ) (t : Bool)
    → Follows d [] (if t then Go MarkOne Ending.Nothing else due_move (class_of b))
    (if t then Some mark_one else with_mark false (step_value_due [] n b (class_of b)))
due_follows d n b true = ((refl, refl), tt)
due_follows d n b false = marked_follows d [] (due_move (class_of b)) false (step_value_due [] n b (class_of b)) (on_value_due d [] n b (class_of b) tt)

mark_follows : (d : ℕ) (s : Broken) (mode : Mode) (ending : Ending) (t : Bool) → StandsAs s mode [] → FitsBroken d s
    → Follows d [] (if t then Go mode ending else Refuse) (if t then Some s else None)
mark_follows d s mode ending true a f = (a, f)
mark_follows d s mode ending false a f = refl

pub moves : (d : ℕ) (s : Broken) (mode : Mode) (turn : NumberTurn) (words : Words) (levels : List Level) (n b : ℕ) → StandsAs s mode levels
    → Turns (under_of s) b turn → FitsBroken d s
    → Follows d levels (move_of mode turn (inner_of levels) words b) (step s n b)
moves d text_due mode turn words levels n b a t f = rw (a.0, a.1) (due_follows d n b (b == mark_first))
moves d mark_one mode turn words levels n b a t f = rw (a.0, a.1) (mark_follows d mark_two MarkTwo Ending.Nothing (b == mark_second) (refl, refl) tt)
moves d mark_two mode turn words levels n b a t f =
    rw (a.0, a.1) (mark_follows d (begun true (record { stack = []; leaf = value_due })) ValueDue Ending.Mark (b == mark_third) (refl, refl) tt)
moves d (begun marked s) mode turn words levels n b a t f =
    rw (a.1) (marked_follows d (levels_with s.leaf (levels_of s.stack)) (move_of mode turn (inner_of (levels_with s.leaf (levels_of s.stack))) words b) marked
    (step_leaf s.stack s.leaf n b) (leaf_moves d s.stack s.leaf mode turn words n b a.0 t f))
