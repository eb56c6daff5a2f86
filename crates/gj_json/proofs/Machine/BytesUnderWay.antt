-- Which number or string is under way after a byte.
use Rattle.gj_json.proofs.Common.{BeginsNumber, Bool, Class, CloseArray, CloseObject, ComesFrom, Comma, Constant, LeafAs, Letter, Level, List}
use Rattle.gj_json.proofs.Common.{Mode, None, NumberStart, OpenArray, OpenObject, Option, Quote, Some, StandsAs, StringState, StringStep, Tree}
use Rattle.gj_json.proofs.Common.{Under, after_value, begin_value, constant, false, if◌then◌else◌, in_number, mark_first, mark_second, mark_third}
use Rattle.gj_json.proofs.Common.{refl, run_from, step, step_array_opened, step_colon_due, step_constant, step_leaf, step_name, step_name_due}
use Rattle.gj_json.proofs.Common.{step_number, step_object_opened, step_string, step_value_due, string_ends, string_goes, string_next, string_refuses}
use Rattle.gj_json.proofs.Common.{subst, sym, text_state, to, true, under_leaf, under_of, with_mark, ℕ, [], ◌++◌, ◌+◌, ◌==◌, ◌∙◌, ◌∷◌, ◌≡◌}
use Rattle.gj_json.specs.declared.class.Class.TheVariants.{White}
use Rattle.gj_json.specs.Internal.ByteClasses.{class_of}
use Rattle.gj_json.specs.Internal.TextMachine.{Broken, text_due, mark_one, mark_two, begun, Frame, in_array, in_object, Member, Leaf}
use Rattle.gj_json.specs.Internal.TextMachine.{Partial, value_due, value_done, array_opened, object_opened, constant_on, number_on, string_on, name_due}
use Rattle.gj_json.specs.Internal.TextMachine.{name_on, colon_due}
use Rattle.gj_number.specs.DecidedNumbers.{is_number, begins_number}
use Rattle.gj_number.proofs.Grammar.DecidedNumbers.{begins}
use Rattle.gj_json.proofs.Grammar.ClassOfBytes.{number_starts}
use Rattle.gj_json.specs.Tree.{number as number_tree}
use Rattle.gj_json.specs.Internal.UnderWay.{nothing, number, text}

abbrev pub Came : Under → ℕ → Option Partial → Type 0
Came before b None = Unit {0}
Came before b (Some s) = ComesFrom before b (under_leaf s.leaf)

begin_came : (stack : List Frame) (n b : ℕ) (c : Class) → class_of b ≡ c → Came nothing b (begin_value stack n b c)
begin_came stack n b OpenArray e = tt
begin_came stack n b OpenObject e = tt
begin_came stack n b (Letter which) e = tt
begin_came stack n b Quote e = (refl, refl)
begin_came stack n b NumberStart e = (refl, number_starts b e)
begin_came stack n b other e = tt

due_came : (stack : List Frame) (n b : ℕ) (c : Class) → class_of b ≡ c → Came nothing b (step_value_due stack n b c)
due_came stack n b White e = tt
due_came stack n b c e = begin_came stack n b c e

array_came : (stack : List Frame) (place n b : ℕ) (c : Class) → class_of b ≡ c → Came nothing b (step_array_opened stack place n b c)
array_came stack place n b White e = tt
array_came stack place n b CloseArray e = tt
array_came stack place n b c e = begin_came (in_array place [] ∷ stack) n b c e

object_came : (stack : List Frame) (place n b : ℕ) (c : Class) → Came nothing b (step_object_opened stack place n c)
object_came stack place n b White = tt
object_came stack place n b CloseObject = tt
object_came stack place n b Quote = (refl, refl)
object_came stack place n b _ = tt

name_came : (stack : List Frame) (place : ℕ) (done : List Member) (n b : ℕ) (c : Class) → Came nothing b (step_name_due stack place done n c)
name_came stack place done n b White = tt
name_came stack place done n b Quote = (refl, refl)
name_came stack place done n b _ = tt

colon_came : (stack : List Frame) (place : ℕ) (done : List Member) (np : ℕ) (name : List ℕ) (ne n b : ℕ) (c : Class)
    → Came nothing b (step_colon_due stack place done np name ne c)
colon_came stack place done np name ne n b White = tt
colon_came stack place done np name ne n b other = tt

after_came : (before : Under) (b : ℕ) (stack : List Frame) (t : Tree) (n : ℕ) (c : Class) → Came before b (after_value stack t n c)
after_came before b [] t n White = tt
after_came before b (in_array place done ∷ stack) t n White = tt
after_came before b (in_array place done ∷ stack) t n Comma = tt
after_came before b (in_array place done ∷ stack) t n CloseArray = tt
after_came before b (in_object place done np name ne ∷ stack) t n White = tt
after_came before b (in_object place done np name ne ∷ stack) t n Comma = tt
after_came before b (in_object place done np name ne ∷ stack) t n CloseObject = tt
after_came before b _ t n _ = tt

word_came : (stack : List Frame) (which : Constant) (place : ℕ) (left : List ℕ) (n b : ℕ) → Came nothing b (step_constant stack which place left n b)
word_came stack which place [] n b = after_came nothing b stack (constant which place) n (class_of b)
word_came stack which place (a ∷ []) n b = go (b == a)
  where
    go : (t : Bool) → Came nothing b (if t then to stack (value_done (constant which place)) else None)
    go true = tt
    go false = tt
word_came stack which place (a ∷ c ∷ left) n b = go (b == a)
  where
    go : (t : Bool) → Came nothing b (if t then to stack (constant_on which place (c ∷ left)) else None)
    go true = tt
    go false = tt

number_came : (stack : List Frame) (place : ℕ) (so_far : List ℕ) (n b : ℕ) (c : Class) (goes may_end : Bool) → begins_number (so_far ++ b ∷ []) ≡ goes
    → Came (number so_far) b (step_number stack place so_far b goes (if may_end then after_value stack (number_tree place so_far n) n c else None))
number_came stack place so_far n b c true may_end e = (refl, (begins (so_far ++ b ∷ [])).0 e)
number_came stack place so_far n b c false true e = after_came (number so_far) b stack (number_tree place so_far n) n c
number_came stack place so_far n b c false false e = tt

string_came : (stack : List Frame) (place : ℕ) (so_far : List ℕ) (state : StringState) (n b : ℕ) (s : StringStep) → string_next state b ≡ s
    → Came (text so_far state) b (step_string stack place so_far n s)
string_came stack place so_far state n b string_ends e = tt
string_came stack place so_far state n b (string_goes more next) e = (more, refl, e)
string_came stack place so_far state n b string_refuses e = tt

name_string_came : (stack : List Frame) (place : ℕ) (done : List Member) (np : ℕ) (so_far : List ℕ) (state : StringState) (n b : ℕ) (s : StringStep)
    → string_next state b ≡ s → Came (text so_far state) b (step_name stack place done np so_far n s)
name_string_came stack place done np so_far state n b string_ends e = tt
name_string_came stack place done np so_far state n b (string_goes more next) e = (more, refl, e)
name_string_came stack place done np so_far state n b string_refuses e = tt

came : (stack : List Frame) (leaf : Leaf) (n b : ℕ) → Came (under_leaf leaf) b (step_leaf stack leaf n b)
came stack value_due n b = due_came stack n b (class_of b) refl
came stack (value_done t) n b = after_came nothing b stack t n (class_of b)
came stack (array_opened place) n b = array_came stack place n b (class_of b) refl
came stack (object_opened place) n b = object_came stack place n b (class_of b)
came stack (constant_on which place left) n b = word_came stack which place left n b
came stack (number_on place so_far) n b = number_came stack place so_far n b (class_of b) (begins_number (so_far ++ b ∷ [])) (is_number so_far) refl
came stack (string_on place so_far state) n b = string_came stack place so_far state n b (string_next state b) refl
came stack (name_due place done) n b = name_came stack place done n b (class_of b)
came stack (name_on place done np so_far state) n b = name_string_came stack place done np so_far state n b (string_next state b) refl
came stack (colon_due place done np name ne) n b = colon_came stack place done np name ne n b (class_of b)

-- ---- a whole text

abbrev pub CameTo : Under → ℕ → Option Broken → Type 0
CameTo before b None = Unit {0}
CameTo before b (Some s) = ComesFrom before b (under_of s)

marked_came : (before : Under) (b : ℕ) (marked : Bool) (o : Option Partial) → Came before b o → CameTo before b (with_mark marked o)
marked_came before b marked None h = tt
marked_came before b marked (Some s) h = h

pub step_came : (s : Broken) (n b : ℕ) → CameTo (under_of s) b (step s n b)
step_came text_due n b = go (b == mark_first)
  where
    go : (t : Bool) → CameTo nothing b (if t then Some mark_one else with_mark false (step_value_due [] n b (class_of b)))
    go true = tt
    go false = marked_came nothing b false (step_value_due [] n b (class_of b)) (due_came [] n b (class_of b) refl)
step_came mark_one n b = go (b == mark_second)
  where
    go : (t : Bool) → CameTo nothing b (if t then Some mark_two else None)
    go true = tt
    go false = tt
step_came mark_two n b = go (b == mark_third)
  where
    go : (t : Bool) → CameTo nothing b (if t then Some (begun true (record { stack = []; leaf = value_due })) else None)
    go true = tt
    go false = tt
step_came (begun marked s) n b = marked_came (under_leaf s.leaf) b marked (step_leaf s.stack s.leaf n b) (came s.stack s.leaf n b)

-- a byte that is refused ends the run
pub run_none : (bytes : List ℕ) (n : ℕ) → run_from None n bytes ≡ None
run_none [] n = refl
run_none (b ∷ bytes) n = refl

-- ---- a number under way is the first bytes of one

abbrev pub IsBegun : Under → Type 0
IsBegun (number so_far) = BeginsNumber so_far
IsBegun _ = Unit {0}

came_begun : (before : Under) (b : ℕ) (u : Under) → ComesFrom before b u → IsBegun u
came_begun before b nothing h = tt
came_begun before b (text so_far state) h = tt
came_begun nothing b (number so_far) h = h.1
came_begun (number old) b (number so_far) h = h.1
came_begun (text old state) b (number so_far) h = absurd h

pub run_begun : (bytes : List ℕ) (s last : Broken) (n : ℕ) → IsBegun (under_of s) → run_from (Some s) n bytes ≡ Some last → IsBegun (under_of last)
run_begun [] s last n u e = let f : s ≡ last = cc in let P : Broken → Type 0 = λ x. IsBegun (under_of x) in subst P f u
run_begun (b ∷ bytes) s last n u e = go (λ next. run_begun bytes next last (n + 1)) (step s n b) (step_came s n b) e
  where
    go : ((next : Broken) → IsBegun (under_of next) → run_from (Some next) (n + 1) bytes ≡ Some last → IsBegun (under_of last)) → (o : Option Broken)
        → CameTo (under_of s) b o → run_from o (n + 1) bytes ≡ Some last → IsBegun (under_of last)
    go on None c f = let g = sym (run_none bytes (n + 1)) ∙ f in cc
    go on (Some next) c f = on next (came_begun (under_of s) b (under_of next) c) f

-- ---- the mode shows whether a number is under way, and which character of a string

abbrev pub has_number : Under → Bool
has_number (number so_far) = true
has_number _ = false

abbrev pub state_under : Under → Option StringState
state_under (text so_far state) = Some state
state_under _ = None

abbrev Shows : Mode → Under → Type 0
Shows mode u = (in_number mode ≡ has_number u) × (text_state mode ≡ state_under u)

leaf_shows : (leaf : Leaf) (mode : Mode) → LeafAs leaf mode → Shows mode (under_leaf leaf)
leaf_shows (constant_on which place left) mode a = rw (a.1) (refl, refl)
leaf_shows _ mode a = rw a (refl, refl)

shows : (s : Broken) (mode : Mode) (levels : List Level) → StandsAs s mode levels → Shows mode (under_of s)
shows (begun marked s) mode levels a = leaf_shows s.leaf mode a.0
shows _ mode levels a = rw (a.0) (refl, refl)

pub mode_under : (s : Broken) (mode : Mode) (levels : List Level) → StandsAs s mode levels → in_number mode ≡ has_number (under_of s)
mode_under s mode levels a = (shows s mode levels a).0

pub mode_state : (s : Broken) (mode : Mode) (levels : List Level) → StandsAs s mode levels → text_state mode ≡ state_under (under_of s)
mode_state s mode levels a = (shows s mode levels a).1
