-- Which state of the machine a reader stands for.
use Rattle.std.specs.Prelude.{◌≡◌, ℕ, ◌+◌, ◌≤◌, ◌<◌, List, [], ◌∷◌, ◌++◌, length, drop, Option, Some, None}
use Rattle.std.specs.List.{AllByRecursion}
use Rattle.gj_json.specs.declared.fault.JsonFault.{JsonFault}
use Rattle.gj_json.specs.declared.levels.Level.{Level}
use Rattle.gj_json.specs.declared.levels.Level.TheVariants.{Array, Object}
use Rattle.gj_json.specs.declared.mode.Mode.{Mode}
use Rattle.gj_json.specs.declared.mode.Mode.TheVariants.{ValueDue, ValueDone, ArrayOpened, ObjectOpened, ConstantOn, NumberOn, StringOn, NameDue, NameOn}
use Rattle.gj_json.specs.declared.mode.Mode.TheVariants.{ColonDue, TextDue, MarkOne, MarkTwo}
use Rattle.gj_json.specs.Limits.{Allowed}
use Rattle.gj_json.specs.Tree.{depth}
use Rattle.gj_json.specs.Grammar.{letters_of}
use Rattle.gj_json.specs.Internal.TextMachine.{Frame, in_array, in_object, Member, Leaf, Partial, value_due, value_done, array_opened, object_opened}
use Rattle.gj_json.specs.Internal.TextMachine.{constant_on, number_on, string_on, name_due, name_on, colon_due, Broken, text_due, mark_one, mark_two, begun}
use Rattle.gj_json.specs.Internal.TextMachine.{run}
use Rattle.gj_json.specs.Refusal.{IsRefusal, IsByByte}
use Rattle.gj_json.specs.Internal.SeenEvents.{IsTimely}
use Rattle.gj_json.specs.declared.content.Content.{Content}
use Rattle.gj_json.specs.Internal.UnderWay.{under_of, Keeps}
use Rattle.gj_number.specs.declared.literal.Literal.{Literal}

-- ---- what is open, within a limit of the depth

abbrev pub Fits : ℕ → List Frame → Type 0
Fits d [] = Unit {0}
Fits d (in_array place done ∷ stack) = (length stack + 1 ≤ d) × AllByRecursion (λ t. depth t + (length stack + 1) ≤ d) done × Fits d stack
Fits d (in_object place done np name ne ∷ stack) = (length stack + 1 ≤ d) × AllByRecursion (λ m. depth m.value + (length stack + 1) ≤ d) done × Fits d stack

abbrev pub FitsName : ℕ → List Frame → List Member → Type 0
FitsName d stack done = (length stack + 1 ≤ d) × AllByRecursion (λ m. depth m.value + (length stack + 1) ≤ d) done × Fits d stack

abbrev pub FitsLeaf : ℕ → List Frame → Leaf → Type 0
FitsLeaf d stack value_due = Fits d stack
FitsLeaf d stack (value_done t) = (depth t + length stack ≤ d) × Fits d stack
FitsLeaf d stack (array_opened place) = (length stack + 1 ≤ d) × Fits d stack
FitsLeaf d stack (object_opened place) = (length stack + 1 ≤ d) × Fits d stack
FitsLeaf d stack (constant_on which place left) = Fits d stack
FitsLeaf d stack (number_on place so_far) = Fits d stack
FitsLeaf d stack (string_on place so_far state) = Fits d stack
FitsLeaf d stack (name_due place done) = FitsName d stack done
FitsLeaf d stack (name_on place done np so_far state) = FitsName d stack done
FitsLeaf d stack (colon_due place done np name ne) = FitsName d stack done

abbrev pub FitsBroken : ℕ → Broken → Type 0
FitsBroken d (begun marked s) = FitsLeaf d s.stack s.leaf
FitsBroken d _ = Unit {0}

-- ---- what the reader keeps of a state

-- what is open around the leaf, the innermost first
abbrev pub levels_of : List Frame → List Level
levels_of [] = []
levels_of (in_array place done ∷ stack) = Array ∷ levels_of stack
levels_of (in_object place done np name ne ∷ stack) = Object ∷ levels_of stack

-- with the container that the leaf itself has open
abbrev pub levels_with : Leaf → List Level → List Level
levels_with (array_opened place) levels = Array ∷ levels
levels_with (object_opened place) levels = Object ∷ levels
levels_with (name_due place done) levels = Object ∷ levels
levels_with (name_on place done np so_far state) levels = Object ∷ levels
levels_with (colon_due place done np name ne) levels = Object ∷ levels
levels_with _ levels = levels

abbrev pub LeafAs : Leaf → Mode → Type 0
LeafAs value_due mode = mode ≡ ValueDue
LeafAs (value_done t) mode = mode ≡ ValueDone
LeafAs (array_opened place) mode = mode ≡ ArrayOpened
LeafAs (object_opened place) mode = mode ≡ ObjectOpened
LeafAs (constant_on which place left) mode =
    (count : ℕ) × (mode ≡ ConstantOn which count) × (left ≡ drop count (letters_of which)) × (count < length (letters_of which))
LeafAs (number_on place so_far) mode = mode ≡ NumberOn
LeafAs (string_on place so_far state) mode = mode ≡ StringOn state
LeafAs (name_due place done) mode = mode ≡ NameDue
LeafAs (name_on place done np so_far state) mode = mode ≡ NameOn state
LeafAs (colon_due place done np name ne) mode = mode ≡ ColonDue

abbrev pub PartialAs : Partial → Mode → List Level → Type 0
PartialAs s mode levels = LeafAs s.leaf mode × (levels ≡ levels_with s.leaf (levels_of s.stack))

abbrev pub StandsAs : Broken → Mode → List Level → Type 0
StandsAs text_due mode levels = (mode ≡ TextDue) × (levels ≡ [])
StandsAs mark_one mode levels = (mode ≡ MarkOne) × (levels ≡ [])
StandsAs mark_two mode levels = (mode ≡ MarkTwo) × (levels ≡ [])
StandsAs (begun marked s) mode levels = PartialAs s mode levels

-- the bytes that were taken, where none of them was refused
pub record StandsWell (limits : Allowed) (mode : Mode) (levels : List Level) (start offset : ℕ) (taken : List ℕ) : Type 0 where
  pub state : Broken
  pub runs : run taken ≡ Some state
  pub fits : FitsBroken limits.depth state
  pub kept : StandsAs state mode levels
  pub at : offset ≡ length taken
  pub within : offset ≤ limits.bytes
  pub timely : IsTimely state start offset

-- a byte was refused after those that were taken
pub record StandsRefused (limits : Allowed) (fault : JsonFault) (mode : Mode) (levels : List Level) (start offset : ℕ) (bytes : List ℕ) : Type 0 where
  pub by_byte : IsByByte fault.cause
  pub refusal : IsRefusal limits bytes fault
  pub place : fault.place ≡ offset
  pub taken : List ℕ
  pub rest : List ℕ
  pub split : bytes ≡ taken ++ rest
  pub well : StandsWell limits mode levels start offset taken

-- and what is kept of the number or the string under way
pub record StandsOpen (limits : Allowed) (mode : Mode) (levels : List Level) (literal : Literal) (content : Content) (start offset : ℕ)
    (bytes : List ℕ) : Type 0 where
  pub well : StandsWell limits mode levels start offset bytes
  pub keeps : Keeps (under_of well.state) literal content

abbrev pub Stands : Allowed → Option JsonFault → Mode → List Level → Literal → Content → ℕ → ℕ → List ℕ → Type 0
Stands limits None mode levels literal content start offset bytes = StandsOpen limits mode levels literal content start offset bytes
Stands limits (Some fault) mode levels literal content start offset bytes = StandsRefused limits fault mode levels start offset bytes
