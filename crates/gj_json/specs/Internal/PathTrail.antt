-- The steps to the right edge of a text, the innermost first, and what an event does to them.
use Rattle.std.specs.Prelude.{◌≡◌, ℕ, zero, suc, ◌+◌, ◌==◌, ◌<◌, ◌^◌, ◌&&◌, Bool, true, false, List, [], ◌∷◌, length, get_or, Option, Some, None}
use Rattle.gj_json.specs.declared.event.Event.{Event}
use Rattle.gj_json.specs.declared.event.What.{What}
use Rattle.gj_json.specs.declared.path.PathStep.{PathStep}
use Rattle.gj_json.specs.declared.path.PathStep.TheVariants.{Index}
use Rattle.gj_json.specs.declared.path.Path.{Path}
use Rattle.gj_json.specs.declared.mode.Mode.{Mode}
use Rattle.gj_json.specs.declared.mode.Mode.TheVariants.{ConstantOn, NumberOn, StringOn}
use Rattle.gj_json.specs.declared.limits.TheConstants.{MOST_LEVELS}
use Rattle.gj_json.specs.Names.{known_of}
use Rattle.gj_json.specs.Internal.TextMachine.{Frame, in_array, in_object, Leaf, value_done, array_opened, object_opened, name_due, name_on, colon_due, Broken}
use Rattle.gj_json.specs.Internal.TextMachine.{begun}

-- ---- the steps of a path, the innermost first

abbrev pub steps_back : ℕ → List PathStep → List PathStep
steps_back zero steps = []
steps_back (suc n) steps = get_or steps n (Index 0) ∷ steps_back n steps

abbrev pub inner_steps : Path → List PathStep
inner_steps path = steps_back path.count path.steps

abbrev pub inner_step : List PathStep → Option PathStep
inner_step [] = None
inner_step (step ∷ steps) = Some step

abbrev pub outer_steps : List PathStep → List PathStep
outer_steps [] = []
outer_steps (step ∷ steps) = steps

abbrev pub with_inner : PathStep → List PathStep → List PathStep
with_inner step [] = []
with_inner step (old ∷ steps) = step ∷ steps

abbrev pub advanced : List PathStep → List PathStep
advanced (Index i ∷ steps) = Index (i + 1) ∷ steps
advanced steps = steps

-- the innermost step can be kept
abbrev pub IsSmall : List PathStep → Type 0
IsSmall (Index i ∷ steps) = i < 2 ^ 64
IsSmall _ = Unit {0}

-- ---- what an event does: the index of a step is how many elements of its array have ended

abbrev pub followed : What → List PathStep → List PathStep
followed What.OpenArray steps = Index 0 ∷ steps
followed What.OpenObject steps = Index 0 ∷ steps
followed What.CloseArray steps = advanced (outer_steps steps)
followed What.CloseObject steps = advanced (outer_steps steps)
followed (What.Name known) steps = with_inner (PathStep.Member known) steps
followed _ steps = advanced steps

-- the steps that it leads to can be kept
abbrev pub HasRoom : What → List PathStep → Type 0
HasRoom What.OpenArray steps = length steps < MOST_LEVELS
HasRoom What.OpenObject steps = length steps < MOST_LEVELS
HasRoom (What.Name known) steps = Unit {0}
HasRoom what steps = IsSmall (followed what steps)

-- From these steps the events lead to `last`, where the steps after each of them can be kept.
abbrev pub Follows : List PathStep → List Event → List PathStep → Type 0
Follows last [] steps = last ≡ steps
Follows last (event ∷ events) steps = HasRoom event.what steps → Follows last events (followed event.what steps)

-- ---- what the steps are, by the state of the machine

abbrev pub frame_step : Frame → PathStep
frame_step (in_array place done) = Index (length done)
frame_step (in_object place done np name ne) = PathStep.Member (known_of name)

abbrev pub stack_steps : List Frame → List PathStep
stack_steps [] = []
stack_steps (frame ∷ stack) = frame_step frame ∷ stack_steps stack

-- some step into a container that the leaf itself has open
pub record Inside (stack : List Frame) (steps : List PathStep) : Type 0 where
  pub inner : PathStep
  pub are : steps ≡ inner ∷ stack_steps stack

abbrev pub LeafTrail : List Frame → Leaf → List PathStep → Type 0
LeafTrail stack (value_done t) steps = steps ≡ advanced (stack_steps stack)
LeafTrail stack (array_opened place) steps = steps ≡ Index 0 ∷ stack_steps stack
LeafTrail stack (object_opened place) steps = Inside stack steps
LeafTrail stack (name_due place done) steps = Inside stack steps
LeafTrail stack (name_on place done np so_far state) steps = Inside stack steps
LeafTrail stack (colon_due place done np name ne) steps = steps ≡ PathStep.Member (known_of name) ∷ stack_steps stack
LeafTrail stack _ steps = steps ≡ stack_steps stack

-- these are the steps of the state
abbrev pub TrailAt : Broken → List PathStep → Type 0
TrailAt (begun marked s) steps = LeafTrail s.stack s.leaf steps
TrailAt _ steps = steps ≡ []

-- ---- which of them lead to the value

-- a value that is no array and no object is under way
abbrev pub is_value : Mode → Bool
is_value (ConstantOn which count) = true
is_value NumberOn = true
is_value (StringOn state) = true
is_value _ = false

-- and it begins with the last byte
abbrev pub begins : Mode → ℕ → ℕ → Bool
begins mode start offset = is_value mode && (start + 1 == offset)

abbrev pub kept_steps : Bool → List PathStep → List PathStep
kept_steps true steps = steps
kept_steps false steps = outer_steps steps
