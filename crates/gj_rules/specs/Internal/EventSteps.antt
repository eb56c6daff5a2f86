-- What an event does to what the rules keep.
use Rattle.std.specs.Prelude.{Bool, true, false, ℕ, suc, zero, List, [], ◌∷◌, ◌++◌, Option, Some, None}
use Rattle.gj_json.specs.declared.constant.Constant.TheVariants.{Null}
pub use Rattle.gj_json.specs.Ignored.{levels_behind as skip}
use Rattle.gj_json.specs.declared.event.Event.{Event}
use Rattle.gj_json.specs.declared.names.Known.{Known}
use Rattle.gj_json.specs.declared.names.Known.TheVariants.{TypeName, Coordinates, Geometries, Geometry, Properties, Features, Bbox, Id, Other}
use Rattle.gj_json.specs.declared.event.What.{What}
use Rattle.gj_json.specs.declared.names.Word.{Word}
use Rattle.gj_json.specs.Events.{value_events}
use Rattle.gj_json.specs.Tree.{Tree, constant}
use Rattle.gj_coords.specs.declared.fault.Fault.{Fault}
use Rattle.gj_coords.specs.declared.fault.Rule.TheVariants.{G1, G17, G18, G19}
use Rattle.gj_coords.specs.Fault.{fault_at}
use Rattle.gj_coords.specs.declared.kind.Kind.TheVariants.{W1}
use Rattle.gj_coords.specs.Internal.KeptWarnings as Noted
use Rattle.gj_coords.specs.Internal.KeptWarnings.{added}
use Rattle.gj_rules.specs.Internal.FrameMeaning.{Findings}
use Rattle.gj_rules.specs.Internal.FrameMeaning.{Frame}
use Rattle.gj_rules.specs.declared.role.Role.{Role}
use Rattle.gj_rules.specs.declared.mode.Mode.{Mode}
use Rattle.gj_rules.specs.declared.mode.Mode.TheVariants.{RootDue, Names, Due, Elements, Done}
use Rattle.gj_rules.specs.Internal.FrameCalls.{blank, named, due_after, joined, taken_in, type_set, settled, filled}
use Rattle.gj_rules.specs.Internal.Summaries.{none_found}
use Rattle.gj_rules.specs.Internal.LabelledEvents.{Told, event_of}

-- ---- without the values that a summary takes

-- `outer` has the innermost first
pub record Core : Type 0 where
  pub skipped : ℕ
  pub mode : Mode
  pub top : Frame
  pub outer : List Frame
  pub answer : Findings

-- how many levels a value opens that is not looked into
abbrev pub levels_in : What → ℕ
levels_in What.OpenObject = 1
levels_in What.OpenArray = 1
levels_in _ = 0

-- the member of the object around that a value with a role is, or is an element of
abbrev pub member_of : Role → Known
member_of Role.Root = Other
member_of Role.Geometry = Geometry
member_of Role.Part = Geometries
member_of Role.Feature = Features

abbrev pub mode_behind : Role → Mode
mode_behind Role.Root = Done
mode_behind Role.Geometry = Names
mode_behind Role.Part = Elements Role.Part
mode_behind Role.Feature = Elements Role.Feature

abbrev pub pushed : Role → ℕ → Core → Core
pushed role place s = record s { mode = Names; top = blank role place; outer = s.top ∷ s.outer }

-- at the end of an object in which this is found
abbrev pub popped : List Frame → Role → Findings → Core → Core
popped [] role found s = record s { mode = Done; answer = record { fault = found.fault; warned = Noted.joined s.answer.warned found.warned } }
popped (parent ∷ outer) role found s = record s { mode = mode_behind role; top = taken_in (member_of role) found parent; outer = outer }

abbrev pub root_step : What → ℕ → Core → Core
root_step What.Mark place s = record s { answer = record { fault = s.answer.fault; warned = added s.answer.warned W1 place } }
root_step What.OpenObject place s = record s { mode = Names; top = blank Role.Root place }
root_step what place s = record s { mode = Done; skipped = levels_in what; answer = record { fault = Some (fault_at place G1); warned = s.answer.warned } }

abbrev pub names_step : What → ℕ → Core → Core
names_step (What.Name name) place s = record s { mode = Due (due_after name s.top); top = named name place s.top }
names_step _ place s = popped s.outer s.top.slots.role (settled s.top) s

abbrev pub word_in : What → Word
word_in (What.Text word) = word
word_in _ = Word.Other

-- what the first event of the value of a member shows
abbrev pub opening_fault : Known → What → ℕ → Option Fault
opening_fault Geometries what place = Some (fault_at place G17)
opening_fault Features what place = Some (fault_at place G17)
opening_fault Geometry What.Null place = None
opening_fault Geometry what place = Some (fault_at place G1)
opening_fault Properties What.OpenObject place = None
opening_fault Properties What.Null place = None
opening_fault Properties what place = Some (fault_at place G18)
opening_fault Id (What.Text word) place = None
opening_fault Id (What.Number value) place = None
opening_fault Id what place = Some (fault_at place G19)
opening_fault _ what place = None

abbrev pub begun : Known → What → ℕ → Core → Core
begun TypeName what place s = record s { mode = Names; skipped = levels_in what; top = type_set place (word_in what) s.top }
begun name what place s = record s { mode = Names; skipped = levels_in what; top = joined name (opening_fault name what place) s.top }

abbrev pub due_step : Known → What → ℕ → Core → Core
due_step Geometry What.OpenObject place s = pushed Role.Geometry place s
due_step Geometries What.OpenArray place s = record s { mode = Elements Role.Part }
due_step Features What.OpenArray place s = record s { mode = Elements Role.Feature }
due_step name what place s = begun name what place s

abbrev pub element_step : Role → What → ℕ → Core → Core
element_step role What.OpenObject place s = pushed role place s
element_step role What.CloseArray place s = record s { mode = Names }
element_step role what place s = record s { skipped = levels_in what; top = joined (member_of role) (Some (fault_at place G1)) s.top }

abbrev pub mode_step : Mode → What → ℕ → Core → Core
mode_step RootDue what place s = root_step what place s
mode_step Names what place s = names_step what place s
mode_step (Due name) what place s = due_step name what place s
mode_step (Elements role) what place s = element_step role what place s
mode_step Done what place s = s

abbrev pub core_step_at : ℕ → Event → Core → Core
core_step_at zero event s = mode_step s.mode event.what event.place s
core_step_at (suc levels) event s = record s { skipped = skip event.what (suc levels) }

abbrev pub core_step : Event → Core → Core
core_step event s = core_step_at s.skipped event s

-- ---- with them

-- whether the next event goes to a summary
abbrev pub is_feeding : ℕ → Mode → Bool
is_feeding zero (Due Coordinates) = true
is_feeding zero (Due Bbox) = true
is_feeding _ _ = false

-- a value that a summary takes: its events so far, and those to come
pub record Feed : Type 0 where
  pub value : Tree
  pub taken : List Event
  pub left : List Event

abbrev pub idle : Feed
idle = record { value = constant Null 0; taken = []; left = [] }

abbrev pub fresh : Tree → Feed
fresh value = record { value = value; taken = []; left = value_events value }

-- for the value after a name
abbrev pub due_feed : Known → Tree → Feed
due_feed Coordinates value = fresh value
due_feed Bbox value = fresh value
due_feed _ value = idle

abbrev pub named_feed : Told → Known → Feed
named_feed (Told.named at place name value) due = due_feed due value
named_feed (Told.plain at place what) due = idle

abbrev pub feed_behind : Told → Mode → Feed
feed_behind x (Due name) = named_feed x name
feed_behind x _ = idle

pub record State : Type 0 where
  pub core : Core
  pub feed : Feed

-- the value of the first member of a name has ended
abbrev pub ended_as : Known → Tree → Core → Core
ended_as name value s = record s { mode = Names; top = filled name value s.top }

abbrev pub ended_in : Mode → Tree → Core → Core
ended_in (Due name) value s = ended_as name value s
ended_in _ value s = s

-- the value that a summary took has ended
abbrev pub ended : Tree → Core → Core
ended value s = ended_in s.mode value s

abbrev pub fed : List Event → Event → Tree → List Event → Core → State
fed [] event value taken s = record { core = s; feed = idle }
fed (last ∷ []) event value taken s = record { core = ended value s; feed = idle }
fed (next ∷ (later ∷ more)) event value taken s = record { core = s; feed = record { value = value; taken = taken ++ event ∷ []; left = later ∷ more } }

abbrev pub passed : Told → Core → State
passed x s = record { core = s; feed = feed_behind x s.mode }

abbrev pub step_by : Bool → Told → State → State
step_by true x s = fed s.feed.left (event_of x) s.feed.value s.feed.taken s.core
step_by false x s = passed x (mode_step s.core.mode (event_of x).what (event_of x).place s.core)

abbrev pub step_at : ℕ → Told → State → State
step_at zero x s = step_by (is_feeding zero s.core.mode) x s
step_at (suc levels) x s = record { core = core_step_at (suc levels) (event_of x) s.core; feed = idle }

abbrev pub step : Told → State → State
step x s = step_at s.core.skipped x s

abbrev pub run : List Told → State → State
run [] s = s
run (x ∷ xs) s = run xs (step x s)

abbrev pub start : State
start = record { core = record { skipped = 0; mode = RootDue; top = blank Role.Root 0; outer = []; answer = none_found }; feed = idle }
