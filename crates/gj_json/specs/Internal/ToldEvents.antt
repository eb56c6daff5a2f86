-- Which events a byte completes, by the move that it makes.
use Rattle.std.specs.Prelude.{ℕ, List, [], ◌∷◌, ◌++◌, Option, Some, None, Bool, true, false, if◌then◌else◌}
use Rattle.std.specs.Option.{option_to_list}
use Rattle.gj_json.specs.declared.event.Event.{Event}
use Rattle.gj_json.specs.declared.event.What.{What}
use Rattle.gj_json.specs.declared.levels.Level.{Level}
use Rattle.gj_json.specs.declared.levels.Level.TheVariants.{Array, Object}
use Rattle.gj_json.specs.declared.mode.Mode.{Mode}
use Rattle.gj_json.specs.declared.mode.Mode.TheVariants.{ValueDone, ConstantOn, NumberOn, StringOn, NameOn}
use Rattle.gj_json.specs.declared.mode.Ending.{Ending}
use Rattle.gj_json.specs.declared.mode.Ending.TheVariants.{Mark, Literal, Text, Name}
use Rattle.gj_json.specs.declared.mode.Move.{Move}
use Rattle.gj_json.specs.declared.mode.Move.TheVariants.{Refuse, Go, Open, Close}
use Rattle.gj_json.specs.Events.{what_of}
use Rattle.gj_number.specs.Exact.{Exact}
use Rattle.gj_json.specs.declared.mode.StringState.{StringState}

-- what a byte does to a number under way, which goes on with it, has ended before it, or may neither go on so nor end
pub data NumberTurn : Type 0 where
  Goes : NumberTurn
  Ends : NumberTurn
  Refuses : NumberTurn

-- by whether the number goes on so, and whether it may end here
abbrev pub turn_of : Bool → Bool → NumberTurn
turn_of true may_end = Goes
turn_of false true = Ends
turn_of false false = Refuses

abbrev pub event_at : ℕ → What → Event
event_at place what = record { place = place; what = what }

abbrev pub opening_of : Level → What
opening_of Array = What.OpenArray
opening_of Object = What.OpenObject

abbrev pub closing_of : Level → What
closing_of Array = What.CloseArray
closing_of Object = What.CloseObject

-- what a byte ends that began at `start`
abbrev pub ending_event : Ending → ℕ → Option Event
ending_event Mark start = Some (event_at 0 What.Mark)
ending_event (Literal which) start = Some (event_at start (what_of which))
ending_event (Text word) start = Some (event_at start (What.Text word))
ending_event (Name known) start = Some (event_at start (What.Name known))
ending_event _ start = None

-- the event of the byte at n that makes this move
abbrev pub move_event : Move → ℕ → ℕ → Option Event
move_event Refuse start n = None
move_event (Go mode ending) start n = ending_event ending start
move_event (Open level) start n = Some (event_at n (opening_of level))
move_event (Close level) start n = Some (event_at n (closing_of level))

-- the number under way, which has this value, where it has ended before the byte
abbrev pub number_events : Mode → NumberTurn → Option Exact → ℕ → List Event
number_events NumberOn NumberTurn.Ends value start = event_at start (What.Number value) ∷ []
number_events _ turn value start = []

-- all events of the byte at n
abbrev pub emitted : Mode → NumberTurn → Move → Option Exact → ℕ → ℕ → List Event
emitted mode turn move value start n = number_events mode turn value start ++ option_to_list (move_event move start n)

-- whether a number is under way
abbrev pub in_number : Mode → Bool
in_number NumberOn = true
in_number _ = false

-- how far the character under way in a string or a name has come, where one is under way
abbrev pub text_state : Mode → Option StringState
text_state (StringOn state) = Some state
text_state (NameOn state) = Some state
text_state _ = None

-- whether a literal name, a number, a string or a name is under way
abbrev pub is_on : Mode → Bool
is_on (ConstantOn which count) = true
is_on NumberOn = true
is_on (StringOn state) = true
is_on (NameOn state) = true
is_on _ = false

-- where what is under way began, after a byte at n
abbrev pub start_after : Mode → ℕ → ℕ → ℕ
start_after mode start n = if is_on mode then start else n

-- What is left to say where the text ends here, or None where it may not: the number under way may end or not, and has
-- this value.
abbrev pub last_event : Mode → Option Level → Bool → Option Exact → ℕ → Option (Option Event)
last_event ValueDone None may_end value start = Some None
last_event NumberOn None may_end value start = if may_end then Some (Some (event_at start (What.Number value))) else None
last_event _ _ may_end value start = None
