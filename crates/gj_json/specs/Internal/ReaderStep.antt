-- What a byte does to the fields of a reader.
use Rattle.std.specs.Prelude.{◌≡◌, ℕ, ◌+◌, ◌<◌, List, [], ◌∷◌, ◌++◌, length, Option, Some, Result, Ok, Err}
use Rattle.std.specs.Option.{option_to_list}
use Rattle.gj_json.specs.declared.event.Event.{Event}
use Rattle.gj_json.specs.declared.fault.JsonFault.{JsonFault}
use Rattle.gj_json.specs.declared.fault.Cause.{Cause}
use Rattle.gj_json.specs.declared.fault.Cause.TheVariants.{Syntax, Depth}
use Rattle.gj_json.specs.declared.levels.Level.{Level}
use Rattle.gj_json.specs.declared.levels.Level.TheVariants.{Array, Object}
use Rattle.gj_json.specs.declared.mode.Mode.{Mode}
use Rattle.gj_json.specs.declared.mode.Mode.TheVariants.{ArrayOpened, ObjectOpened, ValueDone}
use Rattle.gj_json.specs.declared.mode.Move.{Move}
use Rattle.gj_json.specs.declared.mode.Move.TheVariants.{Refuse, Go, Open, Close}
use Rattle.gj_json.specs.declared.reader.Reader.{Reader}
use Rattle.gj_number.specs.Exact.{Exact}
use Rattle.gj_json.specs.Internal.OpenLevels.{levels_in, inner_of, outer_of}
use Rattle.gj_json.specs.Internal.Transitions.{move_of}
use Rattle.gj_json.specs.Internal.ToldEvents.{start_after, move_event, emitted, NumberTurn}
use Rattle.gj_json.specs.Internal.KeptContent.{words_in}
use Rattle.gj_json.specs.Internal.UnderWay.{LiteralSays, LiteralGoes, ContentGoes}

abbrev pub opened : Level → Mode
opened Array = ArrayOpened
opened Object = ObjectOpened

-- a byte was taken, and these are the mode and the levels after it
pub record Passes (mode : Mode) (levels : List Level) (old new : Reader) : Type 0 where
  pub limits : new.limits ≡ old.limits
  pub fault : new.fault ≡ old.fault
  pub start : new.start ≡ start_after old.mode old.start old.offset
  pub offset : new.offset ≡ old.offset + 1
  pub mode_is : new.mode ≡ mode
  pub levels_are : levels_in new.levels ≡ levels

-- a byte was refused, and nothing changes but that this is kept
pub record IsRefusedWith (cause : Cause) (old new : Reader) (fault : JsonFault) : Type 0 where
  pub place : fault.place ≡ old.offset
  pub cause_is : fault.cause ≡ cause
  pub kept : new.fault ≡ Some fault
  pub limits : new.limits ≡ old.limits
  pub start : new.start ≡ old.start
  pub offset : new.offset ≡ old.offset
  pub mode_is : new.mode ≡ old.mode
  pub levels_are : new.levels ≡ old.levels

pub record RefusesWith {A : Type 0} (cause : Cause) (old new : Reader) (result : Result A JsonFault) : Type 0 where
  pub fault : JsonFault
  pub answer : result ≡ Err fault
  pub refused : IsRefusedWith cause old new fault

-- a byte was taken that makes this move
pub record PassesTo (made : Move) (mode : Mode) (levels : List Level) (old new : Reader) (result : Result Move JsonFault) : Type 0 where
  pub answer : result ≡ Ok made
  pub passes : Passes mode levels old new

abbrev pub Applied : Move → Reader → Reader → Result Move JsonFault → Type 0
Applied Refuse old new result = RefusesWith Syntax old new result
Applied (Go mode ending) old new result = PassesTo (Go mode ending) mode (levels_in old.levels) old new result
Applied (Open level) old new result =
    (length (levels_in old.levels) ≡ old.limits.depth → RefusesWith Depth old new result)
    × (length (levels_in old.levels) < old.limits.depth → PassesTo (Open level) (opened level) (level ∷ levels_in old.levels) old new result)
Applied (Close level) old new result = PassesTo (Close level) ValueDone (outer_of (levels_in old.levels)) old new result

-- a byte that is refused reports nothing
abbrev pub told_on : Result Move JsonFault → List Event → List Event
told_on (Ok made) events = events
told_on (Err fault) events = []

-- ---- a whole byte, by what it does to the number under way and the value that this has

abbrev pub move_by : Reader → NumberTurn → ℕ → Move
move_by reader turn b = move_of reader.mode turn (inner_of (levels_in reader.levels)) (words_in reader.content) b

-- what it ends, opens or closes beside the number
abbrev pub made_by : Reader → NumberTurn → ℕ → List Event
made_by reader turn b = option_to_list (move_event (move_by reader turn b) reader.start reader.offset)

abbrev pub told_by : Reader → NumberTurn → Option Exact → ℕ → List Event
told_by reader turn value b = emitted reader.mode turn (move_by reader turn b) value reader.start reader.offset

-- the reader was given the byte, and its sink has heard of it what was taken
pub record Takes (before after : List Event → Type 0) (old new : Reader) (b : ℕ) (result : Result Move JsonFault) : Type 0 where
  pub turn : NumberTurn
  pub value : Option Exact
  pub says : LiteralSays old b turn value
  pub goes : (made : Move) → result ≡ Ok made → LiteralGoes old new b turn × ContentGoes old new b
  pub applied : Applied (move_by old turn b) old new result
  pub told : (events : List Event) → before events → after (events ++ told_on result (told_by old turn value b))
