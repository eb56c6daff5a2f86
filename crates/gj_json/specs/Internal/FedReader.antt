-- What a call that takes bytes leaves of a reader and of a sink.
use Rattle.std.specs.Prelude.{◌≡◌, ℕ, ◌+◌, ◌-◌, ◌≤◌, ◌<◌, ◌⊎◌, Bool, true, false, List, [], ◌∷◌, ◌++◌, get_or, length, take, Some, None}
use Rattle.gj_number.specs.Grammar.{BeginsNumber}
use Rattle.gj_number.specs.Literal.{StandsFor as LiteralStandsFor}
use Rattle.gj_json.specs.declared.mode.Mode.TheVariants.{NumberOn, StringOn, NameOn, NameDue}
use Rattle.gj_json.specs.Internal.ToldEvents.{in_number, text_state}
use Rattle.gj_json.specs.Internal.KeptContent.{Holds}
use Rattle.gj_json.specs.declared.mode.StringState.{StringState}
use Rattle.gj_json.specs.declared.mode.Mode.{Mode}
use Rattle.gj_json.specs.declared.event.Event.{Event}
use Rattle.gj_json.specs.declared.fault.JsonFault.{JsonFault}
use Rattle.gj_json.specs.declared.reader.Reader.{Reader}
use Rattle.gj_json.specs.Internal.QuietBytes.{Leads, Reads}
use Rattle.gj_json.specs.Internal.OpenLevels.{levels_in}
use Rattle.gj_json.specs.Ignored.{Leaves}
use Rattle.gj_json.specs.Reader.{StandsFor, Hears, Completed}

-- a string goes on as a string, or a name as a name
abbrev pub GoesOn : Mode → StringState → Mode → StringState → Type 0
GoesOn mode first next last = ((mode ≡ StringOn first) × (next ≡ StringOn last)) ⊎ ((mode ≡ NameOn first) × (next ≡ NameOn last))

-- It has refused no byte, and the limit on the bytes allows these.
abbrev pub IsOpenFor : Reader → List ℕ → Type 0
IsOpenFor reader piece = (reader.fault ≡ None) × (reader.offset + length piece ≤ reader.limits.bytes)

-- They are some, and what is tested of the mode holds.
pub record IsReady (test : Mode → Bool) (reader : Reader) (piece : List ℕ) : Type 0 where
  pub some : 0 < length piece
  pub takes : IsOpenFor reader piece
  pub due : test reader.mode ≡ true

-- and this is the first
pub record IsReadyFor (test : Mode → Bool) (byte : ℕ) (reader : Reader) (piece : List ℕ) : Type 0 where
  pub some : 0 < length piece
  pub begins : get_or piece 0 0 ≡ byte
  pub takes : IsOpenFor reader piece
  pub due : test reader.mode ≡ true

-- A piece has so many bytes at its start, and this holds of them.
pub record OfPrefix (Holds : List ℕ → Type 0) (piece : List ℕ) (count : ℕ) : Type 0 where
  pub within : count ≤ length piece
  pub holds : Holds (take count piece)

-- Bytes that complete nothing: they lead to another mode with no number and no string under way, or they go on in a number
-- or in a string.
pub data SkipsBy (old new : Reader) (given : List ℕ) : Type 0 where
  leading : Leads old.mode given new.mode → in_number new.mode ≡ false → text_state new.mode ≡ None → SkipsBy old new given
  in_literal : old.mode ≡ NumberOn → new.mode ≡ NumberOn
      → ((bytes : List ℕ) → LiteralStandsFor old.literal bytes → LiteralStandsFor new.literal (bytes ++ given) × BeginsNumber (bytes ++ given))
      → SkipsBy old new given
  in_text : (first last : StringState) (characters : List ℕ) → GoesOn old.mode first new.mode last → Reads first given characters last
      → ((so_far : List ℕ) → Holds old.content so_far → Holds new.content (so_far ++ characters))
      → SkipsBy old new given

-- and they leave all else but the offset as it is
pub record Skips (old new : Reader) (given : List ℕ) : Type 0 where
  pub limits : new.limits ≡ old.limits
  pub fault : new.fault ≡ old.fault
  pub levels : new.levels ≡ old.levels
  pub start : new.start ≡ old.start
  pub offset : new.offset ≡ old.offset + length given
  pub by : SkipsBy old new given

-- so many bytes were passed over, and this is the mode after them
pub record Passed (count : ℕ) (mode : Mode) (old new : Reader) : Type 0 where
  pub limits : new.limits ≡ old.limits
  pub fault : new.fault ≡ old.fault
  pub levels : new.levels ≡ old.levels
  pub start : new.start ≡ old.start
  pub literal : new.literal ≡ old.literal
  pub content : new.content ≡ old.content
  pub offset : new.offset ≡ old.offset + count
  pub mode_is : new.mode ≡ mode

-- The reader was given these bytes, and its sink has heard of them what was taken.
pub record Feeds (heard_before heard_after : List Event → Type 0) (old new : Reader) (given : List ℕ) : Type 0 where
  pub limits : new.limits ≡ old.limits
  pub on : old.offset ≤ new.offset
  pub stands : (bytes : List ℕ) → StandsFor old bytes → StandsFor new (bytes ++ given)
  pub told : (bytes : List ℕ) (events : List Event) → StandsFor old bytes → heard_before events
      → Hears heard_after events old.offset new.offset (take new.offset (bytes ++ given))

-- and it refused none of them
pub record FeedsAll (heard_before heard_after : List Event → Type 0) (old new : Reader) (given : List ℕ) : Type 0 where
  pub feeds : Feeds heard_before heard_after old new given
  pub live : new.fault ≡ None
  pub offset : new.offset ≡ old.offset + length given

-- or it refused one
pub record FeedsTo (heard_before heard_after : List Event → Type 0) (old new : Reader) (given : List ℕ) (fault : JsonFault) : Type 0 where
  pub feeds : Feeds heard_before heard_after old new given
  pub refused : new.fault ≡ Some fault

-- A sink that had heard `events` has heard those that the byte completes, two at the most.
pub record HearsTwo (heard : List Event → Type 0) (events : List Event) (bytes : List ℕ) (b : ℕ) : Type 0 where
  pub found : List Event
  pub told : heard (events ++ found)
  pub few : length found ≤ 2
  pub completed : Completed (length bytes) (length bytes + 1) (bytes ++ b ∷ []) found

-- The reader was given these bytes while some levels above the floor were open, and what they complete leaves those that
-- are.
abbrev pub above : ℕ → Reader → ℕ
above floor reader = length (levels_in reader.levels) - floor

abbrev pub FeedsWithin : ℕ → Reader → Reader → List ℕ → Type 0
FeedsWithin floor old new = FeedsAll (λ events. events ≡ []) (λ events. Leaves (above floor old) events (above floor new)) old new

abbrev pub FeedsWithinTo : ℕ → Reader → Reader → List ℕ → JsonFault → Type 0
FeedsWithinTo floor old new given fault = FeedsTo (λ events. events ≡ []) (λ events. Leaves (above floor old) events (above floor new)) old new given fault

-- The reader was given these bytes, of which the last alone may close a level: within any levels that are open, what they
-- complete leaves those that are.
pub record FeedsAny (old new : Reader) (given : List ℕ) : Type 0 where
  pub limits : new.limits ≡ old.limits
  pub live : new.fault ≡ None
  pub offset : new.offset ≡ old.offset + length given
  pub within : (floor : ℕ) → floor < length (levels_in old.levels) → FeedsWithin floor old new given
  pub one : length (levels_in old.levels) ≤ length (levels_in new.levels) + 1
  pub named : new.mode ≡ NameDue → length (levels_in old.levels) ≤ length (levels_in new.levels)

-- The reader was given these bytes, and a sink that hears tokens has heard of them what was taken.
abbrev pub FeedsToken : Bool → (List Event → Type 0) → (List Event → Type 0) → Reader → Reader → List ℕ → Type 0
FeedsToken true heard_before heard_after old new = FeedsAll heard_before heard_after old new
FeedsToken false heard_before heard_after old new = FeedsAny old new
