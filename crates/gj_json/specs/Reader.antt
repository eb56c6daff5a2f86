-- What a reader stands for, and what its calls answer.
use Rattle.std.specs.Prelude.{◌≡◌, ℕ, ◌≤◌, List, ◌++◌, length, take, Option, Result, Ok, Err}
use Rattle.std.specs.Option.{option_to_list}
use Rattle.gj_json.specs.declared.fault.JsonFault.{JsonFault}
use Rattle.gj_json.specs.declared.reader.Reader.{Reader}
use Rattle.gj_json.specs.declared.event.Event.{Event}
use Rattle.gj_json.specs.Limits.{Allowed}
use Rattle.gj_json.specs.Tree.{Text}
use Rattle.gj_json.specs.Text.{IsText, IsViableWithin}
use Rattle.gj_json.specs.Events.{all_events, events_by}
use Rattle.gj_json.specs.Refusal.{IsRefusal, IsAdmitted}
use Rattle.gj_json.specs.Internal.OpenLevels.{levels_in}
use Rattle.gj_json.specs.Internal.ReaderState.{Stands}

-- The reader may have been given these bytes, refused ones among them. What it says is internal: a caller needs that
-- `new` stands for no bytes, and that each call keeps it.
abbrev pub StandsFor : Reader → List ℕ → Type 0
StandsFor reader bytes = Stands reader.limits reader.fault reader.mode (levels_in reader.levels) reader.literal reader.content reader.start reader.offset bytes

-- what it reads under
abbrev pub limits_of : Reader → Allowed
limits_of reader = reader.limits

-- the refusal, once there was one
abbrev pub refusal_of : Reader → Option JsonFault
refusal_of reader = reader.fault

-- how many bytes it took
abbrev pub offset_of : Reader → ℕ
offset_of reader = reader.offset

-- how many arrays and objects are open
abbrev pub levels_of : Reader → ℕ
levels_of reader = length (levels_in reader.levels)

-- To bytes that were given in all: they are a prefix of a text within the depth and no more than are allowed (not that such a
-- text ends within the bytes allowed), or the fault is the refusal of every input that begins so.
abbrev pub Answers : {A : Type 0} → Allowed → List ℕ → Result A JsonFault → Type 0
Answers limits bytes (Ok done) = IsViableWithin limits.depth bytes × (length bytes ≤ limits.bytes)
Answers limits bytes (Err fault) = IsRefusal limits bytes fault × ((more : List ℕ) → IsRefusal limits (bytes ++ more) fault)

-- Each text that begins with these bytes has these events more complete in its first `to` bytes than in its first `from`.
abbrev pub Completed : ℕ → ℕ → List ℕ → List Event → Type 0
Completed from to bytes found = (text : Text) (rest : List ℕ) → IsText text (bytes ++ rest) → events_by to text ≡ events_by from text ++ found

-- A sink that had heard `events` has heard these more.
abbrev pub Hears : (List Event → Type 0) → List Event → ℕ → ℕ → List ℕ → Type 0
Hears heard events from to bytes = (found : List Event) × heard (events ++ found) × Completed from to bytes found

-- by a call that was given bytes after `bytes`: up to the place of the refusal, where there is one
abbrev pub HearsBy : {A : Type 0} → (List Event → Type 0) → List Event → List ℕ → List ℕ → Result A JsonFault → Type 0
HearsBy heard events bytes given (Ok done) = Hears heard events (length bytes) (length (bytes ++ given)) (bytes ++ given)
HearsBy heard events bytes given (Err fault) = Hears heard events (length bytes) fault.place (take fault.place (bytes ++ given))

-- the input ends: it is an admitted text, with the last event where one was left, or it is refused
abbrev pub FinishAnswers : Allowed → List ℕ → Result (Option Event) JsonFault → Type 0
FinishAnswers limits bytes (Ok found) = (text : Text) × IsAdmitted limits text bytes × (all_events text ≡ events_by (length bytes) text ++ option_to_list found)
FinishAnswers limits bytes (Err fault) = IsRefusal limits bytes fault
