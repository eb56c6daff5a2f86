-- What a linter stands for, and what its calls answer.
use Rattle.std.specs.Prelude.{◌≡◌, ℕ, ◌≤◌, List, ◌++◌, length, take, Option, Some, None}
use Rattle.gj_json.specs.declared.event.Event.{Event}
use Rattle.gj_json.specs.declared.fault.JsonFault.{JsonFault}
use Rattle.gj_json.specs.Events.{events_by}
use Rattle.gj_json.specs.Limits.{Allowed}
use Rattle.gj_json.specs.Reader.{StandsFor as ReaderStandsFor, limits_of as reader_limits, refusal_of as reader_refusal, offset_of as reader_offset}
use Rattle.gj_json.specs.Reader.{levels_of as reader_levels}
use Rattle.gj_json.specs.Refusal.{IsRefusal}
use Rattle.gj_json.specs.Text.{IsText, IsViableWithin}
use Rattle.gj_json.specs.Tree.{Text}
use Rattle.gj_rules.specs.declared.linter.Linter.{Linter}
use Rattle.gj_rules.specs.declared.linter.Progress.{Progress}
use Rattle.gj_rules.specs.declared.linter.Progress.TheVariants.{Open, Refused}
use Rattle.gj_rules.specs.Rules.{StandsFor as RulesStandFor}

-- the events were reported, of which this holds, that each text which begins with these bytes has complete in them
pub record AreToldOf (Told : List Event → Type 0) (taken : List ℕ) (n : ℕ) : Type 0 where
  pub events : List Event
  pub told : Told events
  pub complete : (text : Text) (rest : List ℕ) → IsText text (taken ++ rest) → events_by n text ≡ events

-- The linter may have been fed these bytes, refused ones among them. What it says is internal: a caller needs that `new`
-- stands for no bytes, and that each call keeps it.
unfoldable pub StandsFor : Linter → List ℕ → Type 0
StandsFor linter bytes =
    ReaderStandsFor linter.reader bytes × AreToldOf (RulesStandFor linter.rules) (take (reader_offset linter.reader) bytes) (reader_offset linter.reader)

-- what it checks under
abbrev pub limits_of : Linter → Allowed
limits_of linter = reader_limits linter.reader

-- the refusal, once there was one
abbrev pub refusal_of : Linter → Option JsonFault
refusal_of linter = reader_refusal linter.reader

-- how many bytes it took
abbrev pub offset_of : Linter → ℕ
offset_of linter = reader_offset linter.reader

-- how many arrays and objects are open
abbrev pub levels_of : Linter → ℕ
levels_of linter = reader_levels linter.reader

-- To bytes that were fed in all: they are a prefix of a text within the depth and no more than are allowed (not that such a text
-- ends within the bytes allowed), or the fault is the refusal of every input that begins so.
abbrev pub Answers : Allowed → List ℕ → Progress → Type 0
Answers limits bytes Open = IsViableWithin limits.depth bytes × (length bytes ≤ limits.bytes)
Answers limits bytes (Refused fault) = (more : List ℕ) → IsRefusal limits (bytes ++ more) fault

-- the refusal that an answer says
abbrev pub refusal_in : Progress → Option JsonFault
refusal_in Open = None
refusal_in (Refused fault) = Some fault
