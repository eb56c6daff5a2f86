-- The events of a text, each with the length of the prefix of the text in which it is complete.
use Rattle.std.specs.Prelude.{ℕ, ◌+◌, if◌then◌else◌, nat_le, Bool, List, [], ◌∷◌, ◌++◌, length, map}
use Rattle.gj_json.specs.declared.event.Event.{Event}
use Rattle.gj_json.specs.declared.event.What.{What}
use Rattle.gj_json.specs.declared.constant.Constant.{Constant}
use Rattle.gj_json.specs.declared.constant.Constant.TheVariants.{Null, True, False}
use Rattle.gj_json.specs.Bytes.{mark_bytes}
use Rattle.gj_json.specs.Tree.{Tree, constant, number, string, array, object, Elements, end_of_array, element, Members, end_of_object, member, Text}
use Rattle.gj_json.specs.Grammar.{letters_of}
use Rattle.gj_json.specs.Names.{known_of, word_of}
use Rattle.gj_number.specs.Value.{value_of}

pub record Timed : Type 0 where
  pub at : ℕ
  pub event : Event

abbrev pub timed : ℕ → ℕ → What → Timed
timed at place what = record { at = at; event = record { place = place; what = what } }

abbrev pub what_of : Constant → What
what_of Null = What.Null
what_of True = What.True
what_of False = What.False

abbrev mutual
  -- in the order of the text: opening, names, contents, closing
  pub events : Tree → List Timed
  events (constant which place) = timed (place + length (letters_of which)) place (what_of which) ∷ []
  -- only the byte after it shows that a number has ended
  events (number place literal end) = timed (end + 1) place (What.Number (value_of literal)) ∷ []
  events (string place content end) = timed end place (What.Text (word_of content)) ∷ []
  events (array place elements close) = timed (place + 1) place What.OpenArray ∷ (elements_events elements ++ timed (close + 1) close What.CloseArray ∷ [])
  events (object place members close) = timed (place + 1) place What.OpenObject ∷ (members_events members ++ timed (close + 1) close What.CloseObject ∷ [])

  pub elements_events : Elements → List Timed
  elements_events end_of_array = []
  elements_events (element value more) = events value ++ elements_events more

  pub members_events : Members → List Timed
  members_events end_of_object = []
  members_events (member place name end value more) = timed end place (What.Name (known_of name)) ∷ (events value ++ members_events more)

-- a byte order mark stands at 0
abbrev pub mark_events : Bool → List Timed
mark_events marked = if marked then timed (length mark_bytes) 0 What.Mark ∷ [] else []

abbrev pub text_events : Text → List Timed
text_events text = mark_events text.marked ++ events text.value

-- the events of one value, without their times
abbrev pub value_events : Tree → List Event
value_events value = map (λ x. x.event) (events value)

-- all events, without their times
abbrev pub all_events : Text → List Event
all_events text = map (λ x. x.event) (text_events text)

-- those that are complete in a prefix of n bytes
abbrev pub by : ℕ → List Timed → List Event
by n [] = []
by n (x ∷ xs) = if nat_le x.at n then x.event ∷ by n xs else by n xs

abbrev pub events_by : ℕ → Text → List Event
events_by n text = by n (text_events text)
