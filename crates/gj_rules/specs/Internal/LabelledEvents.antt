-- The events of a text with their times, where that of a name has with it the value after the name.
use Rattle.std.specs.Prelude.{ℕ, ◌+◌, Bool, true, false, List, [], ◌∷◌, ◌++◌, length}
use Rattle.gj_json.specs.declared.event.Event.{Event}
use Rattle.gj_json.specs.declared.names.Known.{Known}
use Rattle.gj_json.specs.declared.event.What.{What}
use Rattle.gj_json.specs.Events.{what_of}
use Rattle.gj_json.specs.Bytes.{mark_bytes}
use Rattle.gj_json.specs.Grammar.{letters_of}
use Rattle.gj_json.specs.Names.{known_of, word_of}
use Rattle.gj_json.specs.Tree.{Tree, constant, number, string, array, object, Elements, end_of_array, element, Members, end_of_object, member, Text}
use Rattle.gj_number.specs.Value.{value_of}

pub data Told : Type 0 where
  named : (at place : ℕ) → (name : Known) → (value : Tree) → Told
  plain : (at place : ℕ) → (what : What) → Told

abbrev pub event_of : Told → Event
event_of (named at place name value) = record { place = place; what = What.Name name }
event_of (plain at place what) = record { place = place; what = what }

-- the length of the prefix of the text in which it is complete
abbrev pub at_of : Told → ℕ
at_of (named at place name value) = at
at_of (plain at place what) = at

abbrev mutual
  pub told : Tree → List Told
  told (constant which place) = plain (place + length (letters_of which)) place (what_of which) ∷ []
  told (number place literal end) = plain (end + 1) place (What.Number (value_of literal)) ∷ []
  told (string place content end) = plain end place (What.Text (word_of content)) ∷ []
  told (array place elements close) = plain (place + 1) place What.OpenArray ∷ (elements_told elements ++ plain (close + 1) close What.CloseArray ∷ [])
  told (object place members close) = plain (place + 1) place What.OpenObject ∷ (members_told members ++ plain (close + 1) close What.CloseObject ∷ [])

  pub elements_told : Elements → List Told
  elements_told end_of_array = []
  elements_told (element value more) = told value ++ elements_told more

  pub members_told : Members → List Told
  members_told end_of_object = []
  members_told (member place name end value more) = named end place (known_of name) value ∷ (told value ++ members_told more)

abbrev pub mark_told : Bool → List Told
mark_told true = plain (length mark_bytes) 0 What.Mark ∷ []
mark_told false = []

abbrev pub text_told : Text → List Told
text_told text = mark_told text.marked ++ told text.value
