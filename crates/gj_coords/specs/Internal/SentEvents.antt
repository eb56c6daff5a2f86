-- The events of a value by recursion on it, and the first of them.
use Rattle.std.specs.Prelude.{ℕ, List, [], ◌∷◌, ◌++◌}
use Rattle.gj_json.specs.declared.event.Event.{Event}
use Rattle.gj_json.specs.declared.event.What.{What}
use Rattle.gj_json.specs.Events.{what_of}
use Rattle.gj_json.specs.Names.{known_of, word_of}
use Rattle.gj_json.specs.Tree.{Tree, constant, number, string, array, object, Elements, end_of_array, element, Members, end_of_object, member}
use Rattle.gj_number.specs.Value.{value_of}

abbrev pub event_at : ℕ → What → Event
event_at place what = record { place = place; what = what }

abbrev mutual
  pub sent : Tree → List Event
  sent (constant which place) = event_at place (what_of which) ∷ []
  sent (number place literal end) = event_at place (What.Number (value_of literal)) ∷ []
  sent (string place content end) = event_at place (What.Text (word_of content)) ∷ []
  sent (array place elements close) = event_at place What.OpenArray ∷ (elements_sent elements ++ event_at close What.CloseArray ∷ [])
  sent (object place members close) = event_at place What.OpenObject ∷ (members_sent members ++ event_at close What.CloseObject ∷ [])

  pub elements_sent : Elements → List Event
  elements_sent end_of_array = []
  elements_sent (element value more) = sent value ++ elements_sent more

  pub members_sent : Members → List Event
  members_sent end_of_object = []
  members_sent (member place name end value more) = event_at place (What.Name (known_of name)) ∷ (sent value ++ members_sent more)

abbrev pub head : Tree → Event
head (constant which place) = event_at place (what_of which)
head (number place literal end) = event_at place (What.Number (value_of literal))
head (string place content end) = event_at place (What.Text (word_of content))
head (array place elements close) = event_at place What.OpenArray
head (object place members close) = event_at place What.OpenObject
