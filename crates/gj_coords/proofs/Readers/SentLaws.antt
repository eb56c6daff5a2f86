-- The events of a value, without their times, are those by recursion on it.
use Rattle.gj_coords.proofs.Common.{Elements, Event, Tree, What, ap, array, element, elements_sent, end_of_array, end_of_object, event_at}
use Rattle.gj_coords.proofs.Common.{member, object, sent, value_events, ◌∙◌}
use Rattle.std.proofs.Common.{◌≡◌, List, [], ◌∷◌, ◌++◌, refl, map}
use Rattle.std.proofs.lemmas.List.{map-append}
use Rattle.gj_json.specs.Names.{known_of}
use Rattle.gj_json.specs.Events.{Timed, timed, events, elements_events, members_events}
use Rattle.gj_json.specs.Tree.{Members}
use Rattle.gj_coords.specs.Internal.SentEvents.{members_sent}

abbrev plain : List Timed → List Event
plain = map (λ x. x.event)

-- the bracket that closes
closed : (inside : List Timed) (inside_sent : List Event) (at close : _) (what : What) → plain inside ≡ inside_sent →
    plain (inside ++ timed at close what ∷ []) ≡ inside_sent ++ event_at close what ∷ []
closed inside inside_sent at close what h =
    map-append (λ x. x.event) inside (timed at close what ∷ []) ∙ ap (λ xs. xs ++ event_at close what ∷ []) h

-- a value and those after it
joined : (first more : List Timed) (first_sent more_sent : List Event) → plain first ≡ first_sent → plain more ≡ more_sent →
    plain (first ++ more) ≡ first_sent ++ more_sent
joined first more first_sent more_sent h k =
    map-append (λ x. x.event) first more ∙ (ap (λ xs. xs ++ plain more) h ∙ ap (λ xs. first_sent ++ xs) k)

mutual
  pub value_sent : (v : Tree) → value_events v ≡ sent v
  value_sent (array place es close) =
      ap (λ xs. event_at place What.OpenArray ∷ xs) (closed (elements_events es) (elements_sent es) _ close What.CloseArray (elements_plain es))
  value_sent (object place ms close) =
      ap (λ xs. event_at place What.OpenObject ∷ xs) (closed (members_events ms) (members_sent ms) _ close What.CloseObject (members_plain ms))
  value_sent _ = refl

  elements_plain : (es : Elements) → plain (elements_events es) ≡ elements_sent es
  elements_plain end_of_array = refl
  elements_plain (element v more) = joined (events v) (elements_events more) (sent v) (elements_sent more) (value_sent v) (elements_plain more)

  members_plain : (ms : Members) → plain (members_events ms) ≡ members_sent ms
  members_plain end_of_object = refl
  members_plain (member place name end v more) =
      ap (λ xs. event_at place (What.Name (known_of name)) ∷ xs)
      (joined (events v) (members_events more) (sent v) (members_sent more) (value_sent v) (members_plain more))
