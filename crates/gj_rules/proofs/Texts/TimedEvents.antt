-- The labelled events are the events of a text, with their times.
use Rattle.gj_rules.proofs.Common.{Bool, Event, List, Members, Text, Told, Tree, all_events, ap, array, at_of, constant, element, elements_events}
use Rattle.gj_rules.proofs.Common.{elements_told, end_of_array, end_of_object, event_of, events, false, length, map, map-append, mark_events}
use Rattle.gj_rules.proofs.Common.{mark_told, member, members_events, members_told, number, object, plain, refl, string, text_events, text_told}
use Rattle.gj_rules.proofs.Common.{timed, told, true, value_events, [], ◌++◌, ◌+◌, ◌∙◌, ◌∷◌}
use Rattle.std.proofs.Common.{◌≡◌}
use Rattle.gj_json.specs.declared.event.What.TheVariants as What
use Rattle.gj_json.specs.Bytes.{mark_bytes}
use Rattle.gj_json.specs.Events.{Timed}
use Rattle.gj_json.specs.Names.{known_of}
use Rattle.gj_json.specs.Tree as Tree

abbrev pub timed_of : Told → Timed
timed_of x = record { at = at_of x; event = event_of x }

mutual
  told-timed : (v : Tree) → map timed_of (told v) ≡ events v
  told-timed (constant which place) = refl
  told-timed (number place literal end) = refl
  told-timed (string place content end) = refl
  told-timed (array place es close) =
      ap (λ (xs : List Timed). timed (place + 1) place What.OpenArray ∷ xs)
      (map-append timed_of (elements_told es) (plain (close + 1) close What.CloseArray ∷ [])
      ∙ ap (λ (xs : List Timed). xs ++ timed (close + 1) close What.CloseArray ∷ []) (elements-timed es))
  told-timed (object place ms close) =
      ap (λ (xs : List Timed). timed (place + 1) place What.OpenObject ∷ xs)
      (map-append timed_of (members_told ms) (plain (close + 1) close What.CloseObject ∷ [])
      ∙ ap (λ (xs : List Timed). xs ++ timed (close + 1) close What.CloseObject ∷ []) (members-timed ms))

  elements-timed : (es : Tree.Elements) → map timed_of (elements_told es) ≡ elements_events es
  elements-timed end_of_array = refl
  elements-timed (element v more) =
      map-append timed_of (told v) (elements_told more)
      ∙ (ap (λ (xs : List Timed). xs ++ map timed_of (elements_told more)) (told-timed v)
      ∙ ap (λ (xs : List Timed). events v ++ xs) (elements-timed more))

  members-timed : (ms : Members) → map timed_of (members_told ms) ≡ members_events ms
  members-timed end_of_object = refl
  members-timed (member place name end v more) =
      ap (λ (xs : List Timed). timed end place (What.Name (known_of name)) ∷ xs)
      (map-append timed_of (told v) (members_told more)
      ∙ (ap (λ (xs : List Timed). xs ++ map timed_of (members_told more)) (told-timed v)
      ∙ ap (λ (xs : List Timed). events v ++ xs) (members-timed more)))

marked-timed : (marked : Bool) (v : Tree) → map timed_of (mark_told marked ++ told v) ≡ mark_events marked ++ events v
marked-timed true v = ap (λ (xs : List Timed). timed (length mark_bytes) 0 What.Mark ∷ xs) (told-timed v)
marked-timed false v = told-timed v

pub text-timed : (text : Text) → map timed_of (text_told text) ≡ text_events text
text-timed text = marked-timed text.marked text.value

-- ---- without the times

untimed : (xs : List Told) → map event_of xs ≡ map (λ (x : Timed). x.event) (map timed_of xs)
untimed [] = refl
untimed (x ∷ xs) = ap (λ (es : List Event). event_of x ∷ es) (untimed xs)

pub told-events : (v : Tree) → map event_of (told v) ≡ value_events v
told-events v = untimed (told v) ∙ ap (λ (xs : List Timed). map (λ (x : Timed). x.event) xs) (told-timed v)

pub text-events : (text : Text) → map event_of (text_told text) ≡ all_events text
text-events text = untimed (text_told text) ∙ ap (λ (xs : List Timed). map (λ (x : Timed). x.event) xs) (text-timed text)
