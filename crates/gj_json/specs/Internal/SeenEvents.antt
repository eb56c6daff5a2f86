-- The events that a state of the machine has seen, and what holds of their times.
use Rattle.std.specs.Prelude.{◌≡◌, ℕ, ◌+◌, ◌≤◌, ◌<◌, List, [], ◌∷◌, ◌++◌, length}
use Rattle.std.specs.List.{AllByRecursion}
use Rattle.gj_json.specs.declared.event.What.{What}
use Rattle.gj_json.specs.Tree.{Tree}
use Rattle.gj_json.specs.Grammar.{letters_of}
use Rattle.gj_json.specs.Names.{known_of}
use Rattle.gj_json.specs.Events.{Timed, timed, events, mark_events}
use Rattle.gj_json.specs.Internal.TextMachine.{Frame, in_array, in_object, Member, Leaf, value_due, value_done, array_opened, object_opened, constant_on}
use Rattle.gj_json.specs.Internal.TextMachine.{number_on, string_on, name_due, name_on, colon_due, Partial, Broken, text_due, mark_one, mark_two, begun}

abbrev pub InTime : ℕ → List Timed → Type 0
InTime n xs = AllByRecursion (λ x. x.at ≤ n) xs

abbrev pub done_elements : List Tree → List Timed
done_elements [] = []
done_elements (t ∷ done) = done_elements done ++ events t

abbrev pub done_members : List Member → List Timed
done_members [] = []
done_members (m ∷ done) = done_members done ++ timed m.end m.place (What.Name (known_of m.name)) ∷ events m.value

abbrev pub stack_timed : List Frame → List Timed
stack_timed [] = []
stack_timed (in_array place done ∷ stack) = stack_timed stack ++ (timed (place + 1) place What.OpenArray ∷ done_elements done)
stack_timed (in_object place done np name ne ∷ stack) =
    stack_timed stack ++ (timed (place + 1) place What.OpenObject ∷ (done_members done ++ timed ne np (What.Name (known_of name)) ∷ []))

abbrev pub leaf_timed : Leaf → List Timed
leaf_timed value_due = []
leaf_timed (value_done t) = events t
leaf_timed (array_opened place) = timed (place + 1) place What.OpenArray ∷ []
leaf_timed (object_opened place) = timed (place + 1) place What.OpenObject ∷ []
leaf_timed (constant_on which place left) = []
leaf_timed (number_on place so_far) = []
leaf_timed (string_on place so_far state) = []
leaf_timed (name_due place done) = timed (place + 1) place What.OpenObject ∷ done_members done
leaf_timed (name_on place done np so_far state) = timed (place + 1) place What.OpenObject ∷ done_members done
leaf_timed (colon_due place done np name ne) = timed (place + 1) place What.OpenObject ∷ (done_members done ++ timed ne np (What.Name (known_of name)) ∷ [])

abbrev pub partial_timed : Partial → List Timed
partial_timed s = stack_timed s.stack ++ leaf_timed s.leaf

-- what has been seen, in the order of the text
abbrev pub seen : Broken → List Timed
seen (begun marked s) = mark_events marked ++ partial_timed s
seen _ = []

-- a literal name under way has its letters still to come
abbrev pub ConstantAt : Leaf → ℕ → Type 0
ConstantAt (constant_on which place left) n = (n + length left ≡ place + length (letters_of which)) × (0 < length left)
ConstantAt _ n = Unit {0}

-- where what is under way began
abbrev pub BegunAs : Leaf → ℕ → Type 0
BegunAs (constant_on which place left) start = start ≡ place
BegunAs (number_on place so_far) start = start ≡ place
BegunAs (string_on place so_far state) start = start ≡ place
BegunAs (name_on place done np so_far state) start = start ≡ np
BegunAs _ start = Unit {0}

abbrev pub EdgeAt : Broken → ℕ → ℕ → Type 0
EdgeAt text_due start n = n ≡ 0
EdgeAt mark_one start n = n ≡ 1
EdgeAt mark_two start n = n ≡ 2
EdgeAt (begun marked s) start n = BegunAs s.leaf start × ConstantAt s.leaf n

-- what holds of the places of a state, n bytes in: the events that it has seen are complete, a mark stands in the first
-- bytes, and what is under way began at `start`
pub record IsTimely (state : Broken) (start n : ℕ) : Type 0 where
  pub seen_by : InTime n (seen state)
  pub edge : EdgeAt state start n
