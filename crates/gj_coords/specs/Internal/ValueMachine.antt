-- How a machine reads a value event by event, and answers.
use Rattle.std.specs.Prelude.{◌≡◌, ◌^◌, ◌<◌, List, [], ◌∷◌, ◌++◌, Bool, true, false}
use Rattle.gj_json.specs.declared.event.Event.{Event}
use Rattle.gj_json.specs.Events.{value_events}
use Rattle.gj_json.specs.Tree.{Tree, depth}

-- states that events lead on, of which some have ended and answer
pub record Machine (S A : Type 0) : Type 0 where
  pub after : S → Event → S
  pub ended : S → Bool
  pub answered : S → A

-- of the states on the way only the last has ended, and it answers so
abbrev pub Reads : {S A : Type 0} → Machine S A → S → List Event → A → Type 0
Reads m s [] a = (m.ended s ≡ true) × (m.answered s ≡ a)
Reads m s (e ∷ es) a = (m.ended s ≡ false) × Reads m (m.after s e) es a

-- its levels can be counted in 64 bits
abbrev pub IsCountable : Tree → Type 0
IsCountable value = depth value < 2 ^ 64

-- the state that events lead to
abbrev pub run : {S : Type 0} → (S → Event → S) → S → List Event → S
run after s [] = s
run after s (e ∷ es) = run after (after s e) es

-- it reads what is left of each value that begins with these events, and then answers for that value
abbrev pub ReadsOn : {S A : Type 0} → Machine S A → (Tree → A) → S → List Event → Type 0
ReadsOn m meaning s es = (value : Tree) (rest : List Event) → es ++ rest ≡ value_events value → IsCountable value → Reads m s rest (meaning value)
