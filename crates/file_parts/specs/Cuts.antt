-- Where an input of records is cut: at the first place of a range where the law of its parts allows it.
use Rattle.std.specs.Prelude.{ℕ, ◌-◌, ◌≤◌, ◌<◌, List, length, take, drop, Option, Some, None}
use Rattle.gj_json.specs.Limits.{Allowed}
use Rattle.gj_join.specs.Parts.{ArePartsOf}
use Rattle.gj_rules.specs.declared.records.framing.Framing.{Framing}

-- the bytes before the place and those from it on are two parts of the text, and there is a byte at it
pub record MayBeCut (framing : Framing) (limits : Allowed) (text : List ℕ) (place : ℕ) : Type 0 where
  pub within : place < length text
  pub parts : ArePartsOf framing limits (take place text) (drop place text)

-- none of the places from `from` up to `until`, which is not among them
abbrev pub NoneMayBeCut : Framing → Allowed → List ℕ → (from until : ℕ) → Type 0
NoneMayBeCut framing limits text from until = (place : ℕ) → from ≤ place → place < until → MayBeCut framing limits text place → ⊥

-- the first of these places where it may be cut, if there is one
abbrev pub IsFirstCut : Framing → Allowed → List ℕ → (from until : ℕ) → Option ℕ → Type 0
IsFirstCut framing limits text from until (Some place) =
    (from ≤ place) × (place < until) × MayBeCut framing limits text place × NoneMayBeCut framing limits text from place
IsFirstCut framing limits text from until None = NoneMayBeCut framing limits text from until

-- the bytes from one place up to another
abbrev pub bytes_between : (begin end : ℕ) → List ℕ → List ℕ
bytes_between begin end text = take (end - begin) (drop begin text)
