-- Where records may begin in some bytes, given whether the byte before them is a separator.
use Rattle.std.specs.Prelude.{◌≡◌, ℕ, zero, suc, ◌-◌, ◌<◌, List, length, get_or, Option, Some, None, IfSome, Bool, true}
use Rattle.gj_json.specs.Limits.{Allowed}
use Rattle.gj_join.specs.Parts.{separates, may_begin}
use Rattle.gj_rules.specs.declared.records.framing.Framing.{Framing}
use Rattle.file_parts.specs.Cuts.{NoneMayBeCut}

abbrev pub follows_at : Framing → Bool → List ℕ → ℕ → Bool
follows_at framing follows piece zero = follows
follows_at framing follows piece (suc k) = separates framing (get_or piece k 0)

pub record IsBegin (framing : Framing) (follows : Bool) (piece : List ℕ) (place : ℕ) : Type 0 where
  pub within : place < length piece
  pub begins : may_begin framing (follows_at framing follows piece place) (separates framing (get_or piece place 0)) ≡ true

abbrev pub NoneBegins : Framing → Bool → List ℕ → ℕ → Type 0
NoneBegins framing follows piece until = (place : ℕ) → place < until → IsBegin framing follows piece place → ⊥

abbrev pub IsFirstBegin : Framing → Bool → List ℕ → Option ℕ → Type 0
IsFirstBegin framing follows piece (Some place) = IsBegin framing follows piece place × NoneBegins framing follows piece place
IsFirstBegin framing follows piece None = NoneBegins framing follows piece (length piece)

-- ---- a text in which cuts are sought

-- no place from `from` up to this one may be cut, and this is whether the byte before it is a separator
abbrev pub IsSearchedTo : Framing → Allowed → List ℕ → (from place : ℕ) → Bool → Type 0
IsSearchedTo framing limits text from place follows =
    (follows ≡ separates framing (get_or text (place - 1) 0)) × NoneMayBeCut framing limits text from place

-- as above, where the source tells its bytes
abbrev pub AreSearchedTo : Option (List ℕ) → Framing → Allowed → (from place : ℕ) → Bool → Type 0
AreSearchedTo known framing limits from place follows = IfSome known (λ text. IsSearchedTo framing limits text from place follows)
