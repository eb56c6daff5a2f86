-- What a read at a place gives, where the source tells its bytes.
use Rattle.std.specs.Prelude.{◌≡◌, ℕ, ◌≤◌, ◌<◌, List, length, take, drop, Option, Some, None, Result, IfOk, ⊤}

-- these are the bytes of a text from the place on, as many as they are
abbrev pub StandsAt : List ℕ → ℕ → List ℕ → Type 0
StandsAt bytes place part = part ≡ take (length part) (drop place bytes)

-- at `Ok(n)` the first n bytes of the piece stand there, and none came only where the text has ended or the piece has no room
abbrev pub ReadsFrom : {E : Type 0} → Option (List ℕ) → ℕ → Result ℕ E → List ℕ → Type 0
ReadsFrom None place result piece = ⊤
ReadsFrom (Some bytes) place result piece = IfOk result (λ n. StandsAt bytes place (take n piece) × (n ≡ 0 → 0 < length piece → length bytes ≤ place))
