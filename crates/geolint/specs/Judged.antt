-- What the reading of an input gives, of which `Is` says what is right under given limits.
use Rattle.std.specs.Prelude.{ℕ, List, ◌++◌, Option, IfSome}
use Rattle.std.specs.Io.KnownBytes.{Consumes, IsAtEnd}
use Rattle.gj_json.specs.Limits.{Allowed}
use Rattle.geolint_report.specs.ReadingLoop.{StopsBy as StopsInRoom}

-- What a reader has to give was `had` and is `left`. The verdict is right of the bytes that were read; and where the reader tells
-- its bytes, of all of them, and where it was left before its end, whatever may come after those that were read.
abbrev pub JudgesBy : {V : Type 0} → (Allowed → List ℕ → V → Type 0) → Allowed → (had left : Option (List ℕ)) → V → Type 0
JudgesBy Is limits had left verdict =
    (read : List ℕ) × Consumes had left read × Is limits read verdict
    × IfSome had (λ all. Is limits all verdict × ((IsAtEnd left → ⊥) → (more : List ℕ) → Is limits (read ++ more) verdict))

-- ---- its end

-- no read follows one whose bytes show what is sought
abbrev pub StopsBy : (Allowed → List ℕ → Type 0) → Allowed → (had left : Option (List ℕ)) → (reads now_read : ℕ) → Type 0
StopsBy ShowNone = StopsInRoom ShowNone 8192
