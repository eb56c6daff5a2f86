-- What a loop that reads a source has done when it ends.
use Rattle.std.specs.Prelude.{◌≡◌, ◌⊎◌, ◌+◌, ◌≤◌, ℕ, List, [], ◌++◌, length, Option, OnSome, Result, MatchResult}
use Rattle.std.specs.Io.Iter.{u64_saturate}
use Rattle.std.specs.Io.KnownBytes.{Consumes, IsAtEnd}
use Rattle.gj_json.specs.Limits.{Allowed}
use Rattle.geolint_report.specs.declared.reading_loop.Stage.{Stage}

-- ---- counts, each of which stops at the greatest `u64` and stays there

abbrev pub one_more : ℕ → ℕ
one_more count = u64_saturate (count + 1)

-- what a read does to the count of the bytes that came
abbrev pub CountsBytes : {E : Type 0} → ℕ → ℕ → Result ℕ E → Type 0
CountsBytes old new answer = MatchResult answer (λ n. new ≡ u64_saturate (old + n)) (λ _. new ≡ old)

-- ---- the end of a reading

-- What the source has to give was `had` and is `left`: it was read to its end, or what was fed is decided.
abbrev pub Ends : (Stands Decides : List ℕ → Type 0) → (had left : Option (List ℕ)) → Stage → Type 0
Ends Stands Decides had left Stage.Open = (read : List ℕ) × Consumes had left read × Stands read × IsAtEnd left
Ends Stands Decides had left Stage.Decided = (read : List ℕ) × Consumes had left read × Stands read × Decides read

-- No read follows one whose bytes show what is sought: those that came `before` the last read do not. There were no more reads
-- than these bytes are, and one, as a read gives a byte at least. So where each gives one byte, none is made too many.
abbrev pub StopsBy : (Allowed → List ℕ → Type 0) → (room : ℕ) → Allowed → (had left : Option (List ℕ)) → (reads now_read : ℕ) → Type 0
StopsBy ShowNone room limits had left reads now_read =
    (before : List ℕ) × (last : List ℕ) × Consumes had left (before ++ last)
    × OnSome had (((before ≡ []) ⊎ ShowNone limits before) × (now_read ≤ reads + (length before + 1)) × (length last ≤ room))
