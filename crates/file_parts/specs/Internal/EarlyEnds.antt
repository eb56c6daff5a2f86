-- Why a search among the bytes of a source has no answer.
use Rattle.std.specs.Prelude.{◌≡◌, ◌⊎◌, ℕ, ◌+◌, List, Option, Result, MatchResult}
use Rattle.std.specs.Io.Iter.{u64_saturate}
use Rattle.std.below.std_io.specs.declared.io.error.Error.{Error}
use Rattle.file_parts.specs.Checked.{EndsBefore}

-- An error is a failed read, or the bytes end before this place.
abbrev pub CountsFailureOrEnds : {T : Type 0} → Option (List ℕ) → (place old new : ℕ) → Result T Error → Type 0
CountsFailureOrEnds known place old new answer = MatchResult answer (λ _. new ≡ old)
    (λ error. (new ≡ u64_saturate (old + 1)) ⊎ ((new ≡ old) × EndsBefore known place error))
