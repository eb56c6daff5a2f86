-- How a writer counts what happens: the count stops at the greatest `u64` and stays there.
use Rattle.std.specs.Prelude.{◌≡◌, ℕ, ◌<◌, List, length, Result, MatchResult}
use Rattle.geolint_report.specs.ReadingLoop.{one_more}

-- what a write of a piece does to the count of failed writes: an error is one, and 0 bytes of a piece that is not empty
abbrev pub CountsFailedWrite : {E : Type 0} → ℕ → ℕ → Result ℕ E → List ℕ → Type 0
CountsFailedWrite old new answer piece =
    MatchResult answer
    (λ n. (0 < n → new ≡ old) × (length piece ≡ 0 → new ≡ old) × (n ≡ 0 → 0 < length piece → new ≡ one_more old))
    (λ _. new ≡ one_more old)
