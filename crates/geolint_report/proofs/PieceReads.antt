-- Lemmas on the loop that reads.
use Rattle.geolint_report.proofs.Common.{inl, inr, arith, ◌+◌, ◌-◌, ◌<◌, ◌≤◌, ◌^◌, ◌≡◌, ℕ, List, [], ◌++◌, Some, None, length, ◌∙◌, Option, ◌⊎◌}
use Rattle.geolint_report.proofs.Common.{u64_saturate, cases_lt, Consumes, Allowed}
use Rattle.std.proofs.Math.Nat.{min-eq_left, min-eq_right}
use Rattle.geolint_report.specs.ReadingLoop.{StopsBy}

-- a count of bytes that stops at the greatest `u64`, one read later
pub given_more : (begin here there offset count : ℕ) → there ≡ u64_saturate (here + count) → (here < 2 ^ 64 - 1 → here ≡ begin + offset)
    → there < 2 ^ 64 - 1 → there ≡ begin + (offset + count)
given_more begin here there offset count grown before below =
    elim (cases_lt (here + count) (2 ^ 64 - 1)) [
      | inl within ↦
          let grown_to : there ≡ here + count = grown ∙ min-eq_left (omega (arith, within)) in
          let so_far : here ≡ begin + offset = before (omega (arith, within)) in
          omega (arith, grown_to, so_far)
      | inr over ↦
          let stopped : there ≡ 2 ^ 64 - 1 = grown ∙ min-eq_right over in
          absurd (omega (arith, stopped, below))
    ]

-- a count of reads, one read later
pub one_read : (begin here there offset : ℕ) (read : List ℕ) → length read ≡ offset → there ≡ u64_saturate (here + 1) → here ≤ begin + offset
    → there ≤ begin + (length read + 1)
one_read begin here there offset read count grown before =
    elim (cases_lt (here + 1) (2 ^ 64 - 1)) [
      | inl within ↦
          let grown_to : there ≡ here + 1 = grown ∙ min-eq_left (omega (arith, within)) in
          omega (arith, grown_to, before, count)
      | inr over ↦
          let stopped : there ≡ 2 ^ 64 - 1 = grown ∙ min-eq_right over in
          omega (arith, stopped, over, before, count)
    ]

-- the last read gave these bytes, or none
pub stops : (ShowNone : Allowed → List ℕ → Type 0) (room : ℕ) (limits : Allowed) (old new : Option (List ℕ)) (before last : List ℕ) (reads now_read : ℕ)
    → Consumes old new (before ++ last)
    → (before ≡ []) ⊎ ShowNone limits before → now_read ≤ reads + (length before + 1) → length last ≤ room → StopsBy ShowNone room limits old new reads now_read
stops ShowNone room limits None new before last reads now_read took clean few short = (before, last, took, tt)
stops ShowNone room limits (Some all) None before last reads now_read took clean few short = absurd took
stops ShowNone room limits (Some all) (Some rest) before last reads now_read took clean few short = (before, last, took, (clean, few, short))
