-- Ordinary numbers as their cut values: where their digits stand, and which value they have.
use Rattle.std.specs.Prelude.{◌≡◌, ℕ, ◌+◌, ◌-◌, ◌<◌, ◌≤◌, ◌⊎◌, ◌↔◌, IsTrue, Some, List, length, get_or, take, drop}
use Rattle.std.specs.List.{All}
use Rattle.gj_number.specs.Bytes.{IsDigit, decimal_point, zero_digit}
use Rattle.gj_number.specs.Exact.{cut_of, cut_places, places_of}
use Rattle.gj_number.specs.Internal.DigitRuns.{IsRun}
use Rattle.gj_number.specs.Short.{exact_of, StartsWithNumber}
use Rattle.gj_number.specs.declared.short.Short.{Short}
use Rattle.gj_number.specs.declared.short.cuts.Cut.{Cut}
use Rattle.gj_number.specs.declared.short.cuts.Span.{Span}

-- the cut value of an ordinary number, and whether it is too precise
pub record IsCut (short : Short) (cut : Cut) : Type 0 where
  pub value : cut_of (exact_of short) ≡ Some cut.value
  pub precise : IsTrue cut.precise ↔ (cut_places < places_of (exact_of short))

-- An ordinary number stands in a piece from an index to another, and has this cut value.
pub record HasCut (piece : List ℕ) (at end : ℕ) (cut : Cut) : Type 0 where
  pub short : Short
  pub starts : StartsWithNumber (drop at piece) (exact_of short) (end - at)
  pub is : IsCut short cut

-- The digits of a number stand in a piece from an index on: one to three, where a zero is alone, and then none or a point and up to
-- fifteen. The piece has 32 bytes from there on.
pub record IsSpan (piece : List ℕ) (span : Span) : Type 0 where
  pub some : 0 < span.natural
  pub few : span.natural ≤ 3
  pub few_after : span.fraction ≤ 15
  pub natural_digits : All IsDigit (take span.natural (drop span.first piece))
  pub fraction_digits : All IsDigit (take span.fraction (drop (span.natural + 1) (drop span.first piece)))
  pub one : get_or piece span.first 0 ≡ zero_digit → span.natural ≡ 1
  pub shape : ((span.fraction ≡ 0) × (span.end ≡ span.first + span.natural))
      ⊎ ((0 < span.fraction) × (get_or piece (span.first + span.natural) 0 ≡ decimal_point) × (span.end ≡ span.first + span.natural + 1 + span.fraction))
  pub room : span.first + 32 ≤ length piece

-- So many digits stand at the start of a piece, and after a point that follows so many more.
pub record StartsWithDigits (piece : List ℕ) (natural fraction : ℕ) : Type 0 where
  pub digits : IsRun piece natural
  pub one : get_or piece 0 0 ≡ zero_digit → natural ≡ 1
  pub more : get_or piece natural 0 ≡ decimal_point → IsRun (drop (natural + 1) piece) fraction × (0 < fraction)
