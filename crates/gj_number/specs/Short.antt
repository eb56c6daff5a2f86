-- Ordinary numbers: which bytes are one, which decimal one is, and what it says of a piece that it starts with one.
use Rattle.std.specs.Prelude.{◌≡◌, ℕ, ◌+◌, ◌-◌, ◌<◌, ◌≤◌, ◌⊎◌, Bool, ◌==◌, if◌then◌else◌, pos, ◌-ℤ◌, Some, List, [], ◌++◌, length, take, drop, get_or}
use Rattle.gj_number.specs.Bytes.{comma, space, close_bracket, decimal_point, IsDigit, IsNumberByte}
use Rattle.gj_number.specs.Grammar.{IsNumber, IsNatural, IsFraction, BeginsNumber}
use Rattle.gj_number.specs.Exact.{Exact, zero_exact}
use Rattle.gj_number.specs.Value.{value_of, stripped, tens_in}
use Rattle.gj_number.specs.Denotation.{Denotes, SpellsSign, SpellsFraction}
use Rattle.gj_number.specs.declared.short.Short.{Short}

-- ---- the bytes

-- an ordinary number has at most so many digits
abbrev pub most_digits : ℕ
most_digits = 18

-- a number of at most `most_digits` digits, with no exponent
pub record IsOrdinary (literal : List ℕ) : Type 0 where
  pub negative : Bool
  pub sign : List ℕ
  pub natural : List ℕ
  pub fraction : List ℕ
  pub after_natural : List ℕ
  pub joined : literal ≡ sign ++ (natural ++ after_natural)
  pub spells_sign : SpellsSign negative sign
  pub spells_natural : IsNatural natural
  pub spells_fraction : SpellsFraction fraction after_natural
  pub few : length natural + length fraction ≤ most_digits

-- The piece starts with an ordinary number of n bytes, after which a byte stands that no number has.
pub record StartsOrdinary (piece : List ℕ) (n : ℕ) : Type 0 where
  pub within : n < length piece
  pub ordinary : IsOrdinary (take n piece)
  pub after : IsNumberByte (get_or piece n 0) → ⊥

-- As above, of a number with a point, with one to three digits before it and at most eleven after it, and of the byte
-- after the number.
pub record StartsUsual (piece : List ℕ) (n behind : ℕ) : Type 0 where
  pub number : StartsOrdinary piece n
  pub few : length number.ordinary.natural ≤ 3
  pub some_after : 0 < length number.ordinary.fraction
  pub few_after : length number.ordinary.fraction ≤ 11
  pub ends : get_or piece n 0 ≡ behind

-- The piece starts with two of them, with a comma between them, one space after it or none, and a closing bracket after
-- the second.
pub record StartsUsualPair (piece : List ℕ) : Type 0 where
  pub comma_at : ℕ
  pub second_at : ℕ
  pub length_other : ℕ
  pub one : StartsUsual piece comma_at comma
  pub between : (second_at ≡ comma_at + 1) ⊎ ((second_at ≡ comma_at + 2) × (get_or piece (comma_at + 1) 0 ≡ space))
  pub other : StartsUsual (drop second_at piece) length_other close_bracket

-- The piece starts with a number of n bytes that has no sign, up to its exponent: no digit stands after it, and no point
-- where it has none.
pub record StartsUnsigned (piece : List ℕ) (n : ℕ) : Type 0 where
  pub within : n < length piece
  pub natural : List ℕ
  pub fraction : List ℕ
  pub joined : take n piece ≡ natural ++ fraction
  pub is_natural : IsNatural natural
  pub is_fraction : IsFraction fraction
  pub no_digit : IsDigit (get_or piece n 0) → ⊥
  pub no_point : fraction ≡ [] → get_or piece n 0 ≡ decimal_point → ⊥

-- ---- the decimal

-- the decimal of at most eighteen digits, of which so many stand after the point
unfoldable pub short_value : Bool → ℕ → ℕ → Exact
short_value negative digits places =
    if digits == 0 then zero_exact else record { negative = negative; digits = stripped 18 digits; power = pos (tens_in 18 digits) -ℤ pos places }

abbrev pub exact_of : Short → Exact
exact_of short = short_value short.negative short.digits short.places

-- The first n bytes of the piece are a number that denotes this decimal, and the byte after them, which the piece has,
-- goes on in none.
pub record StartsWithNumber (piece : List ℕ) (e : Exact) (n : ℕ) : Type 0 where
  pub within : n < length piece
  pub number : IsNumber (take n piece)
  pub denotes : Denotes (take n piece) e
  pub value : value_of (take n piece) ≡ Some e
  pub ends : BeginsNumber (take (n + 1) piece) → ⊥

-- The first n bytes of the piece are a number, and the byte after them, which the piece has, goes on in none.
pub record IsWhole (piece : List ℕ) (n : ℕ) : Type 0 where
  pub within : n < length piece
  pub number : IsNumber (take n piece)
  pub ends : BeginsNumber (take (n + 1) piece) → ⊥

-- The piece starts with two numbers that denote these decimals: a comma after the first, with one space after it or none,
-- and a closing bracket after the second, at these indices.
pub record StartsWithPair (piece : List ℕ) (first second : Exact) (comma_at second_at end : ℕ) : Type 0 where
  pub one : StartsWithNumber piece first comma_at
  pub comma : get_or piece comma_at 0 ≡ comma
  pub between : (second_at ≡ comma_at + 1) ⊎ ((second_at ≡ comma_at + 2) × (get_or piece (comma_at + 1) 0 ≡ space))
  pub ordered : second_at ≤ end
  pub other : StartsWithNumber (drop second_at piece) second (end - second_at)
  pub closing : get_or piece end 0 ≡ close_bracket
