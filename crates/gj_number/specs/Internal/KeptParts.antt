-- What a literal's bounded parts keep of its digits and its exponent.
use Rattle.std.specs.Prelude.{◌≡◌, ◌≢◌, ℕ, ◌+◌, ◌*◌, ◌%◌, ◌^◌, ◌<◌, ◌≤◌, min, ◌⊎◌, nat_lt, nat_le, if◌then◌else◌, ◌&&◌, ℤ, unsigned_abs, Option, Some}
use Rattle.std.specs.Prelude.{None}
use Rattle.gj_number.specs.Exact.{power_limit, cut_limit}

-- the last of the kept digits, and 1 where there is none or too many have come
abbrev pub last_digit : ℕ → ℕ → ℕ
last_digit kept count = if nat_le 1 count && nat_le count 30 then kept % 10 else 1

-- With no exponent from -1,000 to 1,000 is such a number held, whatever digits follow: it has more than thirty digits,
-- or its last digit but zeros stands too far before the point or after it.
pub record IsFar (whole fraction : ℕ) : Type 0 where
  pub digits : ℕ
  pub tens : ℕ
  pub whole_is : whole ≡ digits * 10 ^ tens
  pub last : digits % 10 ≢ 0
  pub far : (10 ^ 30 ≤ digits) ⊎ (fraction + 1401 ≤ tens) ⊎ (tens + 1401 ≤ fraction)

-- no digit but zeros has come
pub record HasNoDigit (kept count pending places whole fraction : ℕ) : Type 0 where
  pub none : count ≡ 0
  pub nothing : kept ≡ 0
  pub no_pending : pending ≡ 0
  pub whole_is : whole ≡ 0
  pub places_is : places ≡ min fraction 1400

-- the digits up to the last that is no zero are kept, and where it stands
pub record HasDigits (kept count pending places whole fraction : ℕ) : Type 0 where
  pub some : 0 < count
  pub few : count ≤ 30
  pub least : 10 ^ count ≤ 10 * kept
  pub below : kept < 10 ^ count
  pub last : kept % 10 ≢ 0
  pub tens : ℕ
  pub whole_is : whole ≡ kept * 10 ^ tens
  pub behind : pending + fraction ≡ tens + places
  pub places_is : places ≡ min fraction 1400

-- what is kept of this number and this many digits after its point
abbrev pub IsKept : ℕ → ℕ → ℕ → ℕ → ℕ → ℕ → Type 0
IsKept kept count pending places whole fraction =
    HasNoDigit kept count pending places whole fraction
    ⊎ HasDigits kept count pending places whole fraction
    ⊎ ((count ≡ 31) × IsFar whole fraction)

-- A digit that is no zero is added after the pending zeros. Where that makes more than thirty digits, only so much is known.
pub record AddsOne (kept count pending digit kept' count' pending' : ℕ) : Type 0 where
  pub few : count + pending < 30 → count' ≡ count + pending + 1
  pub digits : count + pending < 30 → kept' ≡ kept * 10 ^ (pending + 1) + digit
  pub no_pending : count + pending < 30 → pending' ≡ 0
  pub far : 30 ≤ count + pending → count' ≡ 31

-- ---- limits

-- a power, where a held decimal may have it
abbrev pub limited_power : ℤ → Option ℤ
limited_power power = if nat_le (unsigned_abs power) power_limit then Some power else None

-- a cut number's magnitude, where it is below the limit
abbrev pub limited_cut : ℕ → Option ℕ
limited_cut magnitude = if nat_lt magnitude cut_limit then Some magnitude else None

-- as above, of a limit that it may reach
abbrev pub limited_to : ℕ → ℕ → Option ℕ
limited_to most magnitude = if nat_le magnitude most then Some magnitude else None
