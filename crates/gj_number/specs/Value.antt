-- Which decimal a number denotes, where it is held, as a function of its bytes.
use Rattle.std.specs.Prelude.{zero, suc, ◌-◌, ◌+◌, ◌*◌, ◌/◌, ◌%◌, ℕ, Bool, false, ◌&&◌, ◌||◌, ◌==◌, nat_lt, nat_le, if◌then◌else◌, ℤ, pos, ◌+ℤ◌, ◌-ℤ◌}
use Rattle.std.specs.Prelude.{unsigned_abs, Option, Some, None, List, [], ◌∷◌, ◌++◌, length}
use Rattle.std.specs.List.{fold, before_first, after_first}
use Rattle.gj_number.specs.Bytes.{minus_sign, plus_sign, decimal_point, zero_digit, is_exponent_letter}
use Rattle.gj_number.specs.Exact.{Exact, zero_exact, signed, digits_limit, power_limit}

-- one digit more
abbrev pub with_digit : ℕ → ℕ → ℕ
with_digit n b = n * 10 + (b - zero_digit)

-- the natural number that digits spell
abbrev pub number_of : List ℕ → ℕ
number_of digits = fold with_digit 0 digits

abbrev pub is_negative : List ℕ → Bool
is_negative [] = false
is_negative (b ∷ bytes) = b == minus_sign

-- the bytes of a number, or of an exponent, without the sign
abbrev pub unsigned_of : List ℕ → List ℕ
unsigned_of [] = []
unsigned_of (b ∷ bytes) = if b == minus_sign || b == plus_sign then bytes else b ∷ bytes

-- the bytes before the exponent's letter, without the sign
abbrev pub significand_of : List ℕ → List ℕ
significand_of literal = before_first is_exponent_letter (unsigned_of literal)

abbrev pub natural_of : List ℕ → List ℕ
natural_of literal = before_first (λ b. b == decimal_point) (significand_of literal)

abbrev pub fraction_of : List ℕ → List ℕ
fraction_of literal = after_first (λ b. b == decimal_point) (significand_of literal)

-- the number that the bytes after an exponent's letter spell
abbrev pub signed_number : List ℕ → ℤ
signed_number bytes = signed (is_negative bytes) (number_of (unsigned_of bytes))

abbrev pub exponent_of : List ℕ → ℤ
exponent_of literal = signed_number (after_first is_exponent_letter (unsigned_of literal))

-- n without its factors of ten, of which it has at most as many as the first number says
abbrev pub stripped : ℕ → ℕ → ℕ
stripped zero n = n
stripped (suc most) n = if n % 10 == 0 then stripped most (n / 10) else n

-- how many factors of ten that takes away
abbrev pub tens_in : ℕ → ℕ → ℕ
tens_in zero n = 0
tens_in (suc most) n = if n % 10 == 0 then suc (tens_in most (n / 10)) else 0

-- the largest magnitude of a held number's written exponent
abbrev pub exponent_limit : ℕ
exponent_limit = 1000

-- the decimal, where it is within the limits of a held number with this written exponent
unfoldable pub within_limits : ℤ → Exact → Option Exact
within_limits written e =
    if nat_lt e.digits digits_limit && nat_le (unsigned_abs e.power) power_limit && nat_le (unsigned_abs written) exponent_limit then Some e else None

-- the held decimal of a sign, the number that at most so many digits spell, the digits after the point and the exponent
unfoldable pub held_value : Bool → ℕ → ℕ → ℕ → ℤ → Option Exact
held_value negative digits whole places written =
    if whole == 0 then Some zero_exact else
    within_limits written (record { negative = negative; digits = stripped digits whole; power = written -ℤ pos places +ℤ pos (tens_in digits whole) })

-- the decimal that a number denotes, where it is held
unfoldable pub value_of : List ℕ → Option Exact
value_of literal =
    let digits = natural_of literal ++ fraction_of literal in
    held_value (is_negative literal) (length digits) (number_of digits) (length (fraction_of literal)) (exponent_of literal)
