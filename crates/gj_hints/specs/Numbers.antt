-- Why a number is not read, by the bytes that begin with it.
use Rattle.std.specs.Prelude.{ℕ, Bool, ◌||◌, ◌&&◌, List, take, drop, codes, nat_eq, nat_le, if◌then◌else◌}
use Rattle.std.specs.Char.{is_ascii_digit}
use Rattle.std.specs.List.{prefix_len, list_any}
use Rattle.gj_hints.specs.declared.kind.Hint.{Hint}
use Rattle.gj_hints.specs.Bytes.{begins}

-- ---- its parts

abbrev pub is_in_mantissa : ℕ → Bool
is_in_mantissa byte = is_ascii_digit byte || (nat_eq byte 45 || nat_eq byte 46)

abbrev pub mantissa : List ℕ → List ℕ
mantissa bytes = take (prefix_len is_in_mantissa bytes) bytes

-- the exponent, and what stands after the number
abbrev pub exponent : List ℕ → List ℕ
exponent bytes = drop (prefix_len is_in_mantissa bytes) bytes

-- zeros, the sign and the point before the first digit of value
abbrev pub is_idle : ℕ → Bool
is_idle byte = nat_eq byte 48 || (nat_eq byte 45 || nat_eq byte 46)

abbrev pub significant : List ℕ → List ℕ
significant mantissa = drop (prefix_len is_idle mantissa) mantissa

-- ---- more than thirty digits

abbrev pub has_point : List ℕ → Bool
has_point digits = list_any (λ byte. nat_eq byte 46) digits

-- a digit other than 0
abbrev pub is_value : ℕ → Bool
is_value byte = nat_le 49 byte && nat_le byte 57

abbrev pub has_value : List ℕ → Bool
has_value digits = list_any is_value digits

-- what stands after thirty digits, among which there may be a point
abbrev pub behind_thirty : List ℕ → List ℕ
behind_thirty digits = if has_point (take 31 digits) then drop 31 digits else drop 30 digits

abbrev pub has_many_digits : List ℕ → Bool
has_many_digits digits = has_value (behind_thirty digits)

-- ---- a number near zero

abbrev pub has_exponent : List ℕ → Bool
has_exponent exponent = begins exponent (codes "e") || begins exponent (codes "E")

abbrev pub is_negative : List ℕ → Bool
is_negative exponent = begins exponent (codes "e-") || begins exponent (codes "E-")

-- the exponent is negative, or there is none and the number is below 1
abbrev pub is_small : List ℕ → List ℕ → Bool
is_small mantissa exponent =
    if has_exponent exponent then is_negative exponent
    else (begins mantissa (codes "0.") || begins mantissa (codes "-0."))

abbrev pub number_hint : List ℕ → Hint
number_hint bytes =
    if has_many_digits (significant (mantissa bytes)) then Hint.ManyDigits
    else (if is_small (mantissa bytes) (exponent bytes) then Hint.SmallNumber else Hint.LargeNumber)
