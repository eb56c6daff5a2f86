-- A position whose latitude comes before its longitude, or whose numbers are no degrees.
use Rattle.std.specs.Prelude.{ℕ, ◌+◌, ◌-◌, ◌*◌, Bool, false, ◌||◌, ◌&&◌, List, [], ◌∷◌, length, take, drop, nat_eq, nat_le, nat_lt, codes, if◌then◌else◌}
use Rattle.std.specs.Char.{is_ascii_digit, is_ascii_whitespace}
use Rattle.std.specs.List.{prefix_len, list_all}
use Rattle.gj_hints.specs.Bytes.{is_before, until, without_white}

-- ---- a number of an array

-- up to the comma or the bracket after it
abbrev pub field : List ℕ → List ℕ
field bytes = until bytes (codes ",]")

abbrev pub behind_first : List ℕ → List ℕ
behind_first [] = []
behind_first (first ∷ more) = more

abbrev pub behind_field : List ℕ → List ℕ
behind_field bytes = behind_first (drop (prefix_len (is_before (codes ",]")) bytes) bytes)

-- digits, white space, `-` and `.`: no exponent
abbrev pub is_plain_byte : ℕ → Bool
is_plain_byte byte = is_ascii_digit byte || (is_ascii_whitespace byte || (nat_eq byte 45 || nat_eq byte 46))

abbrev pub is_plain : List ℕ → Bool
is_plain field = list_all is_plain_byte field

-- ---- its whole degrees

abbrev pub without_sign : List ℕ → List ℕ
without_sign [] = []
without_sign (first ∷ more) = if nat_eq first 45 then more else first ∷ more

abbrev pub value : ℕ → ℕ
value digit = digit - 48

-- what up to three digits say, and a number that is no degree for more or none
abbrev pub whole : List ℕ → ℕ
whole (ones ∷ []) = value ones
whole (tens ∷ ones ∷ []) = value tens * 10 + value ones
whole (hundreds ∷ tens ∷ ones ∷ []) = value hundreds * 100 + value tens * 10 + value ones
whole digits = 999

abbrev pub digits_of : List ℕ → List ℕ
digits_of bytes = take (prefix_len is_ascii_digit bytes) bytes

abbrev pub degrees : List ℕ → ℕ
degrees field = whole (digits_of (without_sign (without_white field)))

-- the first may be a latitude, and the second is none and may be a longitude
abbrev pub are_swapped : List ℕ → List ℕ → Bool
are_swapped first second =
    is_plain first && (is_plain second && (nat_lt (degrees first) 90 && (nat_le 90 (degrees second) && nat_lt (degrees second) 180)))

abbrev pub is_swapped : List ℕ → Bool
is_swapped [] = false
is_swapped (first ∷ numbers) = nat_eq first 91 && are_swapped (field numbers) (field (behind_field numbers))

-- it has more digits before its point than any degree
abbrev pub is_long : List ℕ → Bool
is_long field = is_plain field && nat_lt 3 (length (digits_of (without_sign (without_white field))))

abbrev pub are_metres : List ℕ → Bool
are_metres [] = false
are_metres (first ∷ numbers) = nat_eq first 91 && (is_long (field numbers) || is_long (field (behind_field numbers)))
