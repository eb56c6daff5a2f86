-- The bytes that a number is written with, and the classes of them that RFC 8259, section 6, names.
use Rattle.std.specs.Prelude.{◌≡◌, ℕ, ◌≤◌, ◌<◌, ◌⊎◌, Bool, ◌||◌, ◌==◌}

-- `-`
abbrev pub minus_sign : ℕ
minus_sign = 45

-- `+`
abbrev pub plus_sign : ℕ
plus_sign = 43

-- `.`
abbrev pub decimal_point : ℕ
decimal_point = 46

-- `e`
abbrev pub lower_e : ℕ
lower_e = 101

-- `E`
abbrev pub upper_e : ℕ
upper_e = 69

-- `0`
abbrev pub zero_digit : ℕ
zero_digit = 48

-- `9`
abbrev pub nine_digit : ℕ
nine_digit = 57

-- `,`
abbrev pub comma : ℕ
comma = 44

-- ` `
abbrev pub space : ℕ
space = 32

-- line feed
abbrev pub line_feed : ℕ
line_feed = 10

-- `[`
abbrev pub open_bracket : ℕ
open_bracket = 91

-- `]`
abbrev pub close_bracket : ℕ
close_bracket = 93

abbrev pub IsDigit : ℕ → Type 0
IsDigit b = (zero_digit ≤ b) × (b ≤ nine_digit)

-- a digit from 1 to 9
abbrev pub IsFirstDigit : ℕ → Type 0
IsFirstDigit b = (zero_digit < b) × (b ≤ nine_digit)

-- the letter before an exponent
abbrev pub IsExponentLetter : ℕ → Type 0
IsExponentLetter b = (b ≡ lower_e) ⊎ (b ≡ upper_e)

abbrev pub is_exponent_letter : ℕ → Bool
is_exponent_letter b = b == lower_e || b == upper_e

-- a byte that some number has
abbrev pub IsNumberByte : ℕ → Type 0
IsNumberByte b = IsDigit b ⊎ (b ≡ minus_sign) ⊎ (b ≡ plus_sign) ⊎ (b ≡ decimal_point) ⊎ IsExponentLetter b
