-- Which bytes are a number: the grammar of RFC 8259, section 6.
use Rattle.std.specs.Prelude.{◌≡◌, ℕ, ◌⊎◌, List, [], ◌∷◌, ◌++◌}
use Rattle.std.specs.List.{AllByRecursion}
use Rattle.gj_number.specs.Bytes.{minus_sign, plus_sign, decimal_point, zero_digit, IsDigit, IsFirstDigit, IsExponentLetter}

-- 0, or digits of which the first is none
abbrev pub IsNatural : List ℕ → Type 0
IsNatural [] = ⊥
IsNatural (b ∷ bytes) = ((b ≡ zero_digit) × (bytes ≡ [])) ⊎ (IsFirstDigit b × AllByRecursion IsDigit bytes)

-- one digit or more
abbrev pub IsDigits : List ℕ → Type 0
IsDigits [] = ⊥
IsDigits (b ∷ bytes) = IsDigit b × AllByRecursion IsDigit bytes

abbrev pub IsFraction : List ℕ → Type 0
IsFraction bytes = (bytes ≡ []) ⊎ ((digits : List ℕ) × (bytes ≡ decimal_point ∷ digits) × IsDigits digits)

-- the sign of an exponent, or none
abbrev pub IsSign : List ℕ → Type 0
IsSign bytes = (bytes ≡ []) ⊎ (bytes ≡ plus_sign ∷ []) ⊎ (bytes ≡ minus_sign ∷ [])

abbrev pub IsExponent : List ℕ → Type 0
IsExponent bytes =
    (bytes ≡ [])
    ⊎ ((letter : ℕ) × (sign : List ℕ) × (digits : List ℕ)
    × (bytes ≡ letter ∷ (sign ++ digits)) × IsExponentLetter letter × IsSign sign × IsDigits digits)

-- a number without its sign
abbrev pub IsUnsigned : List ℕ → Type 0
IsUnsigned bytes =
    (natural : List ℕ) × (fraction : List ℕ) × (exponent : List ℕ)
    × (bytes ≡ natural ++ (fraction ++ exponent)) × IsNatural natural × IsFraction fraction × IsExponent exponent

abbrev pub IsNumber : List ℕ → Type 0
IsNumber bytes = IsUnsigned bytes ⊎ ((unsigned : List ℕ) × (bytes ≡ minus_sign ∷ unsigned) × IsUnsigned unsigned)

-- some bytes more make it a number
abbrev pub BeginsNumber : List ℕ → Type 0
BeginsNumber bytes = (rest : List ℕ) × IsNumber (bytes ++ rest)
