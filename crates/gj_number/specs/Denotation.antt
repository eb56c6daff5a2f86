-- Which decimal a number denotes, and where it is held: the relation that the function of `Value` is proved to decide.
use Rattle.std.specs.Prelude.{◌≡◌, ◌≢◌, ℕ, ◌*◌, ◌%◌, ◌^◌, ◌≤◌, ◌<◌, ◌⊎◌, Bool, true, false, ℤ, pos, ◌+ℤ◌, ◌-ℤ◌, unsigned_abs, List, [], ◌∷◌, ◌++◌, length}
use Rattle.gj_number.specs.Bytes.{minus_sign, plus_sign, decimal_point, IsExponentLetter}
use Rattle.gj_number.specs.Grammar.{IsNatural, IsDigits}
use Rattle.gj_number.specs.Exact.{Exact, zero_exact, signed, digits_limit, power_limit}
use Rattle.gj_number.specs.Value.{number_of, exponent_limit}

-- what a literal is made of: its sign, the digits before and after its point, and its exponent, 0 where none is written
pub record Parts : Type 0 where
  pub negative : Bool
  pub natural : List ℕ
  pub fraction : List ℕ
  pub exponent : ℤ

abbrev pub SpellsSign : Bool → List ℕ → Type 0
SpellsSign false bytes = bytes ≡ []
SpellsSign true bytes = bytes ≡ minus_sign ∷ []

abbrev pub SpellsFraction : List ℕ → List ℕ → Type 0
SpellsFraction digits bytes = ((bytes ≡ []) × (digits ≡ [])) ⊎ ((bytes ≡ decimal_point ∷ digits) × IsDigits digits)

-- the sign of an exponent, which is below zero after a minus
abbrev pub SpellsExponentSign : Bool → List ℕ → Type 0
SpellsExponentSign false bytes = (bytes ≡ []) ⊎ (bytes ≡ plus_sign ∷ [])
SpellsExponentSign true bytes = bytes ≡ minus_sign ∷ []

abbrev pub SpellsExponent : ℤ → List ℕ → Type 0
SpellsExponent exponent bytes =
    ((bytes ≡ []) × (exponent ≡ pos 0))
    ⊎ ((letter : ℕ) × (sign : List ℕ) × (digits : List ℕ) × (negative : Bool)
    × (bytes ≡ letter ∷ (sign ++ digits)) × IsExponentLetter letter × SpellsExponentSign negative sign × IsDigits digits
    × (exponent ≡ signed negative (number_of digits)))

-- the literal is made of these parts
pub record Spells (parts : Parts) (literal : List ℕ) : Type 0 where
  pub sign : List ℕ
  pub behind_point : List ℕ
  pub behind_digits : List ℕ
  pub joined : literal ≡ sign ++ (parts.natural ++ (behind_point ++ behind_digits))
  pub spells_sign : SpellsSign parts.negative sign
  pub spells_natural : IsNatural parts.natural
  pub spells_fraction : SpellsFraction parts.fraction behind_point
  pub spells_exponent : SpellsExponent parts.exponent behind_digits

-- the number that all digits of a literal spell, without its point
abbrev pub whole_of : Parts → ℕ
whole_of parts = number_of (parts.natural ++ parts.fraction)

-- the power of ten that this number is to be multiplied by
abbrev pub scale_of : Parts → ℤ
scale_of parts = parts.exponent -ℤ pos (length parts.fraction)

-- Zero has one form. Any other number keeps its sign and gives up its factors of ten to the power.
abbrev pub IsDecimalOf : Exact → Parts → Type 0
IsDecimalOf e parts =
    ((whole_of parts ≡ 0) × (e ≡ zero_exact))
    ⊎ ((tens : ℕ) × (e.negative ≡ parts.negative) × (e.digits % 10 ≢ 0)
    × (whole_of parts ≡ e.digits * 10 ^ tens) × (e.power ≡ scale_of parts +ℤ pos tens))

-- the literal denotes this decimal
abbrev pub Denotes : List ℕ → Exact → Type 0
Denotes literal e = (parts : Parts) × Spells parts literal × IsDecimalOf e parts

-- ---- held

-- The literal, which denotes this decimal, is held: it is zero, or each of its three numbers is within its limit.
abbrev pub IsHeld : List ℕ → Exact → Type 0
IsHeld literal e =
    (e.digits ≡ 0)
    ⊎ ((parts : Parts) × Spells parts literal
    × (e.digits < digits_limit) × (unsigned_abs e.power ≤ power_limit) × (unsigned_abs parts.exponent ≤ exponent_limit))
