-- Digits that a piece starts with.
use Rattle.std.specs.Prelude.{◌≡◌, ℕ, ◌+◌, ◌<◌, ◌≤◌, ◌⊎◌, Bool, ◌==◌, List, ◌++◌, length, take, drop, get_or}
use Rattle.std.specs.List.{All, fold}
use Rattle.gj_number.specs.Bytes.{minus_sign, decimal_point, IsDigit}
use Rattle.gj_number.specs.Value.{with_digit, number_of}

-- the piece starts with so many digits, after which a byte stands that is none
pub record IsRun (piece : List ℕ) (count : ℕ) : Type 0 where
  pub within : count < length piece
  pub digits : All IsDigit (take count piece)
  pub ends : IsDigit (get_or piece count 0) → ⊥

-- the first `count` bytes of the piece are digits, and after those of `before` they spell the value
pub record SpellsOn (piece : List ℕ) (before count value : ℕ) : Type 0 where
  pub within : count ≤ length piece
  pub digits : All IsDigit (take count piece)
  pub value_is : value ≡ fold with_digit before (take count piece)

-- So many digits of so many bytes stand before a point and after it, or no point is there; all of them spell the value.
pub record SpellsUnsigned (piece : List ℕ) (natural fraction bytes value : ℕ) : Type 0 where
  pub natural_digits : All IsDigit (take natural piece)
  pub fraction_digits : All IsDigit (take fraction (drop (natural + 1) piece))
  pub value_is : value ≡ number_of (take natural piece ++ take fraction (drop (natural + 1) piece))
  pub shape : ((fraction ≡ 0) × (bytes ≡ natural)) ⊎ ((0 < fraction) × (get_or piece natural 0 ≡ decimal_point) × (bytes ≡ natural + 1 + fraction))

-- the piece starts with a minus, or with another byte
abbrev pub StartsSigned : List ℕ → Bool → Type 0
StartsSigned piece negative = (get_or piece 0 0 == minus_sign) ≡ negative

-- the piece starts with one to three digits, a point and so many digits after it, after which a byte stands that is none
pub record IsPointed (piece : List ℕ) (natural fraction : ℕ) : Type 0 where
  pub digits : IsRun piece natural
  pub some : 0 < natural
  pub few : natural ≤ 3
  pub point : get_or piece natural 0 ≡ decimal_point
  pub more : IsRun (drop (natural + 1) piece) fraction
  pub some_more : 0 < fraction
  pub fits : natural + 1 + fraction < 16
