-- A number up to its exponent, and where the exponent moves its point.
use Rattle.std.specs.Prelude.{◌≡◌, ℕ, ◌*◌, ◌^◌, Bool, ℤ, pos, ◌-ℤ◌, List, ◌++◌, length, take}
use Rattle.gj_number.specs.Grammar.{IsNatural}
use Rattle.gj_number.specs.Value.{number_of}
use Rattle.gj_number.specs.Denotation.{SpellsSign, SpellsFraction}
use Rattle.gj_number.specs.declared.short.Short.{Short}

-- The first `count` bytes of the piece are a number with no exponent: all its digits spell `digits`, and so many of them
-- stand after the point.
pub record SpellsPlain (piece : List ℕ) (negative : Bool) (digits places count : ℕ) : Type 0 where
  pub sign : List ℕ
  pub natural : List ℕ
  pub fraction : List ℕ
  pub after_natural : List ℕ
  pub joined : take count piece ≡ sign ++ (natural ++ after_natural)
  pub spells_sign : SpellsSign negative sign
  pub spells_natural : IsNatural natural
  pub spells_fraction : SpellsFraction fraction after_natural
  pub digits_is : digits ≡ number_of (natural ++ fraction)
  pub places_is : places ≡ length fraction

-- one number is the other times ten to this power
pub record IsMoved (old new : Short) (exponent : ℤ) : Type 0 where
  pub up : ℕ
  pub sign : new.negative ≡ old.negative
  pub digits : new.digits ≡ old.digits * 10 ^ up
  pub power : exponent -ℤ pos old.places ≡ pos up -ℤ pos new.places
