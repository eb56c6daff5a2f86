-- A decimal as an exact number, when two are the same number, and what is read off one.
use Rattle.std.specs.Prelude.{◌≡◌, ◌≢◌, ℕ, suc, ◌*◌, ◌/◌, ◌%◌, ◌^◌, ◌<◌, ◌≤◌, ◌⊎◌, Bool, true, false, ◌==◌, ◌&&◌, nat_lt, if◌then◌else◌, ℤ, pos, negsuc, ◌+ℤ◌}
use Rattle.std.specs.Prelude.{neg_ℤ, int_le, unsigned_abs, Option, Some, None, refl}
use Rattle.std.specs.Bool.{beq}
use Rattle.std.specs.Ordering.{int_eq, on, eq_of_both}
use Rattle.std.specs.Coded.{Coded, code_by, coded×, coded_bool, coded_ℕ, coded_ℤ}

-- the digits times ten to the power, below zero where it is negative
pub record Exact : Type 0 where
  pub negative : Bool
  pub digits : ℕ
  pub power : ℤ

-- a decimal is stored as its three fields
abbrev pub exact_code : Coded Exact
exact_code =
    code_by (Bool × (ℕ × ℤ)) (coded× coded_bool (coded× coded_ℕ coded_ℤ)) (λ e. (e.negative, (e.digits, e.power)))
    (λ p. record { negative = p.0; digits = p.1.0; power = p.1.1 }) (λ _. refl)

-- the one form of zero
abbrev pub zero_exact : Exact
zero_exact = record { negative = false; digits = 0; power = pos 0 }

-- zero in its one form, or digits that ten does not divide
abbrev pub IsNormal : Exact → Type 0
IsNormal e = (e ≡ zero_exact) ⊎ (e.digits % 10 ≢ 0)

-- the digits of a held decimal are below this
abbrev pub digits_limit : ℕ
digits_limit = 10 ^ 30

-- the largest magnitude of a held decimal's power
abbrev pub power_limit : ℕ
power_limit = 400

-- what each held decimal is
pub record IsWithinLimits (e : Exact) : Type 0 where
  pub zero_is : e.digits ≡ 0 → e ≡ zero_exact
  pub stripped : 0 < e.digits → e.digits % 10 ≢ 0
  pub digits : e.digits < digits_limit
  pub power : unsigned_abs e.power ≤ power_limit

-- both have the same three parts
abbrev pub same_parts : Exact → Exact → Bool
same_parts = eq_of_both (on (λ e. e.negative) beq) (eq_of_both (on (λ e. e.digits) ◌==◌) (on (λ e. e.power) int_eq))

-- ---- the number

-- n, or minus n
abbrev pub signed : Bool → ℕ → ℤ
signed false n = pos n
signed true n = neg_ℤ (pos n)

-- Both numbers are whole multiples of ten to the power `least`, and the same multiple.
pub record SameValue (a b : Exact) : Type 0 where
  pub least : ℤ
  pub above_a : ℕ
  pub above_b : ℕ
  pub power_a : a.power ≡ least +ℤ pos above_a
  pub power_b : b.power ≡ least +ℤ pos above_b
  pub same : signed a.negative (a.digits * 10 ^ above_a) ≡ signed b.negative (b.digits * 10 ^ above_b)

-- ---- places and cut

-- how far a whole number lies above zero
abbrev pub above_zero : ℤ → ℕ
above_zero (pos n) = n
above_zero (negsuc n) = 0

-- how far a whole number lies below zero
abbrev pub below_zero : ℤ → ℕ
below_zero (pos n) = 0
below_zero (negsuc n) = suc n

-- how many digits stand after the point where no zero is written at the end
abbrev pub places_of : Exact → ℕ
places_of e = below_zero e.power

-- a cut number has this many places
abbrev pub cut_places : ℕ
cut_places = 7

-- a cut number is below this
abbrev pub cut_limit : ℕ
cut_limit = 10 ^ 17

-- the magnitude times ten to the `cut_places`, without its fraction
abbrev pub cut_magnitude : Exact → ℕ
cut_magnitude e =
    e.digits * 10 ^ above_zero (e.power +ℤ pos cut_places) / 10 ^ below_zero (e.power +ℤ pos cut_places)

-- the value times ten to the `cut_places`, cut toward zero, where that is below the limit
abbrev pub cut_of : Exact → Option ℤ
cut_of e = if nat_lt (cut_magnitude e) cut_limit then Some (signed e.negative (cut_magnitude e)) else None

-- a cut number, where there is one and it is at most so far from zero
abbrev pub cut_within : ℕ → Option ℤ → Option ℤ
cut_within most (Some cut) = if int_le (neg_ℤ (pos most)) cut && int_le cut (pos most) then Some cut else None
cut_within most None = None
