-- Where a decimal is within the limits of a held one, and where the kept digits are.
use Rattle.gj_number.proofs.Common.{Bool, Exact, HasDigits, IsFar, None, Some, ap, arith, false, if◌then◌else◌, inl, inr, ints, nat_tests}
use Rattle.gj_number.proofs.Common.{pow-le-pow_right, refl, true, unsigned_abs, ℕ, ℤ, ◌+ℤ◌, ◌+◌, ◌-ℤ◌, ◌<◌, ◌^◌, ◌∙◌, ◌≡◌, ◌≤◌, ◌⊎◌}
use Rattle.std.proofs.Common.{◌&&◌, nat_lt, nat_le}
use Rattle.std.proofs.Common.{pos}
use Rattle.gj_number.specs.Exact.{digits_limit, power_limit}
use Rattle.gj_number.specs.Value.{exponent_limit, within_limits, held_value}
use Rattle.gj_number.proofs.Value.NormalForm.{held_value-normal}

pub record IsWithin (exponent : ℤ) (e : Exact) : Type 0 where
  pub digits : e.digits < digits_limit
  pub power : unsigned_abs e.power ≤ power_limit
  pub written : unsigned_abs exponent ≤ exponent_limit

-- the test, and what each answer says
pub within : (exponent : ℤ) (e : Exact) → (IsWithin exponent e × (within_limits exponent e ≡ Some e))
    ⊎ ((¬ IsWithin exponent e) × (within_limits exponent e ≡ None))
unfolding within_limits
within exponent e = go (nat_lt e.digits digits_limit && nat_le (unsigned_abs e.power) power_limit && nat_le (unsigned_abs exponent) exponent_limit) refl
  where
    go : (t : Bool) → (nat_lt e.digits digits_limit && nat_le (unsigned_abs e.power) power_limit && nat_le (unsigned_abs exponent) exponent_limit) ≡ t
        → (IsWithin exponent e × ((if t then Some e else None) ≡ Some e)) ⊎ ((¬ IsWithin exponent e) × ((if t then Some e else None) ≡ None))
    go true f = inl (record { digits = grind (arith, nat_tests); power = grind (arith, nat_tests); written = grind (arith, nat_tests) }, refl)
    go false f = inr ((λ w. (let a = w.digits in let b = w.power in let c = w.written in grind (arith, nat_tests))), refl)

pub within_some : (exponent : ℤ) (e : Exact) → IsWithin exponent e → within_limits exponent e ≡ Some e
within_some exponent e h = elim (within exponent e) [ inl w ↦ w.1 | inr w ↦ absurd (w.0 h) ]

pub within_none : (exponent : ℤ) (e : Exact) → ¬ IsWithin exponent e → within_limits exponent e ≡ None
within_none exponent e h = elim (within exponent e) [ inl w ↦ absurd (h w.0) | inr w ↦ w.1 ]

-- ---- what is kept

-- the decimal of kept digits
abbrev pub exact_of : Bool → ℕ → ℤ → Exact
exact_of negative digits power = record { negative = negative; digits = digits; power = power }

pub few_digits : (kept count : ℕ) → kept < 10 ^ count → count ≤ 30 → kept < digits_limit
few_digits kept count h k = let l : 10 ^ count ≤ 10 ^ 30 = pow-le-pow_right {n = 10} (omega arith) k in omega arith

-- the power of the last kept digit
power_is : (exponent : ℤ) (pending places fraction tens : ℕ) → pending + fraction ≡ tens + places
    → exponent -ℤ pos fraction +ℤ pos tens ≡ exponent -ℤ pos places +ℤ pos pending
power_is exponent pending places fraction tens e = omega (arith, ints)

too_high : (exponent : ℤ) (fraction tens : ℕ) → unsigned_abs exponent ≤ 1000 → fraction + 1401 ≤ tens → (power : ℤ)
    → power ≡ exponent -ℤ pos fraction +ℤ pos tens → unsigned_abs power ≤ 400 → ⊥
too_high (pos x) fraction tens h far (pos p) e k = omega (arith, ints)
too_high other fraction tens h far another e k = omega (arith, ints)

too_low : (exponent : ℤ) (fraction tens : ℕ) → unsigned_abs exponent ≤ 1000 → tens + 1401 ≤ fraction → (power : ℤ)
    → power ≡ exponent -ℤ pos fraction +ℤ pos tens → unsigned_abs power ≤ 400 → ⊥
too_low (pos x) fraction tens h far (pos p) e k = omega (arith, ints)
too_low other fraction tens h far another e k = omega (arith, ints)

module _ (negative : Bool) (most kept count pending places whole fraction : ℕ) (exponent : ℤ) (small : whole < 10 ^ most) where
  value_is : HasDigits kept count pending places whole fraction
      → held_value negative most whole fraction exponent ≡ within_limits exponent (exact_of negative kept (exponent -ℤ pos places +ℤ pos pending))
  value_is d =
      held_value-normal negative most whole fraction exponent kept d.tens small d.last d.whole_is
      ∙ ap (λ p. within_limits exponent (exact_of negative kept p)) (power_is exponent pending places fraction d.tens d.behind)

  pub held_some : HasDigits kept count pending places whole fraction → unsigned_abs exponent ≤ exponent_limit
      → unsigned_abs (exponent -ℤ pos places +ℤ pos pending) ≤ power_limit
      → held_value negative most whole fraction exponent ≡ Some (exact_of negative kept (exponent -ℤ pos places +ℤ pos pending))
  held_some d written power = value_is d ∙ within_some exponent _ (record { digits = few_digits kept count d.below d.few; power = power; written = written })

  pub held_no_power : HasDigits kept count pending places whole fraction → power_limit < unsigned_abs (exponent -ℤ pos places +ℤ pos pending)
      → held_value negative most whole fraction exponent ≡ None
  held_no_power d power = value_is d ∙ within_none exponent _ (λ w. let p = w.power in omega arith)

  pub held_no_exponent : HasDigits kept count pending places whole fraction → exponent_limit < unsigned_abs exponent
      → held_value negative most whole fraction exponent ≡ None
  held_no_exponent d written = value_is d ∙ within_none exponent _ (λ w. let p = w.written in omega arith)

  pub held_not_far : IsFar whole fraction → held_value negative most whole fraction exponent ≡ None
  held_not_far f =
      held_value-normal negative most whole fraction exponent f.digits f.tens small f.last f.whole_is
      ∙ within_none exponent _ (λ w. elim f.far [
        | inl many ↦ (let p = w.digits in omega arith)
        | inr k ↦ elim k [
          | inl high ↦ too_high exponent fraction f.tens w.written high _ refl w.power
          | inr low ↦ too_low exponent fraction f.tens w.written low _ refl w.power
        ]
      ])
