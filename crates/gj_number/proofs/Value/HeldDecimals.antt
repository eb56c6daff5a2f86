-- The decimal of the kept digits is that of the whole number.
use Rattle.gj_number.proofs.Common.{Bool, HasDigits, IsKept, None, Some, arith, inl, inr, min, signed, subst, sym, unsigned_abs, zero_exact, ℕ, ℤ}
use Rattle.gj_number.proofs.Common.{◌%◌, ◌+ℤ◌, ◌-ℤ◌, ◌<◌, ◌^◌, ◌≡◌, ◌≢◌, ◌≤◌, ◌⊎◌}
use Rattle.std.proofs.Common.{pos}
use Rattle.std.proofs.lemmas.Bool.Decides.{leb_tells}
use Rattle.gj_number.specs.Exact.{IsWithinLimits, power_limit}
use Rattle.gj_number.specs.Value.{held_value}
use Rattle.gj_number.specs.Internal.KeptParts.{limited_power}
use Rattle.gj_number.proofs.Value.NormalForm.{held_value-zero}
use Rattle.gj_number.proofs.Value.SameDecimals.{unsigned_abs-signed}
use Rattle.gj_number.proofs.Value.HeldLimits.{held_some, held_no_power, held_no_exponent, held_not_far, few_digits, exact_of}

-- what a power that is within the limit is, and one that is not
limited : (z p : ℤ) → limited_power z ≡ Some p → (z ≡ p) × (unsigned_abs z ≤ power_limit)
limited z p e = elim (leb_tells (unsigned_abs z) power_limit) [
  | inl h ↦ (let f : Some z ≡ Some p = rw h.0 at e in (cc, h.1))
  | inr h ↦ (let f : None ≡ Some p = rw h.0 at e in cc)
]

unlimited : (z : ℤ) → limited_power z ≡ None → power_limit < unsigned_abs z
unlimited z e = elim (leb_tells (unsigned_abs z) power_limit) [
  | inl h ↦ (let f : Some z ≡ None = rw h.0 at e in cc)
  | inr h ↦ h.1
]

has_digits : (kept count pending places whole fraction : ℕ) → count ≢ 0 → count ≤ 30 → IsKept kept count pending places whole fraction
    → HasDigits kept count pending places whole fraction
has_digits kept count pending places whole fraction some few h = elim h [
  | inl n ↦ absurd (some n.none)
  | inr o ↦ elim o [ inl d ↦ d | inr l ↦ absurd (let e = l.0 in omega arith) ]
]

-- the invariant of the decimal that is made
pub decimal_limits : (negative minus : Bool) (kept count pending places magnitude : ℕ) (power : ℤ) → count ≤ 30 → kept < 10 ^ count → 0 < kept % 10
    → limited_power (signed minus magnitude -ℤ pos places +ℤ pos pending) ≡ Some power → IsWithinLimits (exact_of negative kept power)
decimal_limits negative minus kept count pending places magnitude power few below last e =
    let p = limited (signed minus magnitude -ℤ pos places +ℤ pos pending) power e in
    record {
      zero_is = (λ z. absurd (let l = rw z at last in omega arith));
      stripped = (λ _ z. absurd (let l = rw z at last in omega arith));
      digits = few_digits kept count below few;
      power = (let P : ℤ → Type 0 = λ z. unsigned_abs z ≤ power_limit in subst P p.0 p.1);
    }

module _ (negative minus : Bool) (kept count pending places whole fraction magnitude : ℕ) (old : IsKept kept count pending places whole fraction) where
  module _ (most written : ℕ) (small : whole < 10 ^ most) (magnitude_is : magnitude ≡ min written 1001) where
    pub zero_held : count ≡ 0 → Some zero_exact ≡ held_value negative most whole fraction (signed minus written)
    zero_held none = elim old [
      | inl n ↦ sym (held_value-zero negative most whole fraction (signed minus written) n.whole_is)
      | inr o ↦ elim o [ inl d ↦ absurd (let e = d.some in omega arith) | inr l ↦ absurd (let e = l.0 in omega arith) ]
    ]

    pub far_not_held : count ≢ 0 → (30 < count) ⊎ (1000 < magnitude) → None ≡ held_value negative most whole fraction (signed minus written)
    far_not_held some far = sym (elim old [
      | inl n ↦ absurd (some n.none)
      | inr o ↦ elim o [
        | inl d ↦ held_no_exponent negative most kept count pending places whole fraction (signed minus written) small d
            (rw (unsigned_abs-signed minus written) (large d))
        | inr l ↦ held_not_far negative most kept count pending places whole fraction (signed minus written) small l.1
      ]
    ])
      where
        large : HasDigits kept count pending places whole fraction → 1000 < written
        large d = elim far [ inl f ↦ absurd (let e = d.few in omega arith) | inr f ↦ omega arith ]

    exponent_is : magnitude ≤ 1000 → written ≡ magnitude
    exponent_is h = omega arith

    pub power_not_held : count ≢ 0 → count ≤ 30 → magnitude ≤ 1000 → limited_power (signed minus magnitude -ℤ pos places +ℤ pos pending) ≡ None
        → None ≡ held_value negative most whole fraction (signed minus written)
    power_not_held some few exponent e =
        let d = has_digits kept count pending places whole fraction some few old in
        rw (exponent_is exponent)
        (sym (held_no_power negative most kept count pending places whole fraction (signed minus magnitude) small d
        (unlimited (signed minus magnitude -ℤ pos places +ℤ pos pending) e)))

    pub decimal_held : (power : ℤ) → count ≢ 0 → count ≤ 30 → magnitude ≤ 1000
        → limited_power (signed minus magnitude -ℤ pos places +ℤ pos pending) ≡ Some power
        → Some (exact_of negative kept power) ≡ held_value negative most whole fraction (signed minus written)
    decimal_held power some few exponent e =
        let d = has_digits kept count pending places whole fraction some few old in
        let p = limited (signed minus magnitude -ℤ pos places +ℤ pos pending) power e in
        let bounded : unsigned_abs (signed minus magnitude) ≤ 1000 = rw (unsigned_abs-signed minus magnitude) exponent in
        rw (exponent_is exponent, ← p.0) (sym (held_some negative most kept count pending places whole fraction (signed minus magnitude) small d bounded p.1))
