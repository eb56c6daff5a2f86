-- Numbers that are not held, whatever digits follow and with whatever exponent.
use Rattle.gj_number.proofs.Common.{AllByRecursion, IsDigit, IsFar, IsKept, List, add-one, arith, inl, inr, length, mul-le-mul_right}
use Rattle.gj_number.proofs.Common.{pow-le-pow_right, pow-suc, recursion_from_All, suc, with_digit, zero, zero_digit, ℕ, [], ◌%◌, ◌*◌, ◌+◌, ◌-◌, ◌<◌}
use Rattle.gj_number.proofs.Common.{◌^◌, ◌∷◌, ◌≡◌, ◌≢◌, ◌≤◌, ◌⊎◌}
use Rattle.std.proofs.Common.{fold, All}
use Rattle.std.proofs.Math.Nat.{mul-le-mul_left}
use Rattle.gj_number.proofs.Value.NormalForm.{ten_above_zero}

-- a number that ends in no zero is its own digits
pub ends_here : (whole digit fraction : ℕ) → 0 < digit → digit < 10 → (10 ^ 30 ≤ whole * 10 + digit) ⊎ (1401 ≤ fraction) → IsFar (whole * 10 + digit) fraction
ends_here whole digit fraction h k far = record {
  digits = whole * 10 + digit;
  tens = 0;
  whole_is = omega arith;
  last = (λ e. omega arith);
  far = elim far [ inl f ↦ inl f | inr f ↦ inr (inr (omega arith)) ];
}

-- a power of ten with thirty zeros or more
pub thirty : (tens : ℕ) → 30 ≤ tens → 10 ^ 30 ≤ 10 ^ tens
thirty tens h = pow-le-pow_right {n = 10} (omega arith) h

large : (whole digits tens : ℕ) → whole ≡ digits * 10 ^ tens → digits % 10 ≢ 0 → (10 ^ 30 ≤ digits) ⊎ (30 ≤ tens) → 10 ^ 30 ≤ whole
large whole digits tens e last h =
    let some : 1 ≤ digits = omega arith in
    let power = ten_above_zero tens in
    elim h [
      | inl f ↦ (let g = mul-le-mul_left digits power in omega arith)
      | inr f ↦ (let g = mul-le-mul_right (10 ^ tens) some in let k = thirty tens f in omega arith)
    ]

-- a zero more at the end
pub zero_more : (whole digits tens : ℕ) → whole ≡ digits * 10 ^ tens → whole * 10 + 0 ≡ digits * 10 ^ (tens + 1)
zero_more whole digits tens e = rw (add-one, pow-suc 10 tens) (omega arith)

-- one digit more before the point
pub far_natural : (whole digit : ℕ) → digit < 10 → IsFar whole 0 → IsFar (whole * 10 + digit) 0
far_natural whole zero k h = record {
  digits = h.digits;
  tens = h.tens + 1;
  whole_is = zero_more whole h.digits h.tens h.whole_is;
  last = h.last;
  far = elim h.far [ inl f ↦ inl f | inr g ↦ elim g [ inl f ↦ inr (inl (omega arith)) | inr f ↦ absurd (omega arith) ] ];
}
far_natural whole (suc d) k h = ends_here whole (suc d) 0 (omega arith) k (inl (let l = large whole h.digits h.tens h.whole_is h.last far in omega arith))
  where
    far : (10 ^ 30 ≤ h.digits) ⊎ (30 ≤ h.tens)
    far = elim h.far [ inl f ↦ inl f | inr g ↦ elim g [ inl f ↦ inr (omega arith) | inr f ↦ absurd (omega arith) ] ]

-- one digit more after the point
pub far_fraction : (whole fraction digit : ℕ) → digit < 10 → IsFar whole fraction → IsFar (whole * 10 + digit) (fraction + 1)
far_fraction whole fraction zero k h = record {
  digits = h.digits;
  tens = h.tens + 1;
  whole_is = zero_more whole h.digits h.tens h.whole_is;
  last = h.last;
  far = elim h.far [ inl f ↦ inl f | inr g ↦ elim g [ inl f ↦ inr (inl (omega arith)) | inr f ↦ inr (inr (omega arith)) ] ];
}
far_fraction whole fraction (suc d) k h = ends_here whole (suc d) (fraction + 1) (omega arith) k (elim h.far [
  | inl f ↦ inl (let l = large whole h.digits h.tens h.whole_is h.last (inl f) in omega arith)
  | inr g ↦ elim g [
    | inl f ↦ inl (let l = large whole h.digits h.tens h.whole_is h.last (inr (omega arith)) in omega arith)
    | inr f ↦ inr (omega arith)
  ]
])

-- ---- digits in a row

far_naturals : (whole : ℕ) (digits : List ℕ) → AllByRecursion IsDigit digits → IsFar whole 0 → IsFar (fold with_digit whole digits) 0
far_naturals whole [] h far = far
far_naturals whole (b ∷ digits) h far =
    far_naturals (with_digit whole b) digits h.1 (far_natural whole (b - zero_digit) (let low = h.0.0 in let high = h.0.1 in omega arith) far)

far_fractions : (whole fraction n : ℕ) (digits : List ℕ) → n ≡ fraction + length digits → AllByRecursion IsDigit digits → IsFar whole fraction
    → IsFar (fold with_digit whole digits) n
far_fractions whole fraction n [] e h far = let f : n ≡ fraction = omega arith in rw f far
far_fractions whole fraction n (b ∷ digits) e h far =
    far_fractions (with_digit whole b) (fraction + 1) n digits (omega arith) h.1
    (far_fraction whole fraction (b - zero_digit) (let low = h.0.0 in let high = h.0.1 in omega arith) far)

-- where the number is not held, what is kept is of use
far_of : (kept count pending places whole fraction : ℕ) → count ≡ 31 → IsKept kept count pending places whole fraction → IsFar whole fraction
far_of kept count pending places whole fraction e h = elim h [
  | inl n ↦ absurd (let z = n.none in omega arith)
  | inr o ↦ elim o [ inl d ↦ absurd (let f = d.few in omega arith) | inr l ↦ l.1 ]
]

-- and digits after it change nothing
pub passed_natural : (kept count pending places whole : ℕ) (digits : List ℕ) → count ≡ 31 → All IsDigit digits → IsKept kept count pending places whole 0
    → IsKept kept count pending places (fold with_digit whole digits) 0
passed_natural kept count pending places whole digits e h old =
    inr (inr (e, far_naturals whole digits (recursion_from_All IsDigit digits h) (far_of kept count pending places whole 0 e old)))

pub passed_fraction : (kept count pending places whole fraction n : ℕ) (digits : List ℕ) → count ≡ 31 → n ≡ fraction + length digits → All IsDigit digits
    → IsKept kept count pending places whole fraction
    → IsKept kept count pending places (fold with_digit whole digits) n
passed_fraction kept count pending places whole fraction n digits e len h old =
    inr (inr (e, far_fractions whole fraction n digits len (recursion_from_All IsDigit digits h) (far_of kept count pending places whole fraction e old)))
