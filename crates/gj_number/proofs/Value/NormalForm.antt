-- Each number above zero is in one way digits that ten does not divide times a power of ten.
use Rattle.gj_number.proofs.Common.{AllByRecursion, Bool, IsDigit, List, Some, ap, arith, eqb_tells, inl, inr, length, mul-le-mul_right, number_of}
use Rattle.gj_number.proofs.Common.{pow-suc, refl, stripped, suc, sym, tens_in, with_digit, zero, zero_exact, ℕ, ℤ, [], ◌%◌, ◌*◌, ◌+ℤ◌, ◌+◌, ◌-ℤ◌}
use Rattle.gj_number.proofs.Common.{◌/◌, ◌<◌, ◌^◌, ◌∙◌, ◌∷◌, ◌≡◌, ◌≢◌, ◌≤◌}
use Rattle.std.proofs.Common.{pos}
use Rattle.std.proofs.Math.Nat.{one-le-pow, one-le-mul}
use Rattle.std.specs.List.{fold}
use Rattle.gj_number.specs.Value.{held_value, within_limits}

-- ---- one normal form

pub ten_divides : (a b p : ℕ) → a ≡ b * (p * 10) → a % 10 ≡ 0
ten_divides a b p e = omega arith

pub one_normal : (a b i j : ℕ) → a % 10 ≢ 0 → b % 10 ≢ 0 → a * 10 ^ i ≡ b * 10 ^ j → (a ≡ b) × (i ≡ j)
one_normal a b zero zero h k e = (omega arith, refl)
one_normal a b zero (suc j) h k e =
    let f : a ≡ b * (10 ^ j * 10) = (let g = rw (pow-suc 10 j) at e in omega arith) in absurd (h (ten_divides a b (10 ^ j) f))
one_normal a b (suc i) zero h k e =
    let f : b ≡ a * (10 ^ i * 10) = (let g = rw (pow-suc 10 i) at e in omega arith) in absurd (k (ten_divides b a (10 ^ i) f))
one_normal a b (suc i) (suc j) h k e =
    let f : a * 10 ^ i ≡ b * 10 ^ j = (let g = rw (pow-suc 10 i, pow-suc 10 j) at e in omega arith) in
    let g = one_normal a b i j h k f in
    (g.0, ap suc g.1)

pub ten_above_zero : (i : ℕ) → 0 < 10 ^ i
ten_above_zero i = let k = one-le-pow i 10 (omega arith) in omega arith

pub normal_above_zero : (a i : ℕ) → a % 10 ≢ 0 → 0 < a * 10 ^ i
normal_above_zero a i h = let some : 1 ≤ a = omega arith in let k = one-le-mul some (ten_above_zero i) in omega arith

-- ---- the functions find it

pub stripped_is : (most n : ℕ) → 0 < n → n < 10 ^ most → (stripped most n % 10 ≢ 0) × (n ≡ stripped most n * 10 ^ tens_in most n)
stripped_is zero n h k = absurd (omega arith)
stripped_is (suc most) n h k = elim (eqb_tells (n % 10) 0) [
  | inl e ↦
      let small : n / 10 < 10 ^ most = (let f = rw (pow-suc 10 most) at k in omega arith) in
      let ih = stripped_is most (n / 10) (omega arith) small in
      let whole : n ≡ stripped most (n / 10) * (10 ^ tens_in most (n / 10) * 10) = (let f = ih.1 in omega arith) in
      rw (e.0) (ih.0, rw (pow-suc 10 (tens_in most (n / 10))) whole)
  | inr e ↦ rw (e.0) (e.1, omega arith)
]

-- the function on a number above zero, whose one normal form is a times ten to the power i
pub held_value-normal : (negative : Bool) (most whole places : ℕ) (exponent : ℤ) (a i : ℕ) → whole < 10 ^ most → a % 10 ≢ 0 → whole ≡ a * 10 ^ i
    → held_value negative most whole places exponent ≡ within_limits exponent
    (record { negative = negative; digits = a; power = exponent -ℤ pos places +ℤ pos i })
unfolding held_value
held_value-normal negative most whole places exponent a i small last e =
    let some : 0 < whole = (let k = normal_above_zero a i last in omega arith) in
    let s = stripped_is most whole some small in
    let n = one_normal (stripped most whole) a (tens_in most whole) i s.0 last (sym s.1 ∙ e) in
    elim (eqb_tells whole 0) [
      | inl f ↦ absurd (omega arith)
      | inr f ↦ rw (f.0, n.0, n.1) refl
    ]

pub held_value-zero : (negative : Bool) (most whole places : ℕ) (exponent : ℤ) → whole ≡ 0 → held_value negative most whole places exponent ≡ Some zero_exact
unfolding held_value
held_value-zero negative most whole places exponent e = rw e refl

-- ---- how large a number of so many digits is

fold_bounded : (n : ℕ) (digits : List ℕ) → AllByRecursion IsDigit digits → fold with_digit n digits < (n + 1) * 10 ^ length digits
fold_bounded n [] h = omega arith
fold_bounded n (b ∷ digits) h =
    let ih = fold_bounded (with_digit n b) digits h.1 in
    let step : with_digit n b + 1 ≤ (n + 1) * 10 = omega arith in
    let more = mul-le-mul_right (10 ^ length digits) step in
    rw (pow-suc 10 (length digits)) (omega arith)

pub number_bounded : (digits : List ℕ) → AllByRecursion IsDigit digits → number_of digits < 10 ^ length digits
number_bounded digits h = let k = fold_bounded 0 digits h in omega arith
