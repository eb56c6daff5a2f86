-- The decimal of a short number, and what is read off it.
use Rattle.gj_number.proofs.Common.{Bool, Exact, IsNormal, IsTrue, None, Parts, Some, ap, arith, cases_lt, cut_magnitude, cut_of, cut_within}
use Rattle.gj_number.proofs.Common.{eqb_tells, false, if◌then◌else◌, inl, inr, ints, le-mul_of_pos_right, limited_cut, limited_to, ltb, mul_assoc}
use Rattle.gj_number.proofs.Common.{nat_tests, negsuc, not, option_map, places_of, pow-add, pow-suc, refl, scale_of, signed, stripped, subst, suc}
use Rattle.gj_number.proofs.Common.{sym, tens_in, true, unsigned_abs, whole_of, zero, zero_exact, ℕ, ℤ, ◌%◌, ◌*◌, ◌+ℤ◌, ◌+◌, ◌-ℤ◌, ◌-◌, ◌/◌, ◌<◌, ◌^◌}
use Rattle.gj_number.proofs.Common.{◌↔◌, ◌∙◌, ◌≡◌, ◌≢◌, ◌≤◌}
use Rattle.std.specs.Prelude.{int_le, neg_ℤ, ◌&&◌, nat_le}
use Rattle.std.proofs.Common.{nat_eq}
use Rattle.std.proofs.Common.{pos}
use Rattle.std.proofs.Math.Nat.{eq_of_mul-eq-mul_right, div-one, zero-div, mul-div_cancel, mul-div-mul_right}
use Rattle.std.specs.Bool.{beq}
use Rattle.gj_number.specs.Exact.{SameValue, cut_limit}
use Rattle.gj_number.specs.Value.{held_value, within_limits}
use Rattle.gj_number.specs.Denotation.{IsDecimalOf}
use Rattle.gj_number.specs.Short.{short_value}
use Rattle.gj_number.proofs.Shorts.CutNumbers.{limited_below, limited_past}
use Rattle.gj_number.proofs.Value.OneDenotation.{same_exact}
use Rattle.gj_number.proofs.Value.NormalForm.{ten_above_zero, ten_divides, one_normal, stripped_is, held_value-normal, held_value-zero}
use Rattle.gj_number.proofs.Value.HeldLimits.{within_some}
use Rattle.gj_number.proofs.Value.SameDecimals.{same_value, beq_decides}

-- a number above zero whose digits but the zeros at the end are `digits`
pub record IsShort (negative : Bool) (all places : ℕ) (e : Exact) : Type 0 where
  pub tens : ℕ
  pub sign : e.negative ≡ negative
  pub last : e.digits % 10 ≢ 0
  pub all_is : all ≡ e.digits * 10 ^ tens
  pub power : e.power ≡ pos tens -ℤ pos places
  pub few : tens ≤ 18

tens_in_le : (most n : ℕ) → tens_in most n ≤ most
tens_in_le zero n = omega arith
tens_in_le (suc most) n = elim (eqb_tells (n % 10) 0) [ inl e ↦ rw (e.0) (let k = tens_in_le most (n / 10) in omega arith) | inr e ↦ rw (e.0) (omega arith) ]

pub short_zero : (negative : Bool) (places : ℕ) → short_value negative 0 places ≡ zero_exact
unfolding short_value
short_zero negative places = refl

pub short_is : (negative : Bool) (all places : ℕ) → 0 < all → all < 10 ^ 18 → IsShort negative all places (short_value negative all places)
unfolding short_value
short_is negative all places some small =
    let s = stripped_is 18 all some small in
    let few = tens_in_le 18 all in
    elim (eqb_tells all 0) [
      | inl e ↦ absurd (omega arith)
      | inr e ↦ rw (e.0) (record { tens = tens_in 18 all; sign = refl; last = s.0; all_is = s.1; power = refl; few = few })
    ]

-- the digits are at most all of them
pub short_digits_le : (negative : Bool) (all places : ℕ) (e : Exact) → IsShort negative all places e → e.digits ≤ all
short_digits_le negative all places e k = let p = ten_above_zero k.tens in let l : e.digits ≤ e.digits * 10 ^ k.tens = le-mul_of_pos_right e.digits p in let f =
    k.all_is in omega arith

-- the digits of a number that is read with another power of ten, which needs so many zeros more
pub moved_digits : (negative : Bool) (digits up all places : ℕ) (e : Exact) → 0 < digits → all ≡ digits * 10 ^ up → all < 10 ^ 18
    → (k : IsShort negative all places e) → (tens : ℕ) × (digits ≡ e.digits * 10 ^ tens) × (k.tens ≡ tens + up)
moved_digits negative digits up all places e some is small k =
    let l : digits ≤ digits * 10 ^ up = le-mul_of_pos_right digits (ten_above_zero up) in
    let s = stripped_is 18 digits some (omega arith) in
    let tens = tens_in 18 digits in
    let p = pow-add 10 tens up in
    let a : all ≡ stripped 18 digits * 10 ^ (tens + up) =
    is ∙ ap (λ n. n * 10 ^ up) s.1 ∙ mul_assoc (stripped 18 digits) (10 ^ tens) (10 ^ up) ∙ ap (λ n. stripped 18 digits * n) (sym p) in
    let n = one_normal (stripped 18 digits) e.digits (tens + up) k.tens s.0 k.last (sym a ∙ k.all_is) in
    (tens, s.1 ∙ ap (λ m. m * 10 ^ tens) n.0, sym n.1)

-- it is what parts denote with this power of ten
pub denoted_short : (parts : Parts) (up all places : ℕ) → all ≡ whole_of parts * 10 ^ up → all < 10 ^ 18 → scale_of parts ≡ pos up -ℤ pos places
    → IsDecimalOf (short_value parts.negative all places) parts
denoted_short parts up all places is small scale = elim (eqb_tells (whole_of parts) 0) [
  | inl e ↦
      let none : all ≡ 0 = is ∙ ap (λ n. n * 10 ^ up) e.1 ∙ omega arith in
      inl (e.1, rw none (short_zero parts.negative places))
  | inr e ↦
      let l : whole_of parts ≤ whole_of parts * 10 ^ up = le-mul_of_pos_right (whole_of parts) (ten_above_zero up) in
      let k = short_is parts.negative all places (omega arith) small in
      let d = moved_digits parts.negative (whole_of parts) up all places (short_value parts.negative all places) (omega arith) is small k in
      let f = d.2 in
      let p : pos k.tens -ℤ pos places ≡ pos up -ℤ pos places +ℤ pos d.0 = omega (arith, ints) in
      inr (d.0, k.sign, k.last, d.1, k.power ∙ p ∙ ap (λ z. z +ℤ pos d.0) (sym scale))
]

-- and it is held
pub held_short : (negative : Bool) (most digits up all places fraction : ℕ) (exponent : ℤ) → digits < 10 ^ most → all ≡ digits * 10 ^ up → all < 10 ^ 18
    → places ≤ 18 → unsigned_abs exponent ≤ 1000
    → exponent -ℤ pos fraction ≡ pos up -ℤ pos places → held_value negative most digits fraction exponent ≡ Some (short_value negative all places)
held_short negative most digits up all places fraction exponent bounded is small few written scale = elim (eqb_tells digits 0) [
  | inl e ↦
      let none : all ≡ 0 = is ∙ ap (λ n. n * 10 ^ up) e.1 ∙ omega arith in
      held_value-zero negative most digits fraction exponent (e.1) ∙ ap Some (sym (rw none (short_zero negative places)))
  | inr e ↦
      let l : digits ≤ digits * 10 ^ up = le-mul_of_pos_right digits (ten_above_zero up) in
      let v = short_value negative all places in
      let k = short_is negative all places (omega arith) small in
      let d = moved_digits negative digits up all places v (omega arith) is small k in
      let m = short_digits_le negative all places v k in
      let t = k.few in
      let f = d.2 in
      let p : pos up -ℤ pos places +ℤ pos d.0 ≡ pos k.tens -ℤ pos places = omega (arith, ints) in
      let power : exponent -ℤ pos fraction +ℤ pos d.0 ≡ v.power = ap (λ z. z +ℤ pos d.0) scale ∙ p ∙ sym k.power in
      let made : Exact = record { negative = negative; digits = v.digits; power = exponent -ℤ pos fraction +ℤ pos d.0 } in
      let same : made ≡ v = same_exact made v (sym k.sign) refl power in
      held_value-normal negative most digits fraction exponent v.digits d.0 bounded k.last d.1
      ∙ ap (within_limits exponent) same
      ∙ within_some exponent v (record { digits = omega arith; power = rw (k.power) (omega (arith, ints)); written = written })
]

-- ---- places and cut

-- the power of ten by which a cut number is the digits, at or above zero and below it
raised_power : (power : ℤ) (tens places up : ℕ) → power ≡ pos tens -ℤ pos places → up + places ≡ tens + 7 → power +ℤ pos 7 ≡ pos up
raised_power power tens places up e h = rw e (omega (arith, ints))

lowered_power : (power : ℤ) (tens places down : ℕ) → power ≡ pos tens -ℤ pos places → down + 1 + tens + 7 ≡ places → power +ℤ pos 7 ≡ negsuc down
lowered_power power tens places down e h = rw e (omega (arith, ints))

magnitude_up : (e : Exact) (up : ℕ) → e.power +ℤ pos 7 ≡ pos up → cut_magnitude e ≡ e.digits * 10 ^ up
magnitude_up e up h = rw h (div-one (e.digits * 10 ^ up))

magnitude_down : (e : Exact) (down : ℕ) → e.power +ℤ pos 7 ≡ negsuc down → cut_magnitude e ≡ e.digits / 10 ^ suc down
magnitude_down e down h = let one : e.digits * 1 ≡ e.digits = omega arith in rw (h, one) refl

-- at most seven digits stand after the point
pub cut_raised : (negative : Bool) (all places : ℕ) → all < 10 ^ 18 → places ≤ 7 → cut_magnitude (short_value negative all places) ≡ all * 10 ^ (7 - places)
cut_raised negative all places small few = elim (eqb_tells all 0) [
  | inl e ↦ rw (e.1, short_zero negative places) (omega arith)
  | inr e ↦
      let v = short_value negative all places in
      let k = short_is negative all places (omega arith) small in
      let up : ℕ = k.tens + (7 - places) in
      let p = pow-add 10 k.tens (7 - places) in
      let a = k.all_is in
      magnitude_up v up (raised_power v.power k.tens places up k.power (omega arith))
      ∙ rw p (sym (ap (λ n. n * 10 ^ (7 - places)) a ∙ mul_assoc v.digits (10 ^ k.tens) (10 ^ (7 - places))))
]

-- more do, `down` of them beyond the seventh: as many zeros at the end, or fewer
cut_zeros : (negative : Bool) (all places down : ℕ) (e : Exact) (k : IsShort negative all places e) → places ≡ 7 + down → down ≤ k.tens
    → all ≡ e.digits * 10 ^ (k.tens - down) * 10 ^ down
cut_zeros negative all places down e k is many =
    let back : k.tens - down + down ≡ k.tens = omega arith in
    let p : 10 ^ k.tens ≡ 10 ^ (k.tens - down) * 10 ^ down = ap (λ n. 10 ^ n) (sym back) ∙ pow-add 10 (k.tens - down) down in
    k.all_is ∙ rw p (sym (mul_assoc e.digits (10 ^ (k.tens - down)) (10 ^ down)))

pub cut_lowered : (negative : Bool) (all places down : ℕ) → all < 10 ^ 18 → places ≡ 7 + down
    → cut_magnitude (short_value negative all places) ≡ all / 10 ^ down
cut_lowered negative all places down small is = elim (eqb_tells all 0) [
  | inl e ↦ rw (e.1, short_zero negative places) (sym (zero-div (10 ^ down)))
  | inr e ↦
      let v = short_value negative all places in
      let k = short_is negative all places (omega arith) small in
      elim (cases_lt k.tens down) [
        | inl some ↦
            let d : ℕ = down - k.tens - 1 in
            let p : 10 ^ down ≡ 10 ^ suc d * 10 ^ k.tens = ap (λ n. 10 ^ n) {y = suc d + k.tens} (omega arith) ∙ pow-add 10 (suc d) k.tens in
            magnitude_down v d (lowered_power v.power k.tens places d k.power (omega arith))
            ∙ sym (ap (λ n. n / 10 ^ down) k.all_is ∙ rw p (mul-div-mul_right v.digits (10 ^ suc d) (ten_above_zero k.tens)))
        | inr many ↦
            let up : ℕ = k.tens - down in
            magnitude_up v up (raised_power v.power k.tens places up k.power (omega arith))
            ∙ sym (ap (λ n. n / 10 ^ down) (cut_zeros negative all places down v k is many) ∙ mul-div_cancel (v.digits * 10 ^ up) (ten_above_zero down))
      ]
]

-- more than seven digits stand after the point exactly where the digits beyond the seventh are not all zeros
places_zero : (e : Exact) (up tens places : ℕ) → e.power ≡ pos tens -ℤ pos places → up + places ≡ tens → places_of e ≡ 0
places_zero e up tens places h k = let p : pos tens -ℤ pos places ≡ pos up = omega (arith, ints) in rw (h, p) refl

places_below : (e : Exact) (down tens places : ℕ) → e.power ≡ pos tens -ℤ pos places → down + 1 + tens ≡ places → places_of e ≡ down + 1
places_below e down tens places h k = let p : pos tens -ℤ pos places ≡ negsuc down = omega (arith, ints) in rw (h, p) (omega arith)

-- how many digits stand after the point
pub short_places : (negative : Bool) (all places : ℕ) (e : Exact) (k : IsShort negative all places e) → places_of e ≡ places - k.tens
short_places negative all places e k = elim (cases_lt k.tens places) [
  | inl some ↦ places_below e (places - k.tens - 1) k.tens places k.power (omega arith) ∙ omega arith
  | inr none ↦ places_zero e (k.tens - places) k.tens places k.power (omega arith) ∙ omega arith
]

-- where fewer zeros than that stand at the end, they do not go off
no_zeros : (all digits tens down q : ℕ) → all ≡ digits * 10 ^ tens → digits % 10 ≢ 0 → tens < down → q * 10 ^ down ≡ all → ⊥
no_zeros all digits tens down q is last less e =
    let d : ℕ = down - tens - 1 in
    let p : 10 ^ down ≡ 10 ^ d * 10 * 10 ^ tens =
    ap (λ n. 10 ^ n) {y = suc d + tens} (omega arith) ∙ pow-add 10 (suc d) tens ∙ ap (λ n. n * 10 ^ tens) (pow-suc 10 d) in
    let f : q * (10 ^ d * 10) * 10 ^ tens ≡ digits * 10 ^ tens = mul_assoc q (10 ^ d * 10) (10 ^ tens) ∙ ap (λ n. q * n) (sym p) ∙ e ∙ is in
    let g : q * (10 ^ d * 10) ≡ digits = eq_of_mul-eq-mul_right (10 ^ tens) (ten_above_zero tens) (q * (10 ^ d * 10)) digits f in
    last (ten_divides digits q (10 ^ d) (sym g))

pub precise_is : (negative : Bool) (all places down : ℕ) → all < 10 ^ 18 → places ≡ 7 + down
    → (all / 10 ^ down * 10 ^ down ≡ all → ⊥) ↔ (7 < places_of (short_value negative all places))
precise_is negative all places down small is = elim (eqb_tells all 0) [
  | inl e ↦ rw (e.1, short_zero negative places) ((λ n. absurd (n (rw (zero-div (10 ^ down)) (omega arith)))), (λ l. absurd (omega arith)))
  | inr e ↦
      let v = short_value negative all places in
      let k = short_is negative all places (omega arith) small in
      let p = short_places negative all places v k in
      elim (cases_lt k.tens down) [
        | inl some ↦ ((λ n. omega arith), (λ l q. no_zeros all v.digits k.tens down (all / 10 ^ down) k.all_is k.last some q))
        | inr many ↦
            let z = cut_zeros negative all places down v k is many in
            let x : ℕ = v.digits * 10 ^ (k.tens - down) in
            let whole : all / 10 ^ down * 10 ^ down ≡ all =
            ap (λ n. n / 10 ^ down * 10 ^ down) z ∙ ap (λ n. n * 10 ^ down) (mul-div_cancel x (ten_above_zero down)) ∙ sym z in
            ((λ n. absurd (n whole)), (λ l. absurd (omega arith)))
      ]
]

pub not_precise : (negative : Bool) (all places : ℕ) → all < 10 ^ 18 → places ≤ 7 → 7 < places_of (short_value negative all places) → ⊥
not_precise negative all places small few l = elim (eqb_tells all 0) [
  | inl e ↦ (let k : 7 < places_of zero_exact = rw (e.1, short_zero negative places) at l in omega arith)
  | inr e ↦
      let k = short_is negative all places (omega arith) small in
      let p = short_places negative all places (short_value negative all places) k in
      omega arith
]

-- ---- the same number

pub short_normal : (negative : Bool) (all places : ℕ) → all < 10 ^ 18 → IsNormal (short_value negative all places)
short_normal negative all places small = elim (eqb_tells all 0) [
  | inl e ↦ inl (rw (e.1) (short_zero negative places))
  | inr e ↦ inr (short_is negative all places (omega arith) small).last
]

zero_differs : (na nb : Bool) (b places : ℕ) → 0 < b → b < 10 ^ 18 → short_value na 0 places ≡ short_value nb b places → ⊥
zero_differs na nb b places some small e =
    let k = short_is nb b places some small in
    let f : (short_value nb b places).digits ≡ 0 = ap (λ x. x.digits) (sym e ∙ short_zero na places) in
    k.last (ap (λ n. n % 10) f)

-- with the same places, one decimal has the same digits
pub same_digits : (na nb : Bool) (a b places : ℕ) → a < 10 ^ 18 → b < 10 ^ 18 → short_value na a places ≡ short_value nb b places → a ≡ b
same_digits na nb a b places sa sb e = elim (eqb_tells a 0) [
  | inl z ↦ elim (eqb_tells b 0) [
    | inl y ↦ z.1 ∙ sym y.1
    | inr y ↦ absurd (zero_differs na nb b places (omega arith) sb
        (let P : ℕ → Type 0 = λ n. short_value na n places ≡ short_value nb b places in subst P z.1 e))
  ]
  | inr z ↦ elim (eqb_tells b 0) [
    | inl y ↦ absurd (zero_differs nb na a places (omega arith) sa
        (let P : ℕ → Type 0 = λ n. short_value nb n places ≡ short_value na a places in subst P y.1 (sym e)))
    | inr y ↦
        let k = short_is na a places (omega arith) sa in
        let l = short_is nb b places (omega arith) sb in
        let d = ap (λ x. x.digits) e in
        let p : pos k.tens -ℤ pos places ≡ pos l.tens -ℤ pos places = sym k.power ∙ ap (λ x. x.power) e ∙ l.power in
        let t : k.tens ≡ l.tens = omega (arith, ints) in
        k.all_is ∙ (λ i. d i * 10 ^ t i) ∙ sym l.all_is
  ]
]

-- and the same sign, but for zero
same_sign : (na nb : Bool) (a places : ℕ) → 0 < a → a < 10 ^ 18 → short_value na a places ≡ short_value nb a places → na ≡ nb
same_sign na nb a places some small e =
    let k = short_is na a places some small in
    let l = short_is nb a places some small in
    sym k.sign ∙ ap (λ x. x.negative) e ∙ l.sign

zero_signs : (na nb : Bool) (places : ℕ) → short_value na 0 places ≡ short_value nb 0 places
zero_signs na nb places = short_zero na places ∙ sym (short_zero nb places)

module _ (na nb : Bool) (a b places : ℕ) (sa : a < 10 ^ 18) (sb : b < 10 ^ 18) where
  value : (short_value na a places ≡ short_value nb b places) ↔ SameValue (short_value na a places) (short_value nb b places)
  value = same_value (short_value na a places) (short_value nb b places) (short_normal na a places sa) (short_normal nb b places sb)

  pub digits_differ : (a ≡ b → ⊥) → SameValue (short_value na a places) (short_value nb b places) → ⊥
  digits_differ n s = n (same_digits na nb a b places sa sb (value.1 s))

  pub signs_same : a ≡ b → na ≡ nb → SameValue (short_value na a places) (short_value nb b places)
  signs_same e f = value.0 (λ i. short_value (f i) (e i) places)

  pub zeros_same : a ≡ b → a ≡ 0 → SameValue (short_value na a places) (short_value nb b places)
  zeros_same e z = value.0 (let P : ℕ → Type 0 = λ n. short_value na n places ≡ short_value nb b places in
      let Q : ℕ → Type 0 = λ n. short_value na 0 places ≡ short_value nb n places in
      subst P (sym z) (subst Q (sym (sym e ∙ z)) (zero_signs na nb places)))

  pub signs_differ : a ≡ b → (na ≡ nb → ⊥) → (a ≡ 0 → ⊥) → SameValue (short_value na a places) (short_value nb b places) → ⊥
  signs_differ e f z s =
      f (same_sign na nb a places (omega arith) sa (let P : ℕ → Type 0 = λ n. short_value na a places ≡ short_value nb n places in subst P (sym e) (value.1 s)))

-- ---- what the code finds

-- each case of the test of two with the same places
same_iff : (P : Type 0) → P → IsTrue true ↔ P
same_iff P h = ((λ _. h), (λ _. refl))

pub differ_iff : (P : Type 0) → (P → ⊥) → IsTrue false ↔ P
differ_iff P h = ((λ t. cc), (λ p. absurd (h p)))

pub digits_iff : (na nb : Bool) (a b p q : ℕ) → a < 10 ^ 18 → b < 10 ^ 18 → p ≡ q → (a ≡ b → ⊥)
    → IsTrue false ↔ SameValue (short_value na a p) (short_value nb b q)
digits_iff na nb a b p q sa sb e n = let P : ℕ → Type 0 =
    λ x. IsTrue false ↔ SameValue (short_value na a p) (short_value nb b x) in subst P e (differ_iff _ (digits_differ na nb a b p sa sb n))

pub signs_iff : (na nb : Bool) (a b p q : ℕ) → a < 10 ^ 18 → b < 10 ^ 18 → p ≡ q → a ≡ b → beq na nb ≡ true
    → IsTrue true ↔ SameValue (short_value na a p) (short_value nb b q)
signs_iff na nb a b p q sa sb e f g = let P : ℕ → Type 0 =
    λ x. IsTrue true ↔ SameValue (short_value na a p) (short_value nb b x) in subst P e (same_iff _ (signs_same na nb a b p sa sb f ((beq_decides na nb).0 g)))

pub zeros_iff : (na nb : Bool) (a b p q : ℕ) → a < 10 ^ 18 → b < 10 ^ 18 → p ≡ q → a ≡ b → beq na nb ≡ false
    → IsTrue (nat_eq a 0) ↔ SameValue (short_value na a p) (short_value nb b q)
zeros_iff na nb a b p q sa sb e f n =
    let P : ℕ → Type 0 = λ x. IsTrue (nat_eq a 0) ↔ SameValue (short_value na a p) (short_value nb b x) in
    subst P e (elim (eqb_tells a 0) [
      | inl z ↦ rw (z.0) (same_iff _ (zeros_same na nb a b p sa sb f z.1))
      | inr z ↦ rw (z.0) (differ_iff _ (signs_differ na nb a b p sa sb f (λ g. let t = (beq_decides na nb).1 g in let u = sym t ∙ n in cc) z.1))
    ])

pub unequal_iff : (x n : ℕ) → IsTrue (not (nat_eq x n)) ↔ (x ≡ n → ⊥)
unequal_iff x n = elim (eqb_tells x n) [
  | inl e ↦ rw (e.0) ((λ t. cc), (λ f. absurd (f e.1)))
  | inr e ↦ rw (e.0) ((λ _. e.1), (λ _. refl))
]

pub short_made : (negative : Bool) (all places digits tens : ℕ) (power : ℤ) → (all ≡ 0 → ⊥) → all < 10 ^ 18 → all ≡ digits * 10 ^ tens → digits % 10 ≢ 0
    → power ≡ pos tens -ℤ pos places
    → record { negative = negative; digits = digits; power = power } ≡ short_value negative all places
short_made negative all places digits tens power some small is last p =
    let v = short_value negative all places in
    let k = short_is negative all places (omega arith) small in
    let n = one_normal digits v.digits tens k.tens last k.last (sym is ∙ k.all_is) in
    let made : Exact = record { negative = negative; digits = digits; power = power } in
    same_exact made v (sym k.sign) n.0 (p ∙ ap (λ t. pos t -ℤ pos places) n.1 ∙ sym k.power)

signs_of_zero : (negative : Bool) → signed negative 0 ≡ pos 0
signs_of_zero false = refl
signs_of_zero true = refl

pub cut_some : (negative : Bool) (all places m : ℕ) → all < 10 ^ 18 → limited_cut (cut_magnitude (short_value negative all places)) ≡ Some m
    → Some (signed negative m) ≡ cut_of (short_value negative all places)
cut_some negative all places m small e =
    let v = short_value negative all places in
    elim (cases_lt (cut_magnitude v) cut_limit) [
      | inl l ↦
          let t : ltb (cut_magnitude v) cut_limit ≡ true = grind (arith, nat_tests) in
          let f : Some (cut_magnitude v) ≡ Some m = rw t at e in
          let g : cut_magnitude v ≡ m = cc in
          rw t (ap Some (sign g ∙ ap (signed v.negative) (sym g)))
      | inr l ↦
          let t : ltb (cut_magnitude v) cut_limit ≡ false = grind (arith, nat_tests) in
          let f : None ≡ Some m = rw t at e in
          cc
    ]
  where
    sign : cut_magnitude (short_value negative all places) ≡ m → signed negative m ≡ signed (short_value negative all places).negative m
    sign g = elim (eqb_tells all 0) [
      | inl z ↦
          let zero : (short_value negative all places) ≡ zero_exact = rw (z.1) (short_zero negative places) in
          let none : m ≡ 0 = sym g ∙ ap cut_magnitude zero ∙ omega arith in
          rw (none, zero) (signs_of_zero negative)
      | inr z ↦ (let k = short_is negative all places (omega arith) small in ap (λ b. signed b m) (sym k.sign))
    ]

-- ---- a cut number that is at most so far from zero

signed_within : (negative : Bool) (magnitude most : ℕ)
    → (int_le (neg_ℤ (pos most)) (signed negative magnitude) && int_le (signed negative magnitude) (pos most)) ≡ nat_le magnitude most
signed_within false magnitude most = grind (arith, ints, nat_tests)
signed_within true magnitude most = grind (arith, ints, nat_tests)

within_if : (b : Bool) (negative : Bool) (magnitude : ℕ)
    → option_map (signed negative) (if b then Some magnitude else None) ≡ (if b then Some (signed negative magnitude) else None)
within_if true negative magnitude = refl
within_if false negative magnitude = refl

pub cut_within_is : (negative : Bool) (all places most : ℕ) → all < 10 ^ 18 → most < cut_limit
    → option_map (signed negative) (limited_to most (cut_magnitude (short_value negative all places))) ≡ cut_within most
    (cut_of (short_value negative all places))
cut_within_is negative all places most small few =
    let v = short_value negative all places in
    let m = cut_magnitude v in
    elim (cases_lt m cut_limit) [
      | inl l ↦ rw (sym (cut_some negative all places m small (limited_below m l)), signed_within negative m most) (within_if (nat_le m most) negative m)
      | inr l ↦
          let t : ltb m cut_limit ≡ false = grind (arith, nat_tests) in
          rw (t, limited_past most m (omega arith)) refl
    ]
