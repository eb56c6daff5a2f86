-- What the functions on a whole literal find in one that is made of parts.
use Rattle.gj_number.proofs.Common.{AllByRecursion, Bool, IsDigit, IsDigits, IsExponentLetter, IsNatural, List, Parts, Spells, SpellsExponent}
use Rattle.gj_number.proofs.Common.{SpellsExponentSign, SpellsFraction, SpellsSign, ap, append_assoc, arith, decimal_point, drop, false, inl, inr}
use Rattle.gj_number.proofs.Common.{length, minus_sign, nat_tests, number_of, plus_sign, refl, signed, sym, take-append_seam, true, whole_of}
use Rattle.gj_number.proofs.Common.{zero_digit, ℕ, ℤ, [], ◌++◌, ◌==◌, ◌∙◌, ◌∷◌, ◌≡◌, ◌≤◌}
use Rattle.std.proofs.Math.Seq.{drop-append-add}
use Rattle.std.specs.List.{position_or_len, before_first, after_first}
use Rattle.gj_number.specs.Bytes.{lower_e, upper_e, is_exponent_letter}
use Rattle.gj_number.specs.Value.{is_negative, unsigned_of, significand_of, natural_of, fraction_of, exponent_of, signed_number, held_value}
use Rattle.gj_number.specs.Value.{value_of}

-- ---- a list split at the first element that passes

abbrev Fails : (ℕ → Bool) → ℕ → Type 0
Fails p b = p b ≡ false

-- nothing, or what begins by an element that passes
abbrev BeginsBy : (ℕ → Bool) → List ℕ → Type 0
BeginsBy p [] = Unit {0}
BeginsBy p (b ∷ bytes) = p b ≡ true

abbrev behind : List ℕ → List ℕ
behind [] = []
behind (b ∷ bytes) = bytes

position_at : (p : ℕ → Bool) (xs ys : List ℕ) → AllByRecursion (Fails p) xs → BeginsBy p ys → position_or_len p (xs ++ ys) ≡ length xs
position_at p [] [] h k = refl
position_at p [] (y ∷ ys) h k = rw k refl
position_at p (x ∷ xs) ys h k = rw (h.0, position_at p xs ys h.1 k) (omega arith)

drop_one : (ys : List ℕ) → drop 1 ys ≡ behind ys
drop_one [] = refl
drop_one (y ∷ ys) = refl

before_at : (p : ℕ → Bool) (xs ys : List ℕ) → AllByRecursion (Fails p) xs → BeginsBy p ys → before_first p (xs ++ ys) ≡ xs
before_at p xs ys h k = rw (position_at p xs ys h k) (take-append_seam xs ys)

after_at : (p : ℕ → Bool) (xs ys : List ℕ) → AllByRecursion (Fails p) xs → BeginsBy p ys → after_first p (xs ++ ys) ≡ behind ys
after_at p xs ys h k = rw (position_at p xs ys h k) (drop-append-add xs ys 1 ∙ drop_one ys)

fails_all : (p : ℕ → Bool) → ((b : ℕ) → IsDigit b → p b ≡ false) → (xs : List ℕ) → AllByRecursion IsDigit xs → AllByRecursion (Fails p) xs
fails_all p f [] h = tt
fails_all p f (x ∷ xs) h = (f x h.0, fails_all p f xs h.1)

pub all-append : (P : ℕ → Type 0) (xs ys : List ℕ) → AllByRecursion P xs → AllByRecursion P ys → AllByRecursion P (xs ++ ys)
all-append P [] ys h k = k
all-append P (x ∷ xs) ys h k = (h.0, all-append P xs ys h.1 k)

-- ---- bytes

abbrev is_point : ℕ → Bool
is_point b = b == decimal_point

digit_no_point : (b : ℕ) → IsDigit b → is_point b ≡ false
digit_no_point b h = grind (arith, nat_tests)

digit_no_letter : (b : ℕ) → IsDigit b → is_exponent_letter b ≡ false
digit_no_letter b h = let e : (b == lower_e) ≡ false = grind (arith, nat_tests) in let f : (b == upper_e) ≡ false = grind (arith, nat_tests) in rw (e, f) refl

letter_passes : (b : ℕ) → IsExponentLetter b → is_exponent_letter b ≡ true
letter_passes b h = elim h [ inl e ↦ rw e refl | inr e ↦ rw e refl ]

-- ---- digits

pub all_digits : (digits : List ℕ) → IsDigits digits → AllByRecursion IsDigit digits
all_digits [] h = absurd h
all_digits (b ∷ digits) h = h

pub natural_digits : (natural : List ℕ) → IsNatural natural → AllByRecursion IsDigit natural
natural_digits [] h = absurd h
natural_digits (b ∷ digits) h = elim h [ inl e ↦ rw (e.0, e.1) ((omega arith, omega arith), tt) | inr e ↦ ((omega arith, omega arith), e.1) ]

pub fraction_digits : (digits bytes : List ℕ) → SpellsFraction digits bytes → AllByRecursion IsDigit digits
fraction_digits digits bytes h = elim h [ inl e ↦ rw (e.1) tt | inr e ↦ all_digits digits e.1 ]

pub parts_digits : (parts : Parts) (literal : List ℕ) → Spells parts literal → AllByRecursion IsDigit (parts.natural ++ parts.fraction)
parts_digits parts literal h =
    all-append IsDigit parts.natural parts.fraction (natural_digits parts.natural h.spells_natural)
    (fraction_digits parts.fraction h.behind_point h.spells_fraction)

-- ---- the parts

-- a literal's sign, and what stands after it
sign_split : (negative : Bool) (sign natural tail literal : List ℕ) → literal ≡ sign ++ (natural ++ tail) → SpellsSign negative sign → IsNatural natural
    → (is_negative literal ≡ negative) × (unsigned_of literal ≡ natural ++ tail)
sign_split negative sign [] tail literal e s n = absurd n
sign_split false sign (b ∷ natural) tail literal e s n =
    let d : (b == minus_sign) ≡ false = (let k = natural_digits (b ∷ natural) n in let low : zero_digit ≤ b = k.0.0 in grind (arith, nat_tests)) in
    let p : (b == plus_sign) ≡ false = (let k = natural_digits (b ∷ natural) n in let low : zero_digit ≤ b = k.0.0 in grind (arith, nat_tests)) in
    rw (e, s, d, p) (refl, refl)
sign_split true sign (b ∷ natural) tail literal e s n = rw (e, s) (refl, refl)

fraction_ends : (digits bytes : List ℕ) → SpellsFraction digits bytes → BeginsBy is_point bytes × (behind bytes ≡ digits)
    × AllByRecursion (Fails is_exponent_letter) bytes
fraction_ends digits bytes h = elim h [
  | inl e ↦ rw (e.0, e.1) (tt, refl, tt)
  | inr e ↦ rw (e.0) (refl, refl, (refl, fails_all is_exponent_letter digit_no_letter digits (all_digits digits e.1)))
]

sign_number : (negative : Bool) (sign digits : List ℕ) → SpellsExponentSign negative sign → IsDigits digits
    → signed_number (sign ++ digits) ≡ signed negative (number_of digits)
sign_number negative sign [] h d = absurd d
sign_number false sign (b ∷ digits) h d =
    let m : (b == minus_sign) ≡ false = (let low : zero_digit ≤ b = d.0.0 in grind (arith, nat_tests)) in
    let p : (b == plus_sign) ≡ false = (let low : zero_digit ≤ b = d.0.0 in grind (arith, nat_tests)) in
    elim h [ inl e ↦ rw (e, m, p) refl | inr e ↦ rw e refl ]
sign_number true sign (b ∷ digits) h d = rw h refl

exponent_ends : (exponent : ℤ) (bytes : List ℕ) → SpellsExponent exponent bytes → BeginsBy is_exponent_letter bytes × (signed_number (behind bytes) ≡ exponent)
exponent_ends exponent bytes h = elim h [
  | inl e ↦ rw (e.0, e.1) (tt, refl)
  | inr e ↦ rw (e.4) (letter_passes e.0 e.5, sign_number e.3 e.1 e.2 e.6 e.7 ∙ sym e.8)
]

-- what the functions find
pub record Found (parts : Parts) (literal : List ℕ) : Type 0 where
  pub negative : is_negative literal ≡ parts.negative
  pub natural : natural_of literal ≡ parts.natural
  pub fraction : fraction_of literal ≡ parts.fraction
  pub exponent : exponent_of literal ≡ parts.exponent

pub found : (parts : Parts) (literal : List ℕ) → Spells parts literal → Found parts literal
found parts literal h =
    let tail = h.behind_point ++ h.behind_digits in
    let a = sign_split parts.negative h.sign parts.natural tail literal h.joined h.spells_sign h.spells_natural in
    let b = fraction_ends parts.fraction h.behind_point h.spells_fraction in
    let c = exponent_ends parts.exponent h.behind_digits h.spells_exponent in
    let digits = natural_digits parts.natural h.spells_natural in
    let front = all-append (Fails is_exponent_letter) parts.natural h.behind_point (fails_all is_exponent_letter digit_no_letter parts.natural digits) b.2 in
    let joined : unsigned_of literal ≡ (parts.natural ++ h.behind_point) ++ h.behind_digits =
    a.1 ∙ sym (append_assoc parts.natural h.behind_point h.behind_digits) in
    let s : significand_of literal ≡ parts.natural ++ h.behind_point =
    ap (before_first is_exponent_letter) joined ∙ before_at is_exponent_letter (parts.natural ++ h.behind_point) h.behind_digits front c.0 in
    let no_point = fails_all is_point digit_no_point parts.natural digits in
    record {
      negative = a.0;
      natural = ap (before_first is_point) s ∙ before_at is_point parts.natural h.behind_point no_point b.0;
      fraction = ap (after_first is_point) s ∙ after_at is_point parts.natural h.behind_point no_point b.0 ∙ b.1;
      exponent = ap signed_number
          (ap (after_first is_exponent_letter) joined ∙ after_at is_exponent_letter (parts.natural ++ h.behind_point) h.behind_digits front c.0) ∙ c.1;
    }

-- the value in terms of the parts
pub value_is : (parts : Parts) (literal : List ℕ) → Spells parts literal
    → value_of literal ≡ held_value parts.negative (length (parts.natural ++ parts.fraction)) (whole_of parts) (length parts.fraction) parts.exponent
unfolding value_of
value_is parts literal h = let f = found parts literal h in rw (f.negative, f.natural, f.fraction, f.exponent) refl
