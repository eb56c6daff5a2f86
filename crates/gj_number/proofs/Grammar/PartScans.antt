-- A literal's parts lead to the scan that says their numbers.
use Rattle.gj_number.proofs.Common.{AfterLetter, AfterMinus, AfterPoint, AfterSign, AfterZero, AllByRecursion, Bool, InExponent, InFraction}
use Rattle.gj_number.proofs.Common.{InNatural, IsDigit, IsDigits, IsNatural, Letter, List, Minus, NonZero, Parts, Plus, Point, Reaches, Scan, Some}
use Rattle.gj_number.proofs.Common.{Spells, SpellsExponent, SpellsExponentSign, SpellsFraction, SpellsSign, Start, State, Zero, ap, arith, false}
use Rattle.gj_number.proofs.Common.{fold-append, inl, inr, length, may_end_in, minus_sign, next_of, number_of, plus_sign, refl, signed, start, sym}
use Rattle.gj_number.proofs.Common.{true, whole_of, with_digit, zero_digit, ℕ, [], ◌++◌, ◌+◌, ◌∷◌, ◌≡◌}
use Rattle.std.specs.List.{fold}
use Rattle.gj_number.proofs.Grammar.ByteClasses.{class_is, digit_goes}
use Rattle.gj_number.proofs.Grammar.ScanPaths.{reaches_on}

abbrev pub at : State → Bool → ℕ → ℕ → Bool → ℕ → Scan
at state negative whole fraction exponent_negative exponent =
    record { state = state; negative = negative; whole = whole; fraction = fraction; exponent_negative = exponent_negative; exponent = exponent }

-- ---- runs of digits

pub natural_run : (negative : Bool) (n k : ℕ) (minus : Bool) (x : ℕ) (digits : List ℕ) → AllByRecursion IsDigit digits
    → Reaches (at InNatural negative n k minus x) digits (at InNatural negative (fold with_digit n digits) k minus x)
natural_run negative n k minus x [] h = refl
natural_run negative n k minus x (b ∷ digits) h =
    (InNatural, digit_goes InNatural InNatural b refl refl h.0, natural_run negative (with_digit n b) k minus x digits h.1)

pub fraction_run : (negative : Bool) (n k m : ℕ) (minus : Bool) (x : ℕ) (digits : List ℕ) → k + length digits ≡ m → AllByRecursion IsDigit digits
    → Reaches (at InFraction negative n k minus x) digits (at InFraction negative (fold with_digit n digits) m minus x)
fraction_run negative n k m minus x [] e h = let f : k ≡ m = omega arith in ap (λ y. at InFraction negative n y minus x) f
fraction_run negative n k m minus x (b ∷ digits) e h =
    (InFraction, digit_goes InFraction InFraction b refl refl h.0, fraction_run negative (with_digit n b) (k + 1) m minus x digits (omega arith) h.1)

pub exponent_run : (negative : Bool) (n k : ℕ) (minus : Bool) (x : ℕ) (digits : List ℕ) → AllByRecursion IsDigit digits
    → Reaches (at InExponent negative n k minus x) digits (at InExponent negative n k minus (fold with_digit x digits))
exponent_run negative n k minus x [] h = refl
exponent_run negative n k minus x (b ∷ digits) h =
    (InExponent, digit_goes InExponent InExponent b refl refl h.0, exponent_run negative n k minus (with_digit x b) digits h.1)

-- ---- the parts

-- a number may end in this state, and its exponent may follow
record MayEnd (s : State) : Type 0 where
  ends : may_end_in s ≡ true
  letter : next_of s Letter ≡ Some AfterLetter

natural_on : (s : State) (negative : Bool) (natural : List ℕ) → next_of s Zero ≡ Some AfterZero → next_of s NonZero ≡ Some InNatural → IsNatural natural
    → (t : State) × Reaches (at s negative 0 0 false 0) natural (at t negative (number_of natural) 0 false 0) × MayEnd t × (next_of t Point ≡ Some AfterPoint)
natural_on s negative [] z f h = absurd h
natural_on s negative (b ∷ digits) z f h = elim h [
  | inl e ↦ (
    AfterZero,
    rw (e.0, e.1) (AfterZero, rw (class_is Zero zero_digit refl (λ n. cc)) z, refl),
    record { ends = refl; letter = refl },
    refl,
  )
  | inr e ↦ (
    InNatural,
    (InNatural, rw (class_is NonZero b e.0 (λ n. cc)) f, natural_run negative (with_digit 0 b) 0 false 0 digits e.1),
    record { ends = refl; letter = refl },
    refl,
  )
]

fraction_on : (s : State) (negative : Bool) (n : ℕ) (digits bytes : List ℕ) → MayEnd s → next_of s Point ≡ Some AfterPoint → SpellsFraction digits bytes
    → (t : State) × Reaches (at s negative n 0 false 0) bytes (at t negative (fold with_digit n digits) (length digits) false 0) × MayEnd t
fraction_on s negative n digits bytes m p h = elim h [
  | inl e ↦ (s, rw (e.0, e.1) refl, m)
  | inr e ↦ (InFraction, rw (e.0) (AfterPoint, rw (class_is Point _ refl (λ n. cc)) p, some digits e.1), record { ends = refl; letter = refl })
]
  where
    some : (digits : List ℕ) → IsDigits digits
        → Reaches (at AfterPoint negative n 0 false 0) digits (at InFraction negative (fold with_digit n digits) (length digits) false 0)
    some [] h = absurd h
    some (b ∷ digits) h = (
      InFraction,
      digit_goes AfterPoint InFraction b refl refl h.0,
      fraction_run negative (with_digit n b) (0 + 1) (length (b ∷ digits)) false 0 digits
          (omega arith) h.1,
    )

digits_on : (s : State) (negative : Bool) (n k : ℕ) (minus : Bool) (digits : List ℕ) → next_of s Zero ≡ Some InExponent → next_of s NonZero ≡ Some InExponent
    → IsDigits digits
    → Reaches (at s negative n k minus 0) digits (at InExponent negative n k minus (number_of digits))
digits_on s negative n k minus [] z f h = absurd h
digits_on s negative n k minus (b ∷ digits) z f h = (InExponent, digit_goes s InExponent b z f h.0, exponent_run negative n k minus (with_digit 0 b) digits h.1)

signed_on : (negative : Bool) (n k : ℕ) (minus : Bool) (sign digits : List ℕ) → SpellsExponentSign minus sign → IsDigits digits
    → Reaches (at AfterLetter negative n k false 0) (sign ++ digits) (at InExponent negative n k minus (number_of digits))
signed_on negative n k false sign digits h d = elim h [
  | inl e ↦ rw e (digits_on AfterLetter negative n k false digits refl refl d)
  | inr e ↦ rw e (AfterSign, rw (class_is Plus plus_sign refl (λ n. cc)) refl, digits_on AfterSign negative n k false digits refl refl d)
]
signed_on negative n k true sign digits h d =
    rw h (AfterSign, rw (class_is Minus minus_sign refl (λ n. cc)) refl, digits_on AfterSign negative n k true digits refl refl d)

-- what the last scan says of the parts
pub record Says (parts : Parts) (t : Scan) : Type 0 where
  pub ends : may_end_in t.state ≡ true
  pub negative : t.negative ≡ parts.negative
  pub whole : t.whole ≡ whole_of parts
  pub fraction : t.fraction ≡ length parts.fraction
  pub exponent : parts.exponent ≡ signed t.exponent_negative t.exponent

-- a scan of a whole literal, but for the exponent, and what its exponent adds
exponent_on : (s : State) (negative : Bool) (n k : ℕ) (exponent : _) (bytes : List ℕ) → MayEnd s → SpellsExponent exponent bytes
    → (t : State) × (minus : Bool) × (x : ℕ) × Reaches (at s negative n k false 0) bytes (at t negative n k minus x) × (may_end_in t ≡ true)
    × (exponent ≡ signed minus x)
exponent_on s negative n k exponent bytes m h = elim h [
  | inl e ↦ (s, false, 0, rw (e.0) refl, m.ends, e.1)
  | inr e ↦ (
    InExponent,
    e.3,
    number_of e.2,
    rw (e.4) (AfterLetter, rw (class_is Letter e.0 e.5 (λ n. cc)) m.letter, signed_on negative n k e.3 e.1 e.2 e.6 e.7),
    refl,
    e.8,
  )
]

unsigned_on : (s : State) (parts : Parts) (behind_point behind_digits : List ℕ) → next_of s Zero ≡ Some AfterZero → next_of s NonZero ≡ Some InNatural
    → IsNatural parts.natural
    → SpellsFraction parts.fraction behind_point → SpellsExponent parts.exponent behind_digits
    → (t : Scan) × Reaches (at s parts.negative 0 0 false 0) (parts.natural ++ (behind_point ++ behind_digits)) t × Says parts t
unsigned_on s parts behind_point behind_digits z f n p x =
    let a = natural_on s parts.negative parts.natural z f n in
    let b = fraction_on a.0 parts.negative (number_of parts.natural) parts.fraction behind_point a.2 a.3 p in
    let whole : ℕ = fold with_digit (number_of parts.natural) parts.fraction in
    let places : ℕ = length parts.fraction in
    let c = exponent_on b.0 parts.negative whole places parts.exponent behind_digits b.2 x in
    let last : Scan = at c.0 parts.negative whole places c.1 c.2 in
    let tail : Reaches (at a.0 parts.negative (number_of parts.natural) 0 false 0) (behind_point ++ behind_digits) last =
    reaches_on (at a.0 parts.negative (number_of parts.natural) 0 false 0)
    (at b.0 parts.negative whole places false 0) last behind_point behind_digits b.1 c.3 in
    let joined : Reaches (at s parts.negative 0 0 false 0) (parts.natural ++ (behind_point ++ behind_digits)) last =
    reaches_on (at s parts.negative 0 0 false 0) (at a.0 parts.negative (number_of parts.natural) 0 false 0) last parts.natural
    (behind_point ++ behind_digits) a.1 tail in (
      last,
      joined,
      record {
        ends = c.4;
        negative = refl;
        whole = sym (fold-append with_digit 0 parts.natural parts.fraction);
        fraction = refl;
        exponent = c.5;
      },
    )

-- the state after a number's sign
abbrev behind_sign : Bool → State
behind_sign false = Start
behind_sign true = AfterMinus

sign_on : (negative : Bool) (sign : List ℕ) → SpellsSign negative sign → Reaches start sign (at (behind_sign negative) negative 0 0 false 0)
sign_on false sign h = rw h refl
sign_on true sign h = rw h (AfterMinus, rw (class_is Minus minus_sign refl (λ n. cc)) refl, refl)

zero_goes : (negative : Bool) → next_of (behind_sign negative) Zero ≡ Some AfterZero
zero_goes false = refl
zero_goes true = refl

first_goes : (negative : Bool) → next_of (behind_sign negative) NonZero ≡ Some InNatural
first_goes false = refl
first_goes true = refl

pub parts_reach : (parts : Parts) (literal : List ℕ) → Spells parts literal → (t : Scan) × Reaches start literal t × Says parts t
parts_reach parts literal h =
    let k = unsigned_on (behind_sign parts.negative) parts h.behind_point h.behind_digits (zero_goes parts.negative)
    (first_goes parts.negative) h.spells_natural h.spells_fraction h.spells_exponent in
    (k.0, rw (h.joined) (reaches_on start _ k.0 h.sign _ (sign_on parts.negative h.sign h.spells_sign) k.1), k.2)
