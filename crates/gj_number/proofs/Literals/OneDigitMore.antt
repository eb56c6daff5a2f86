-- What is kept of a number's digits, one digit further on.
use Rattle.gj_number.proofs.Common.{HasDigits, IsFar, IsKept, add-one, arith, cases_lt, inl, inr, min, mul-le-mul_right, pow-add, pow-suc, refl, sym}
use Rattle.gj_number.proofs.Common.{ℕ, ◌*◌, ◌+◌, ◌<◌, ◌^◌, ◌≡◌, ◌≢◌, ◌≤◌, ◌⊎◌}
use Rattle.gj_number.specs.Internal.KeptParts.{HasNoDigit, AddsOne}
use Rattle.gj_number.proofs.Value.NormalForm.{ten_above_zero}
use Rattle.gj_number.proofs.Value.UnheldNumbers.{ends_here, thirty, zero_more, far_natural, far_fraction}
use Rattle.gj_number.proofs.Literals.DigitBounds.{digit_below}

-- ---- a digit that is no zero

-- the least number of so many digits and pending
pub at_least : (kept count pending : ℕ) → 10 ^ count ≤ 10 * kept → 10 ^ (count + pending) ≤ 10 * (kept * 10 ^ pending)
at_least kept count pending h = let g = mul-le-mul_right (10 ^ pending) h in rw (pow-add 10 count pending) (omega arith)

pub digits_on : (kept count pending places whole fraction digit : ℕ) → 0 < digit → digit < 10 → count + pending < 30
    → HasDigits kept count pending places whole fraction → fraction ≡ places
    → (places' : ℕ) → places' ≤ 1400 → HasDigits (kept * 10 ^ (pending + 1) + digit) (count + pending + 1) 0 places' (whole * 10 + digit) places'
digits_on kept count pending places whole fraction digit h k few d e places' p =
    let tens_is : d.tens ≡ pending = (let f = d.behind in omega arith) in
    let power : 10 ^ (pending + 1) ≡ 10 ^ pending * 10 = rw (add-one) (pow-suc 10 pending) in
    let above = ten_above_zero pending in
    let least = at_least kept count (pending + 1) d.least in
    let most = digit_below kept count (pending + 1) digit d.below (omega arith) in
    let same : count + (pending + 1) ≡ count + pending + 1 = omega arith in
    let is : whole ≡ kept * 10 ^ pending = rw tens_is at d.whole_is in
    let scaled : kept * 10 ^ (pending + 1) ≡ kept * 10 ^ pending * 10 = rw power (omega arith) in
    record {
      some = omega arith;
      few = omega arith;
      least = (let f = rw same at least in omega arith);
      below = rw same at most;
      last = (λ f. omega arith);
      tens = 0;
      whole_is = omega arith;
      behind = refl;
      places_is = omega arith;
    }

first_digit : (digit places : ℕ) → 0 < digit → digit < 10 → places ≤ 1400 → HasDigits (0 * 10 ^ (0 + 1) + digit) (0 + 0 + 1) 0 places (0 * 10 + digit) places
first_digit digit places h k p = record {
  some = omega arith;
  few = omega arith;
  least = omega arith;
  below = omega arith;
  last = (λ f. omega arith);
  tens = 0;
  whole_is = omega arith;
  behind = refl;
  places_is = omega arith;
}

too_many : (kept count pending places whole fraction digit : ℕ) → 0 < digit → digit < 10 → 30 ≤ count + pending
    → HasDigits kept count pending places whole fraction → fraction ≡ places → (fraction' : ℕ) → IsFar (whole * 10 + digit) fraction'
too_many kept count pending places whole fraction digit h k many d e fraction' =
    let tens_is : d.tens ≡ pending = (let f = d.behind in omega arith) in
    let is : whole ≡ kept * 10 ^ pending = rw tens_is at d.whole_is in
    let least = at_least kept count pending d.least in
    let power = thirty (count + pending) many in
    ends_here whole digit fraction' h k (inl (omega arith))

-- as above, for what is kept
kept_on : (kept count pending places whole fraction digit kept' count' pending' places' : ℕ) → 0 < digit → digit < 10
    → AddsOne kept count pending digit kept' count' pending' → places' ≤ 1400
    → HasNoDigit kept count pending places whole fraction ⊎ HasDigits kept count pending places whole fraction → fraction ≡ places
    → IsKept kept' count' pending' places' (whole * 10 + digit) places'
kept_on kept count pending places whole fraction digit kept' count' pending' places' h k new p old e = elim old [
  | inl n ↦ (
      let none = n.none in
      let no_pending = n.no_pending in
      let few : count + pending < 30 = omega arith in
      let a = new.few few in
      let b = new.digits few in
      let z = new.no_pending few in
      rw (a, b, z, n.nothing, n.whole_is, none, no_pending) (inr (inl (first_digit digit places' h k p)))
      )
  | inr d ↦ elim (cases_lt (count + pending) 30) [
    | inl few ↦ (
        let a = new.few few in
        let b = new.digits few in
        let z = new.no_pending few in
        rw (a, b, z) (inr (inl (digits_on kept count pending places whole fraction digit h k few d e places' p)))
        )
    | inr many ↦ inr (inr (new.far many, too_many kept count pending places whole fraction digit h k many d e places'))
  ]
]

pub keep_natural : (kept count pending places whole digit kept' count' pending' : ℕ) → digit ≢ 0 → digit < 10
    → AddsOne kept count pending digit kept' count' pending'
    → IsKept kept count pending places whole 0 → IsKept kept' count' pending' places (whole * 10 + digit) 0
keep_natural kept count pending places whole digit kept' count' pending' h k new old = elim old [
  | inl n ↦ (let e : places ≡ 0 = (let f = n.places_is in omega arith) in
      rw e (kept_on kept count pending places whole 0 digit kept' count' pending' 0 (omega arith) k new (omega arith) (inl n) (sym e)))
  | inr o ↦ elim o [
    | inl d ↦ (let e : places ≡ 0 = (let f = d.places_is in omega arith) in
        rw e (kept_on kept count pending places whole 0 digit kept' count' pending' 0 (omega arith) k new (omega arith) (inr d) (sym e)))
    | inr l ↦ inr (inr (new.far (omega arith), far_natural whole digit k l.1))
  ]
]

pub keep_fraction : (kept count pending places whole fraction digit kept' count' pending' : ℕ) → digit ≢ 0 → digit < 10 → places < 1400
    → AddsOne kept count pending digit kept' count' pending'
    → IsKept kept count pending places whole fraction → IsKept kept' count' pending' (places + 1) (whole * 10 + digit) (fraction + 1)
keep_fraction kept count pending places whole fraction digit kept' count' pending' h k room new old = elim old [
  | inl n ↦ (let e : fraction ≡ places = (let f = n.places_is in omega arith) in
      rw e (kept_on kept count pending places whole fraction digit kept' count' pending' (places + 1) (omega arith) k new (omega arith) (inl n) e))
  | inr o ↦ elim o [
    | inl d ↦ (let e : fraction ≡ places = (let f = d.places_is in omega arith) in
        rw e (kept_on kept count pending places whole fraction digit kept' count' pending' (places + 1) (omega arith) k new (omega arith) (inr d) e))
    | inr l ↦ inr (inr (new.far (omega arith), far_fraction whole fraction digit k l.1))
  ]
]

pub past_fraction : (kept count pending places whole fraction digit : ℕ) → digit ≢ 0 → digit < 10 → 1400 ≤ places
    → IsKept kept count pending places whole fraction
    → IsFar (whole * 10 + digit) (fraction + 1)
past_fraction kept count pending places whole fraction digit h k full old = elim old [
  | inl n ↦ ends_here whole digit (fraction + 1) (omega arith) k (inr (let f = n.places_is in omega arith))
  | inr o ↦ elim o [
    | inl d ↦ ends_here whole digit (fraction + 1) (omega arith) k (inr (let f = d.places_is in omega arith))
    | inr l ↦ far_fraction whole fraction digit k l.1
  ]
]

-- ---- a zero

pub none_natural : (kept count pending places whole : ℕ) → count ≡ 0 → IsKept kept count pending places whole 0
    → IsKept kept count pending places (whole * 10 + 0) 0
none_natural kept count pending places whole z old = elim old [
  | inl n ↦ inl (record
      { none = n.none; nothing = n.nothing; no_pending = n.no_pending; whole_is = (let f = n.whole_is in omega arith); places_is = n.places_is })
  | inr o ↦ elim o [ inl d ↦ absurd (let f = d.some in omega arith) | inr l ↦ absurd (let f = l.0 in omega arith) ]
]

pub zero_natural : (kept count pending places whole : ℕ) → count ≢ 0 → IsKept kept count pending places whole 0
    → IsKept kept count (pending + 1) places (whole * 10 + 0) 0
zero_natural kept count pending places whole s old = elim old [
  | inl n ↦ absurd (s n.none)
  | inr o ↦ elim o [
    | inl d ↦ inr (inl (record {
      some = d.some;
      few = d.few;
      least = d.least;
      below = d.below;
      last = d.last;
      tens = d.tens + 1;
      whole_is = zero_more whole kept d.tens d.whole_is;
      behind = (let f = d.behind in omega arith);
      places_is = d.places_is;
    }))
    | inr l ↦ inr (inr (l.0, far_natural whole 0 (omega arith) l.1))
  ]
]

pub past_natural : (kept count pending places whole : ℕ) → count ≢ 0 → 1400 ≤ pending → IsKept kept count pending places whole 0 → IsFar (whole * 10 + 0) 0
past_natural kept count pending places whole s full old = elim old [
  | inl n ↦ absurd (s n.none)
  | inr o ↦ elim o [
    | inl d ↦ (let f = d.behind in let g = d.places_is in record {
      digits = kept;
      tens = d.tens + 1;
      whole_is = zero_more whole kept d.tens d.whole_is;
      last = d.last;
      far = inr (inl (omega arith));
    })
    | inr l ↦ far_natural whole 0 (omega arith) l.1
  ]
]

-- a zero after the point, with how many places and pending are counted now
pub zero_fraction : (kept count pending places whole fraction pending' places' : ℕ) → IsKept kept count pending places whole fraction
    → (count ≡ 0 → pending' ≡ pending) → (count ≢ 0 → pending' + places ≡ pending + places') → (places < 1400 → places' ≡ places + 1)
    → (1400 ≤ places → places' ≡ places)
    → IsKept kept count pending' places' (whole * 10 + 0) (fraction + 1)
zero_fraction kept count pending places whole fraction pending' places' old none some room full = elim old [
  | inl n ↦ inl (record {
    none = n.none;
    nothing = n.nothing;
    no_pending = (let e = none n.none in let f = n.no_pending in omega arith);
    whole_is = (let f = n.whole_is in omega arith);
    places_is = places_on n.places_is;
  })
  | inr o ↦ elim o [
    | inl d ↦ inr (inl (record {
      some = d.some;
      few = d.few;
      least = d.least;
      below = d.below;
      last = d.last;
      tens = d.tens + 1;
      whole_is = zero_more whole kept d.tens d.whole_is;
      behind = (let e = some (λ z. let s = d.some in omega arith) in let f = d.behind in omega arith);
      places_is = places_on d.places_is;
    }))
    | inr l ↦ inr (inr (l.0, far_fraction whole fraction 0 (omega arith) l.1))
  ]
]
  where
    places_on : places ≡ min fraction 1400 → places' ≡ min (fraction + 1) 1400
    places_on e = elim (cases_lt places 1400) [ inl h ↦ (let f = room h in omega arith) | inr h ↦ (let f = full h in omega arith) ]
