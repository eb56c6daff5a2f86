-- What the bytes that a literal stands for say of it.
use Rattle.gj_number.proofs.Common.{BeginsNumber, InExponent, InFraction, InNatural, IsDigit, IsNumber, List, None, Parts, Reaches}
use Rattle.gj_number.proofs.Common.{Scan, Some, Spells, State, length, may_end_in, next_of, recursion_from_All, refl, signed}
use Rattle.gj_number.proofs.Common.{start, subst, sym, true, with_digit, ℕ, [], ◌++◌, ◌+◌, ◌<◌, ◌^◌, ◌↔◌, ◌∷◌, ◌≡◌}
use Rattle.gj_number.specs.Value.{held_value, value_of}
use Rattle.gj_number.specs.Internal.NumberMachine.{class_of}
use Rattle.gj_number.proofs.Grammar.ScanPaths.{one_scan, reaches_on, reaches_part, ending}
use Rattle.gj_number.proofs.Grammar.RestsByState.{rest_is}
use Rattle.gj_number.proofs.Grammar.SpelledParts.{parts_of}
use Rattle.gj_number.proofs.Grammar.PartScans.{parts_reach, Says, at, natural_run, fraction_run, exponent_run}
use Rattle.std.specs.List.{All, fold}
use Rattle.gj_number.proofs.Grammar.FoundParts.{value_is, parts_digits}
use Rattle.gj_number.proofs.Value.NormalForm.{number_bounded}

-- the bytes that lead to a scan begin a number
pub begins : (bytes : List ℕ) (t : Scan) → Reaches start bytes t → BeginsNumber bytes
begins bytes t h =
    let e = ending t.state t refl in
    (e.0, rest_is (bytes ++ e.0) start e.1 (reaches_on start t e.1 bytes e.0 h e.2) e.3)

-- the scan of a number
pub number_scan : (bytes : List ℕ) → IsNumber bytes → (t : Scan) × Reaches start bytes t × (may_end_in t.state ≡ true)
number_scan bytes h = let p = parts_of bytes h in let k = parts_reach p.0 bytes p.1 in (k.0, k.1, k.2.ends)

-- a number's scan is one in which it may end, and only a number's is
pub may_end_is : (bytes : List ℕ) (t : Scan) → Reaches start bytes t → (may_end_in t.state ≡ true) ↔ IsNumber bytes
may_end_is bytes t h = (
  (λ m. rest_is bytes start t h m),
  (λ n.
      let k = number_scan bytes n in
      let P : Scan → Type 0 = λ u. may_end_in u.state ≡ true in
      subst P (one_scan start k.0 t bytes k.1 h) k.2),
)

-- where no state follows, no number does
pub begins_none : (bytes : List ℕ) (b : ℕ) (t : Scan) → Reaches start bytes t → next_of t.state (class_of b) ≡ None → BeginsNumber (bytes ++ b ∷ []) → ⊥
begins_none bytes b t h e n =
    let k = number_scan ((bytes ++ b ∷ []) ++ n.0) n.1 in
    let p = reaches_part start k.0 (bytes ++ b ∷ []) n.0 k.1 in
    let q = reaches_part start p.0 bytes (b ∷ []) p.1 in
    let same = one_scan start q.0 t bytes q.1 h in
    let P : Scan → Type 0 = λ u. next_of u.state (class_of b) ≡ Some q.2.0 in
    let f = subst P same q.2.1 in
    cc

-- the value by the numbers of the scan
pub value_by : (bytes : List ℕ) (t : Scan) → Reaches start bytes t → IsNumber bytes
    → (most : ℕ) × (t.whole < 10 ^ most) × (value_of bytes ≡ held_value t.negative most t.whole t.fraction (signed t.exponent_negative t.exponent))
value_by bytes t h n = go p.0 p.1 (subst P (one_scan start k.0 t bytes k.1 h) k.2)
  where
    p : (parts : Parts) × Spells parts bytes
    p = parts_of bytes n

    k : (u : Scan) × Reaches start bytes u × Says p.0 u
    k = parts_reach p.0 bytes p.1

    P : Scan → Type 0
    P u = Says p.0 u

    go : (parts : Parts) → Spells parts bytes → Says parts t → (most : ℕ) × (t.whole < 10 ^ most)
        × (value_of bytes ≡ held_value t.negative most t.whole t.fraction (signed t.exponent_negative t.exponent))
    go parts s says =
        let most = length (parts.natural ++ parts.fraction) in (
          most,
          rw says.whole (number_bounded (parts.natural ++ parts.fraction) (parts_digits parts bytes s)),
          rw (says.negative, says.whole, says.fraction, ← says.exponent) (value_is parts bytes s),
        )

-- ---- runs of digits

-- the scan after digits before the point
pub natural_on : (t : Scan) (digits : List ℕ) → t.state ≡ InNatural → All IsDigit digits
    → Reaches t digits (record t { whole = fold with_digit t.whole digits })
natural_on t digits e h =
    let P : State → Type 0 =
    λ s. Reaches (at s t.negative t.whole t.fraction t.exponent_negative t.exponent) digits
    (at s t.negative (fold with_digit t.whole digits) t.fraction t.exponent_negative t.exponent) in
    subst P (sym e) (natural_run t.negative t.whole t.fraction t.exponent_negative t.exponent digits (recursion_from_All IsDigit digits h))

-- the scan after digits after the point
pub fraction_on : (t : Scan) (digits : List ℕ) → t.state ≡ InFraction → All IsDigit digits
    → Reaches t digits (record t { whole = fold with_digit t.whole digits; fraction = t.fraction + length digits })
fraction_on t digits e h =
    let P : State → Type 0 =
    λ s. Reaches (at s t.negative t.whole t.fraction t.exponent_negative t.exponent) digits
    (at s t.negative (fold with_digit t.whole digits) (t.fraction + length digits) t.exponent_negative t.exponent) in
    subst P (sym e) (fraction_run t.negative t.whole t.fraction (t.fraction + length digits) t.exponent_negative t.exponent digits refl
    (recursion_from_All IsDigit digits h))

-- the scan after digits of the exponent
pub exponent_on : (t : Scan) (digits : List ℕ) → t.state ≡ InExponent → All IsDigit digits
    → Reaches t digits (record t { exponent = fold with_digit t.exponent digits })
exponent_on t digits e h =
    let P : State → Type 0 =
    λ s. Reaches (at s t.negative t.whole t.fraction t.exponent_negative t.exponent) digits
    (at s t.negative t.whole t.fraction t.exponent_negative (fold with_digit t.exponent digits)) in
    subst P (sym e) (exponent_run t.negative t.whole t.fraction t.exponent_negative t.exponent digits (recursion_from_All IsDigit digits h))
