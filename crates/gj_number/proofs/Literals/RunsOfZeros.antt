-- Zeros in a row: how they are found, and where they make no difference.
use Rattle.gj_number.proofs.Common.{AllByRecursion, IsDigit, IsKept, List, SpellsOn, ap, arith, drop, length, recursion_from_All, refl, subst, sym}
use Rattle.gj_number.proofs.Common.{take, take_rest, with_digit, ℕ, [], ◌*◌, ◌+◌, ◌-◌, ◌∙◌, ◌∷◌, ◌≡◌, ◌≤◌}
use Rattle.std.proofs.Common.{All, fold}
use Rattle.gj_number.proofs.Literals.OneDigitMore.{zero_fraction}
use Rattle.gj_number.proofs.Literals.RunsOfDigits.{parts_fold, parts_digits}
use Rattle.gj_number.proofs.Shorts.RunEnds.{fold_grows}

-- sixteen zeros more
pub zeros_on : (piece : List ℕ) (at count value : ℕ) → SpellsOn (take (length piece - at) (drop at piece)) 0 count value → count ≡ 16 → value ≡ 0
    → All IsDigit (take at piece) → fold with_digit 0 (take at piece) ≡ 0 → All IsDigit (take (at + 16) piece) × (fold with_digit 0 (take (at + 16) piece) ≡ 0)
zeros_on piece at count value s many none digits zeros =
    let P : List ℕ → Type 0 = λ xs. All IsDigit (take count xs) in
    let Q : ℕ → Type 0 = λ n. All IsDigit (take (at + n) piece) in
    let R : ℕ → Type 0 = λ n. fold with_digit 0 (take (at + n) piece) ≡ 0 in
    let front : fold with_digit (fold with_digit 0 (take at piece)) (take count (drop at piece)) ≡ 0 =
    ap (λ w. fold with_digit w (take count (drop at piece))) zeros ∙ ap (λ xs. fold with_digit 0 (take count xs)) (sym (take_rest piece at)) ∙ sym s.value_is
    ∙ none in
    (subst Q many (parts_digits piece at count digits (subst P (take_rest piece at) s.digits)), subst R many (sym (parts_fold piece at count 0) ∙ front))

-- zeros past the places that are counted
pub passed_zeros : (kept count pending places whole fraction total : ℕ) (zeros : List ℕ) → 1400 ≤ places → total ≡ fraction + length zeros → All IsDigit zeros
    → fold with_digit 0 zeros ≡ 0
    → IsKept kept count pending places whole fraction → IsKept kept count pending places (fold with_digit whole zeros) total
passed_zeros kept count pending places whole fraction total zeros full e digits none old =
    passed kept count pending places whole fraction total zeros full e (recursion_from_All IsDigit zeros digits) none old
  where
    passed : (kept count pending places whole fraction total : ℕ) (zeros : List ℕ) → 1400 ≤ places → total ≡ fraction + length zeros
        → AllByRecursion IsDigit zeros → fold with_digit 0 zeros ≡ 0
        → IsKept kept count pending places whole fraction → IsKept kept count pending places (fold with_digit whole zeros) total
    passed kept count pending places whole fraction total [] full e digits none old =
        let same : fraction ≡ total = omega arith in
        let P : ℕ → Type 0 = λ n. IsKept kept count pending places whole n in
        subst P same old
    passed kept count pending places whole fraction total (b ∷ zeros) full e digits none old =
        let low = digits.0.0 in
        let grows = fold_grows (with_digit 0 b) zeros in
        let zero_is : with_digit whole b ≡ whole * 10 + 0 = omega arith in
        let first : with_digit 0 b ≡ 0 = omega arith in
        let rest : fold with_digit 0 zeros ≡ 0 = rw first at none in
        let next : IsKept kept count pending places (whole * 10 + 0) (fraction + 1) =
        zero_fraction kept count pending places whole fraction pending places old (λ z. refl) (λ s. refl) (λ few. absurd (omega arith)) (λ m. refl) in
        let P : ℕ → Type 0 = λ n. IsKept kept count pending places n (fraction + 1) in
        passed kept count pending places (with_digit whole b) (fraction + 1) total zeros full (omega arith) digits.1 rest (subst P (sym zero_is) next)
