-- A run of digits is found by its end.
use Rattle.gj_number.proofs.Common.{IsDigit, IsRun, List, ap, arith, cases_lt, drop, drop-take, get_or, get_or-drop, get_or-take, inl, inr, length}
use Rattle.gj_number.proofs.Common.{length-drop, length-take-le, subst, take, take_rest, with_digit, ℕ, [], ◌+◌, ◌-◌, ◌<◌, ◌∙◌, ◌∷◌, ◌≡◌, ◌≤◌}
use Rattle.std.proofs.Common.{All, fold}
use Rattle.std.proofs.lemmas.List.Elements.{All-get_or, All-drop}

pub digit_at : (xs : List ℕ) (n i : ℕ) → i < n → n ≤ length xs → All IsDigit (take n xs) → IsDigit (get_or xs i 0)
digit_at xs n i l w h =
    let e : get_or (take n xs) i 0 ≡ get_or xs i 0 = get_or-take n xs i 0 l in
    let k : i < length (take n xs) = omega (arith, length-take-le n xs w) in
    let P : ℕ → Type 0 = λ b. IsDigit b in
    subst P e (All-get_or IsDigit (take n xs) i 0 k h)

-- digits up to one that is none are the run, and so are as many as the run may have
pub run_found : (xs : List ℕ) (n k : ℕ) → n ≤ length xs → All IsDigit (take n xs) → (n < k → IsDigit (get_or xs n 0) → ⊥) → IsRun xs k → n ≡ k
run_found xs n k w h next r = elim (cases_lt n k) [
  | inl l ↦ absurd (next l (digit_at xs k n l (let v = r.within in omega arith) r.digits))
  | inr m ↦ elim (cases_lt k n) [ inl l ↦ absurd (r.ends (digit_at xs n k l w h)) | inr o ↦ omega arith ]
]

-- what is left of a run, in the slice after a place in it
pub rest_of_run : (xs : List ℕ) (i k : ℕ) → i ≤ k → IsRun xs k → IsRun (take (length xs - i) (drop i xs)) (k - i)
rest_of_run xs i k le r =
    let within = r.within in
    let at : get_or (drop i xs) (k - i) 0 ≡ get_or xs k 0 = get_or-drop i xs (k - i) 0 ∙ ap (λ n. get_or xs n 0) {y = k} (omega arith) in
    let split : k ≡ i + (k - i) = omega arith in
    let P : ℕ → Type 0 = λ n. All IsDigit (drop i (take n xs)) in
    let Q : List ℕ → Type 0 = λ ys. All IsDigit ys in
    rw (take_rest xs i) (record {
      within = omega (arith, length-drop i xs);
      digits = subst Q (drop-take i (k - i) xs) (subst P split (All-drop IsDigit i (take k xs) r.digits));
      ends = λ d. r.ends (rw (← at) d);
    })

-- digits after a number make it no less
pub fold_grows : (n : ℕ) (digits : List ℕ) → n ≤ fold with_digit n digits
fold_grows n [] = omega arith
fold_grows n (b ∷ digits) = let more = fold_grows (with_digit n b) digits in omega arith
