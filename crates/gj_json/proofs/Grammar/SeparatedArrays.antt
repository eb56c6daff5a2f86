-- What stands between the numbers of an array, by the bytes of its separators.
use Rattle.gj_json.proofs.Common.{Bool, IsWhite, List, ap, arith, bool_byte, cut, drop, false, get_or, get_or-drop, inl, inr}
use Rattle.gj_json.proofs.Common.{length, refl, subst, sym, true, ℕ, ◌+◌, ◌-◌, ◌<◌, ◌==◌, ◌∙◌, ◌≡◌, ◌≤◌}
use Rattle.std.proofs.Common.{IsTrue, take}
use Rattle.std.proofs.lemmas.Bool.Decides.{nat_tests}
use Rattle.std.proofs.lemmas.List.{drop-drop, drop-take, get_or-take, take-take, length-take-le, length-drop}
use Rattle.std.proofs.lemmas.List.Elements.{All-get_or}
use Rattle.gj_number.specs.Bytes.{IsDigit, IsNumberByte, minus_sign}
use Rattle.gj_number.specs.Cuts.{IsSpan}
use Rattle.gj_number.specs.Internal.DigitRuns.{StartsSigned}
use Rattle.gj_number.specs.declared.short.cuts.Span.{Span}
use Rattle.gj_json.proofs.Pieces.PieceCuts.{cut_length}

-- ---- bytes that stand in a piece from an index on

module _ (piece bytes : List ℕ) (at : ℕ) (there : cut piece at (at + length bytes) ≡ bytes) where
  taken : bytes ≡ take (length bytes) (drop at piece)
  taken = sym there ∙ ap (λ n. take n (drop at piece)) {x = at + length bytes - at} {y = length bytes} (omega arith)

  pub cut_in : (i j : ℕ) → i ≤ j → j ≤ length bytes → cut piece (at + i) (at + j) ≡ cut bytes i j
  cut_in i j order within =
      let k : length bytes ≡ i + (length bytes - i) = omega arith in
      let few : j - i ≤ length bytes - i = omega arith in
      ap (λ n. take n (drop (at + i) piece)) {x = at + j - (at + i)} {y = j - i} (omega arith)
      ∙ ap (take (j - i)) (sym (drop-drop i at piece))
      ∙ sym (ap (λ xs. take (j - i) (drop i xs)) (taken ∙ ap (λ n. take n (drop at piece)) k)
      ∙ ap (take (j - i)) (drop-take i (length bytes - i) (drop at piece)) ∙ take-take (j - i) (length bytes - i) (drop i (drop at piece)) few)

  pub byte_in : (i : ℕ) → i < length bytes → get_or piece (at + i) 0 ≡ get_or bytes i 0
  byte_in i within =
      sym (ap (λ xs. get_or xs i 0) taken ∙ get_or-take (length bytes) (drop at piece) i 0 within ∙ get_or-drop at piece i 0)

-- ---- bytes that were taken out of a piece

module _ (piece bytes : List ℕ) (from to : ℕ) (is : bytes ≡ cut piece from to) (order : from ≤ to) (within : to ≤ length piece) where
  pub size_of : length bytes ≡ to - from
  size_of = ap length is ∙ cut_length piece from to within

  at_from : cut piece from (from + length bytes) ≡ bytes
  at_from = let s = size_of in ap (λ k. cut piece from k) {x = from + length bytes} {y = to} (omega arith) ∙ sym is

  pub cut_of : (i j a b : ℕ) → from ≤ i → i ≤ j → j ≤ to → from + a ≡ i → from + b ≡ j → cut bytes a b ≡ cut piece i j
  cut_of i j a b low on high ai bj =
      let s = size_of in
      sym (cut_in piece bytes from at_from a b (omega arith) (omega arith)) ∙ ap (λ k. cut piece k (from + b)) ai ∙ ap (λ k. cut piece i k) bj

  pub byte_of : (i a : ℕ) → i < to → from + a ≡ i → get_or bytes a 0 ≡ get_or piece i 0
  byte_of i a less ai = let s = size_of in sym (byte_in piece bytes from at_from a (omega arith)) ∙ ap (λ k. get_or piece k 0) ai

-- ---- the bytes beside a number

pub signed_at : (piece : List ℕ) (span : Span) (at : ℕ) (negative : Bool) → IsSpan piece span → span.first ≡ at + bool_byte negative
    → (IsTrue negative → get_or piece at 0 ≡ minus_sign) → StartsSigned (drop at piece) negative
signed_at piece span at true s first sign =
    let e : get_or (drop at piece) 0 0 ≡ minus_sign =
    get_or-drop at piece 0 0 ∙ ap (λ k. get_or piece k 0) {x = at + 0} {y = at} (omega arith) ∙ sign refl in
    ap (λ b. b == minus_sign) e
signed_at piece span at false s first sign =
    let room = s.room in
    let some = s.some in
    let few = s.few in
    let digits : List ℕ = drop span.first piece in
    let long : length (take span.natural digits) ≡ span.natural = length-take-le span.natural digits (omega (arith, length-drop span.first piece)) in
    let digit = All-get_or IsDigit (take span.natural digits) 0 0 (omega arith) s.natural_digits in
    let same : get_or (take span.natural digits) 0 0 ≡ get_or (drop at piece) 0 0 =
    get_or-take span.natural digits 0 0 some ∙ ap (λ k. get_or (drop k piece) 0 0) {x = span.first} {y = at} (omega arith) in
    let P : ℕ → Type 0 = λ b. IsDigit b in
    no_minus (get_or (drop at piece) 0 0) (subst P same digit)
  where
    no_minus : (b : ℕ) → IsDigit b → (b == minus_sign) ≡ false
    no_minus b d = let low = d.0 in grind (arith, nat_tests)

-- no number has these bytes
pub no_number : (b : ℕ) → IsNumberByte b → (b < 43 → ⊥) × (b ≡ 44 → ⊥) × (b ≡ 93 → ⊥)
no_number b (inl d) = let low = d.0 in let high = d.1 in ((λ l. omega arith), (λ e. omega arith), (λ e. omega arith))
no_number b (inr (inl i)) = ((λ l. omega arith), (λ e. omega arith), (λ e. omega arith))
no_number b (inr (inr (inl i))) = ((λ l. omega arith), (λ e. omega arith), (λ e. omega arith))
no_number b (inr (inr (inr (inl i)))) = ((λ l. omega arith), (λ e. omega arith), (λ e. omega arith))
no_number b (inr (inr (inr (inr (inl i))))) = ((λ l. omega arith), (λ e. omega arith), (λ e. omega arith))
no_number b (inr (inr (inr (inr (inr i))))) = ((λ l. omega arith), (λ e. omega arith), (λ e. omega arith))

pub white_low : (b : ℕ) → IsWhite b → b < 43
white_low b (inl e) = omega arith
white_low b (inr (inl e)) = omega arith
white_low b (inr (inr (inl e))) = omega arith
white_low b (inr (inr (inr e))) = omega arith
