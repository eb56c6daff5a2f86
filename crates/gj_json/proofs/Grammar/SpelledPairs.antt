-- An array of two numbers is spelled by a pair between brackets.
use Rattle.gj_json.proofs.Common.{AllByRecursion, IsItem, IsValued, IsWhite, List, Numbered, Short, SpellsNumbers, StartsWithNumber, ap, arith, cut}
use Rattle.gj_json.proofs.Common.{drop, exact_of, get_or, get_or-drop, inl, inr, length, open_bracket, space, subst, sym, ℕ, [], ◌+◌, ◌-◌, ◌<◌, ◌∙◌}
use Rattle.gj_json.proofs.Common.{◌∷◌, ◌≡◌, ◌≤◌, ◌⊎◌}
use Rattle.std.proofs.Common.{take, length-drop}
use Rattle.std.proofs.lemmas.List.{drop-drop}
use Rattle.gj_number.specs.Short.{StartsWithPair}
use Rattle.gj_json.specs.Bytes.{comma}
use Rattle.gj_json.proofs.Pieces.PieceCuts.{cut_byte}
use Rattle.gj_json.proofs.Grammar.SpelledFlats.{item_cut, end_cut, more_cut, flat_cut}

pub none_cut : (piece : List ℕ) (a : ℕ) → AllByRecursion IsWhite (cut piece a a)
none_cut piece a =
    let z : 0 ≡ a - a = omega arith in
    let P : ℕ → Type 0 = λ n. AllByRecursion IsWhite (take n (drop a piece)) in
    subst P z tt

space_cut : (piece : List ℕ) (a b : ℕ) → a < length piece → (b ≡ a) ⊎ ((b ≡ a + 1) × (get_or piece a 0 ≡ space)) → AllByRecursion IsWhite (cut piece a b)
space_cut piece a b w (inl e) = let P : ℕ → Type 0 = λ n. AllByRecursion IsWhite (cut piece a n) in subst P (sym e) (none_cut piece a)
space_cut piece a b w (inr h) =
    let P : ℕ → Type 0 = λ n. AllByRecursion IsWhite (cut piece a n) in
    let Q : List ℕ → Type 0 = λ xs. AllByRecursion IsWhite xs in
    subst P (sym h.0) (subst Q (sym (cut_byte piece a (a + 1) w (omega arith))) (inl h.1, none_cut piece (a + 1)))

-- a number at an index
pub valued_cut : (piece : List ℕ) (a n : ℕ) (value : Short) → StartsWithNumber (drop a piece) (exact_of value) n → IsValued value (cut piece a (a + n))
valued_cut piece a n value read =
    let e : n ≡ a + n - a = omega arith in
    let P : ℕ → Type 0 = λ k. IsValued value (take k (drop a piece)) in
    subst P e (record { number = read.number; valued = sym read.value })

module _ (piece : List ℕ) (start : ℕ) (first second : Numbered) (comma_at at end : ℕ) (bracket : get_or piece 0 0 ≡ open_bracket)
    (one : first.place ≡ start + 1) (other : second.place ≡ start + 1 + at)
    (p : StartsWithPair (drop 1 piece) (exact_of first.value) (exact_of second.value) comma_at at end) where
  pub pair_within : end + 2 ≤ length piece
  pair_within = let w = p.other.within in let o = p.ordered in let v = p.one.within in omega (arith, length-drop 1 piece, length-drop at (drop 1 piece))

  after_comma : (1 + at ≡ 1 + comma_at + 1) ⊎ ((1 + at ≡ 1 + comma_at + 1 + 1) × (get_or piece (1 + comma_at + 1) 0 ≡ space))
  after_comma = elim p.between [
    | inl e ↦ inl (omega arith)
    | inr h ↦ (let e = h.0 in let k : 1 + (comma_at + 1) ≡ 1 + comma_at + 1 =
        omega arith in inr (omega arith, ap (λ n. get_or piece n 0) (sym k) ∙ sym (get_or-drop 1 piece (comma_at + 1) 0) ∙ h.1))
  ]

  comma_less : comma_at < at
  comma_less = elim p.between [ inl e ↦ omega arith | inr h ↦ (let e = h.0 in omega arith) ]

  pub pair_spelled : SpellsNumbers start (first ∷ second ∷ []) (start + 1 + end) start (take (end + 2) piece)
  pair_spelled =
      let w = pair_within in
      let o = p.ordered in
      let l = comma_less in
      let length_other = end - at in
      let read : StartsWithNumber (drop (1 + at) piece) (exact_of second.value) length_other =
      subst (λ (xs : List ℕ). StartsWithNumber xs (exact_of second.value) length_other) (drop-drop at 1 piece) p.other in
      let there : 1 + at + length_other ≡ 1 + end = omega arith in
      let value : IsValued second.value (cut piece (1 + at) (1 + end)) =
      subst (λ (n : ℕ). IsValued second.value (cut piece (1 + at) n)) there (valued_cut piece (1 + at) length_other second.value read) in
      let a : IsItem first (start + 1) (cut piece 1 (1 + comma_at)) =
      item_cut piece start first 1 1 (1 + comma_at) (1 + comma_at) (omega arith) (omega arith) (omega arith) (omega arith) (none_cut piece 1) one
      (valued_cut piece 1 comma_at first.value p.one) (none_cut piece (1 + comma_at)) in
      let b : IsItem second (start + (1 + comma_at + 1)) (cut piece (1 + comma_at + 1) (1 + end)) =
      item_cut piece start second (1 + comma_at + 1) (1 + at) (1 + end) (1 + end) (omega arith) (omega arith) (omega arith) (omega arith)
      (space_cut piece (1 + comma_at + 1) (1 + at) (omega arith) after_comma) (omega arith) value (none_cut piece (1 + end)) in
      let closing = end_cut piece start (1 + end) (omega arith) (sym (get_or-drop 1 piece end 0) ∙ p.closing) in
      let is_comma : get_or piece (1 + comma_at) 0 ≡ comma = sym (get_or-drop 1 piece comma_at 0) ∙ p.comma in
      let more = more_cut piece start second [] (start + (1 + end)) (1 + comma_at) (1 + end) (1 + end + 1) is_comma (omega arith) (omega arith)
      (omega arith) b closing in
      let flat = flat_cut piece start first (second ∷ []) (start + (1 + end)) (1 + comma_at) (1 + end + 1) bracket (omega arith) (omega arith)
      (omega arith) a more in
      let P : ℕ → Type 0 = λ n. SpellsNumbers start (first ∷ second ∷ []) n start (take (1 + end + 1) piece) in
      let Q : ℕ → Type 0 = λ n. SpellsNumbers start (first ∷ second ∷ []) (start + 1 + end) start (take n piece) in
      subst Q {x = 1 + end + 1} {y = end + 2} (omega arith) (subst P {x = start + (1 + end)} {y = start + 1 + end} (omega arith) flat)
