-- Bytes that pass a test, seen a vector at a time.
use Rattle.gj_json.proofs.Common.{Bool, Each1, List, agree_below, agree_below_at, ap, ap₂, arith, cond, drop, eqb, false, get_or, leading_from_mask_l}
use Rattle.gj_json.proofs.Common.{length, length-map, ltb, map, mask_l, mask_l-mod, not, prefix_len, prefix_len-le-length, refl, suc, sym}
use Rattle.gj_json.proofs.Common.{trailing_mask_l, true, w8, zero, zip2, ℕ, [], ◌%◌, ◌*◌, ◌+◌, ◌/◌, ◌<◌, ◌^◌, ◌∙◌, ◌∷◌, ◌≡◌, ◌≤◌}
use Rattle.std.proofs.Common.{Fits, take}
use Rattle.std.proofs.Common.{drop-drop}
use Rattle.std.proofs.lemmas.Bool.{eq-eqb, ne_eqb}
use Rattle.std.proofs.lemmas.List.Folds.{prefix_len-append}
use Rattle.std.proofs.lemmas.Simd.{map-map, chunk-drop, length-chunk, zip2_of_maps}
use lib.Count.{count_trailing_zeros}
use lib.Bits.{bit_or}
use lib.Lanes.{chunk, top}
use Rattle.std.specs.Simd.{first_chunks}

-- a mask by lanes says of each byte what the test says, if they agree on all 256
tops : (f : ℕ → ℕ) (p : ℕ → Bool) → agree_below (λ x. top 7 (f x)) p 256 ≡ true → (v : List ℕ) → Each1 (Fits w8) v → map (λ x. top 7 (f x)) v ≡ map p v
tops f p all [] fits = refl
tops f p all (x ∷ v) fits = ap₂ (λ a b. a ∷ b) (agree_below_at (λ y. top 7 (f y)) p 256 x all fits.0.fits) (tops f p all v fits.1)

pub mask_is : (f : ℕ → ℕ) (p : ℕ → Bool) (v z : List ℕ) → length v ≤ 64 → Each1 (Fits w8) v → z ≡ map f v → agree_below (λ x. top 7 (f x)) p 256 ≡ true
    → mask_l (map (top 7) z) % 2 ^ 64 ≡ mask_l (map p v)
mask_is f p v z few fits e all =
    ap (λ m. mask_l m % 2 ^ 64) (ap (map (top 7)) e ∙ map-map (top 7) f v ∙ tops f p all v fits) ∙ mask_l-mod (map p v) 64 (omega (arith, length-map v p))

-- what two vectors that are compared, and two masks that are joined, hold at a lane
abbrev pub equal : ℕ → ℕ → ℕ
equal a b = cond (eqb a b) 255 0

abbrev pub less : ℕ → ℕ → ℕ
less a b = cond (ltb a b) 255 0

abbrev pub differs : ℕ → ℕ → ℕ
differs a b = cond (not (eqb a b)) 255 0

-- the upper bit of what a comparison holds
pub top_c : (s : Bool) → top 7 (cond s 255 0) ≡ s
top_c true = refl
top_c false = refl

pub either : (f g : ℕ → ℕ) (v : List ℕ) {xs ys : List ℕ} → xs ≡ map f v → ys ≡ map g v → zip2 bit_or xs ys ≡ map (λ x. bit_or (f x) (g x)) v
either f g v e h = zip2_of_maps bit_or f g v e h

module _ (q : ℕ → Bool) where
  same_prefix : (v : List ℕ) → prefix_len (λ x. not (not (q x))) v ≡ prefix_len q v
  same_prefix [] = refl
  same_prefix (x ∷ v) = ap₂ (λ b n. cond b (1 + n) 0) (not_not (q x)) (same_prefix v)
    where
      not_not : (b : Bool) → not (not b) ≡ b
      not_not true = refl
      not_not false = refl

  -- a vector, and what comes after it
  split : (piece : List ℕ) (at n : ℕ) → at + n ≤ length piece
      → prefix_len q (drop at piece) ≡ cond (eqb (prefix_len q (chunk at n piece)) n) (n + prefix_len q (drop (at + n) piece)) (prefix_len q (chunk at n piece))
  split piece at n room =
      let v = chunk at n piece in
      ap (prefix_len q) (chunk-drop at n piece) ∙ prefix_len-append q v (drop (at + n) piece)
      ∙ ap (λ l. cond (eqb (prefix_len q v) l) (l + prefix_len q (drop (at + n) piece)) (prefix_len q v)) (length-chunk at n piece room)

  -- where no lane fails the test, the run goes on after them
  pub lanes_on : (piece : List ℕ) (at n : ℕ) → at + n ≤ length piece → mask_l (map (λ b. not (q b)) (chunk at n piece)) ≡ 0
      → prefix_len q (drop at piece) ≡ n + prefix_len q (drop (at + n) piece)
  lanes_on piece at n room none =
      let v = chunk at n piece in
      let all : prefix_len q v ≡ n = sym (same_prefix v) ∙ leading_from_mask_l (λ b. not (q b)) v none ∙ length-chunk at n piece room in
      split piece at n room ∙ ap (λ t. cond t (n + prefix_len q (drop (at + n) piece)) (prefix_len q v)) (eq-eqb _ _ all)

  no_more : (b : Bool) (m k l : ℕ) → m ≤ l → cond b (1 + m) 0 ≡ 1 + l → (m ≡ l → k ≡ 0) → cond (not b) 1 0 + 2 * k ≡ 0
  no_more true m k l w e h = let z : k ≡ 0 = h (omega arith) in omega arith
  no_more false m k l w e h = let no : ⊥ = omega arith in absurd no

  no_bit : (v : List ℕ) → prefix_len q v ≡ length v → mask_l (map (λ b. not (q b)) v) ≡ 0
  no_bit [] e = refl
  no_bit (x ∷ v) e = no_more (q x) (prefix_len q v) (mask_l (map (λ b. not (q b)) v)) (length v) (prefix_len-le-length q v) (omega (arith, e)) (no_bit v)

  first_bit : (v : List ℕ) → length v ≤ 64 → 0 < mask_l (map (λ b. not (q b)) v)
      → (count_trailing_zeros 64 (mask_l (map (λ b. not (q b)) v)) ≡ prefix_len q v) × (prefix_len q v < length v)
  first_bit v few some =
      let other : prefix_len q v ≡ length v → ⊥ = λ e. omega (arith, no_bit v e) in
      (trailing_mask_l (λ b. not (q b)) 64 v few some ∙ same_prefix v, omega (arith, prefix_len-le-length q v, other))

  -- and else it ends at the first that does
  pub lanes_stop : (piece : List ℕ) (at n : ℕ) → at + n ≤ length piece → n ≤ 64 → 0 < mask_l (map (λ b. not (q b)) (chunk at n piece))
      → (prefix_len q (drop at piece) ≡ count_trailing_zeros 64 (mask_l (map (λ b. not (q b)) (chunk at n piece))))
      × (prefix_len q (drop at piece) < n)
  lanes_stop piece at n room few some =
      let v = chunk at n piece in
      let l : length v ≡ n = length-chunk at n piece room in
      let first = first_bit v (omega arith) some in
      let end : prefix_len q (drop at piece) ≡ prefix_len q v = split piece at n room
      ∙ ap (λ t. cond t (n + prefix_len q (drop (at + n) piece)) (prefix_len q v)) (ne_eqb (prefix_len q v) n (omega (arith, first.1))) in
      (end ∙ sym first.0, omega (arith, end, first.1))

-- the blocks of a piece
pub block_at : (n k i : ℕ) (piece : List ℕ) → i < k → get_or (first_chunks n k piece) i [] ≡ chunk (i * n) n piece
block_at n zero i piece h = absurd (omega arith)
block_at n (suc k) zero piece h = let e : 0 * n ≡ 0 = omega arith in ap (λ m. take n (drop m piece)) (sym e)
block_at n (suc k) (suc i) piece h =
    let e : n + i * n ≡ suc i * n =
    omega arith in block_at n k i (drop n piece) (omega arith) ∙ ap (take n) (drop-drop (i * n) n piece) ∙ ap (λ m. take n (drop m piece)) e

-- a run by blocks of sixteen bytes: where no lane of a block fails the test, where one does, and the bytes after the last block
module _ (q : ℕ → Bool) (piece : List ℕ) (index : ℕ) (blocks : List (List ℕ)) (front : blocks ≡ first_chunks 16 (length piece / 16) piece)
    (many : length blocks ≡ length piece / 16) (run : prefix_len q piece ≡ index * 16 + prefix_len q (drop (index * 16) piece)) where
  lanes : (stops : ℕ) → index < length blocks → stops ≡ mask_l (map (λ b. not (q b)) (get_or blocks index []))
      → stops ≡ mask_l (map (λ b. not (q b)) (chunk (index * 16) 16 piece))
  lanes stops more mask =
      mask
      ∙ ap (λ v. mask_l (map (λ b. not (q b)) v)) (ap (λ bs. get_or bs index []) front ∙ block_at 16 (length piece / 16) index piece (omega (arith, many)))

  pub block_passes : (stops : ℕ) → index < length blocks → stops ≡ mask_l (map (λ b. not (q b)) (get_or blocks index [])) → stops ≡ 0
      → prefix_len q piece ≡ (index + 1) * 16 + prefix_len q (drop ((index + 1) * 16) piece)
  block_passes stops more mask none =
      let next : index * 16 + 16 ≡ (index + 1) * 16 = omega arith in
      let on = lanes_on q piece (index * 16) 16 (omega (arith, more, many)) (sym (lanes stops more mask) ∙ none) in
      omega (arith, run, on, ap (λ m. prefix_len q (drop m piece)) next)

  pub block_stops : (stops : ℕ) → index < length blocks → stops ≡ mask_l (map (λ b. not (q b)) (get_or blocks index [])) → 0 < stops
      → index * 16 + count_trailing_zeros 64 stops ≡ prefix_len q piece
  block_stops stops more mask some =
      let is = lanes stops more mask in
      let end = (lanes_stop q piece (index * 16) 16 (omega (arith, more, many)) (omega arith) (omega (arith, some, is))).0
      ∙ ap (count_trailing_zeros 64) (sym is) in
      omega (arith, run, end)

  pub rest_stops : (rest : List ℕ) → index ≤ length blocks → length blocks ≤ index → rest ≡ drop (length piece / 16 * 16) piece
      → (count : ℕ) → count ≡ prefix_len q rest → index * 16 + count ≡ prefix_len q piece
  rest_stops rest within end back count is =
      let e : length piece / 16 ≡ index = omega (arith, many, within, end) in
      let k : prefix_len q rest ≡ prefix_len q (drop (index * 16) piece) = ap (prefix_len q) (back ∙ ap (λ m. drop (m * 16) piece) e) in
      omega (arith, run, k, is)
