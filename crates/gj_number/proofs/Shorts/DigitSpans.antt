-- The digits of a number before its point and after it, by the bits of the lanes that are no digits.
use Rattle.gj_number.proofs.Common.{Fits, IsDigit, IsRun, List, ap, arith, decimal_point, drop, drop-drop, eqb_tells, get_or, get_or-drop, inl, inr}
use Rattle.gj_number.proofs.Common.{lane_of, leading, leb, length, length-drop, map, mask_l, refl, subst, sym, take, take_rest, w8, ℕ}
use Rattle.gj_number.proofs.Common.{◌+◌, ◌-◌, ◌/◌, ◌<◌, ◌^◌, ◌∙◌, ◌≡◌, ◌≤◌}
use Rattle.std.proofs.Common.{All}
use Rattle.std.specs.Int.Count.{count_trailing_zeros, trailing_of_zero}
use Rattle.gj_number.proofs.Shorts.RunEnds.{digit_at}
use Rattle.gj_number.proofs.Shorts.SixteenLanes.{both_spell, first_other, first_spell, lanes_end, lanes_long, leading_le, leading_none, natural_ends, natural_spell}
use Rattle.gj_number.proofs.Shorts.SixteenLanes.{next, run_whole}

module _ (whole : List ℕ) (all_fit : (k : ℕ) → Fits w8 (get_or whole k 0)) (at : ℕ) (room : at + 32 ≤ length whole) (lanes : List ℕ)
    (is : lanes ≡ map lane_of (take 16 (take (length whole - at) (drop at whole)))) (mask : ℕ) (bits : mask ≡ mask_l (map (leb 10) lanes)) where
  abbrev piece : List ℕ
  piece = drop at whole

  abbrev before : ℕ
  before = count_trailing_zeros 64 mask

  fits : (k : ℕ) → Fits w8 (get_or piece k 0)
  fits k = rw (get_or-drop at whole k 0) (all_fit (at + k))

  long : 16 ≤ length piece
  long = omega (arith, length-drop at whole)

  lanes_are : lanes ≡ map lane_of (take 16 piece)
  lanes_are = is ∙ ap (λ xs. map lane_of (take 16 xs)) (take_rest whole at)

  pub before_is : (k : ℕ) → IsRun piece k → k ≤ 3 → before ≡ k
  before_is k r few =
      let l = lanes_long piece lanes long fits lanes_are in
      let n = leading_le lanes l in
      let spelled = first_spell piece lanes (leading lanes) _ long fits lanes_are refl n refl in
      let found = run_whole piece lanes (leading lanes) k long lanes_are refl n spelled.digits r in
      let some : mask ≡ 0 → ⊥ = λ z. (let none = leading_none lanes mask l bits z in omega arith) in
      let t = (first_other lanes mask l bits some).0 in
      omega arith

  module _ (few : before ≤ 3) where
    some_other : mask ≡ 0 → ⊥
    some_other z = let e = ap (count_trailing_zeros 64) z ∙ trailing_of_zero 64 in omega arith

    pub before_run : IsRun piece before
    before_run = record {
      within = omega (arith, long);
      digits = (natural_spell piece lanes long fits lanes_are mask bits some_other _ refl).natural_digits;
      ends = natural_ends piece lanes long fits lanes_are mask bits some_other;
    }

    module _ (after : ℕ) (near : (mask / 2 ^ (before + 1) ≡ 0 → ⊥) → after ≡ count_trailing_zeros 64 (mask / 2 ^ (before + 1)))
        (far : mask / 2 ^ (before + 1) ≡ 0 → after ≡ leading (map lane_of (take 16 (drop (at + before + 1) whole)))) where
      abbrev rest : List ℕ
      rest = drop (at + before + 1) whole

      rest_is : rest ≡ drop (before + 1) piece
      rest_is = ap (λ k. drop k whole) {x = at + before + 1} {y = at + (before + 1)} (omega arith) ∙ sym (drop-drop (before + 1) at whole)

      rest_long : 16 ≤ length rest
      rest_long = omega (arith, length-drop (at + before + 1) whole)

      rest_fits : (k : ℕ) → Fits w8 (get_or rest k 0)
      rest_fits k = rw (get_or-drop (at + before + 1) whole k 0) (all_fit (at + before + 1 + k))

      far_digits : (n : ℕ) → n ≡ leading (map lane_of (take 16 rest)) → (n ≤ 16) × All IsDigit (take n (drop (before + 1) piece))
      far_digits n e =
          let l = leading_le (map lane_of (take 16 rest)) (lanes_long rest (map lane_of (take 16 rest)) rest_long rest_fits refl) in
          let P : List ℕ → Type 0 = λ xs. All IsDigit (take n xs) in
          let spelled = first_spell rest (map lane_of (take 16 rest)) n _ rest_long rest_fits refl e (omega arith) refl in
          (omega arith, subst P rest_is spelled.digits)

      pub after_digits : get_or whole (at + before) 0 ≡ decimal_point → (after ≡ 0 → ⊥) → All IsDigit (take after (drop (before + 1) piece))
      after_digits point some = elim (eqb_tells (mask / 2 ^ (before + 1)) 0) [
        | inl z ↦ (far_digits after (far z.1)).1
        | inr z ↦
            let e = near z.1 in
            let P : ℕ → Type 0 = λ n. All IsDigit (take n (drop (before + 1) piece)) in
            subst P (sym e)
            (both_spell piece lanes long fits lanes_are mask bits some_other z.1 _ refl (get_or-drop at whole before 0 ∙ point)
            (λ none. some (e ∙ none))).fraction_digits
      ]

      pub after_found : (k : ℕ) → IsRun (drop (before + 1) piece) k → 0 < k → k ≤ 15 → (0 < after) × (after ≤ 15)
      after_found k r some within = elim (eqb_tells (mask / 2 ^ (before + 1)) 0) [
        | inl z ↦
            let e = far z.1 in
            let d = far_digits after e in
            let P : List ℕ → Type 0 = λ xs. IsRun xs k in
            let Q : List ℕ → Type 0 = λ xs. All IsDigit (take after xs) in
            let same = run_whole rest (map lane_of (take 16 rest)) after k rest_long refl e d.0 (subst Q (sym rest_is) d.1) (subst P (sym rest_is) r) in
            (omega arith, omega arith)
        | inr z ↦
            let e = near z.1 in
            let t = next piece lanes long fits lanes_are mask bits some_other z.1 in
            let P : ℕ → Type 0 = λ b. IsDigit b in
            let first : IsDigit (get_or piece (before + 1 + 0) 0) =
            subst P (get_or-drop (before + 1) piece 0 0) (digit_at (drop (before + 1) piece) k 0 some (let w = r.within in omega arith) r.digits) in
            let none : after ≡ 0 → ⊥ =
            λ zero. lanes_end piece lanes long fits lanes_are mask bits (before + 1) 0 (omega arith) (sym zero ∙ e ∙ t.0) first in
            (grind (arith, none), omega arith)
      ]
