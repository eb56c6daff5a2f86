-- The lanes that differ, and the first bytes.
use Rattle.gj_json.proofs.Common.{Bool, List, ap, ap₂, arith, bit_and, bytes_eq, cond, eqb, false, length, length-take-le, mask_l, mask_l-mod, not, refl, suc}
use Rattle.gj_json.proofs.Common.{sym, take-take, true, w8, zero, zip2, ℕ, ◌%◌, ◌&&◌, ◌*◌, ◌+◌, ◌-◌, ◌/◌, ◌^◌, ◌∙◌, ◌∷◌, ◌≡◌, ◌≤◌}
use Rattle.std.proofs.Common.{take}
use Rattle.std.proofs.lemmas.Bool.{ne_eqb}
use Rattle.std.proofs.lemmas.Nat.{and_mask, mod-pow-add, one_shl}
use Rattle.std.proofs.lemmas.Simd.{tops_compared, length-zip2}
use Rattle.gj_json.proofs.lanes.begins.Goals as goal

abbrev unlike : ℕ → ℕ → Bool
unlike a b = not (eqb a b)

-- so many lanes are alike where no bit of them is set
alike : (n : ℕ) (v w : List ℕ) → length v ≡ length w → n ≤ length v → eqb (mask_l (zip2 unlike v w) % 2 ^ n) 0 ≡ bytes_eq (take n v) (take n w)
alike zero v w e l = ap (λ k. eqb k 0) {x = mask_l (zip2 unlike v w) % 2 ^ 0} {y = 0} (omega arith)
alike (suc n) (x ∷ v) (y ∷ w) e l = head (eqb x y) (alike n v w (omega (arith, e)) (omega (arith, l)))
  where
    more : ℕ
    more = mask_l (zip2 unlike v w)

    split : (bit : ℕ) → bit ≤ 1 → (bit + 2 * more) % 2 ^ suc n ≡ more % 2 ^ n * 2 + bit
    split bit small =
        let next : suc n ≡ n + 1 = omega arith in
        let half : (bit + 2 * more) / 2 ^ 1 ≡ more = omega arith in
        let odd : (bit + 2 * more) % 2 ^ 1 ≡ bit = omega arith in
        ap (λ k. (bit + 2 * more) % 2 ^ k) next ∙ mod-pow-add (bit + 2 * more) n 1 ∙ ap (λ k. k % 2 ^ n * 2 + (bit + 2 * more) % 2 ^ 1) half
        ∙ ap (λ k. more % 2 ^ n * 2 + k) odd

    none : (k : ℕ) → eqb (k * 2 + 0) 0 ≡ eqb k 0
    none zero = refl
    none (suc k) = ne_eqb (suc k * 2 + 0) 0 (λ e. omega (arith, e)) ∙ sym (ne_eqb (suc k) 0 (λ e. omega (arith, e)))

    head : (same : Bool) → eqb (more % 2 ^ n) 0 ≡ bytes_eq (take n v) (take n w)
        → eqb ((cond (not same) 1 0 + 2 * more) % 2 ^ suc n) 0 ≡ (same && bytes_eq (take n v) (take n w))
    head true h = ap (λ k. eqb k 0) (split 0 (omega arith)) ∙ none (more % 2 ^ n) ∙ h
    head false h = ap (λ k. eqb k 0) (split 1 (omega arith)) ∙ ne_eqb (more % 2 ^ n * 2 + 1) 0 (λ e. omega (arith, e))
alike (suc n) _ _ e l = absurd (omega (arith, e, l))

pub returns : goal.returns
returns c =
    let n = c.args.count in
    let v = take 16 c.args.piece.now in
    let w = c.args.word.now in
    let long : length v ≡ 16 = length-take-le 16 c.args.piece.now (omega (arith, c.requires.room)) in
    let wide : length w ≡ 16 = c.told-word in
    let failed = zip2 unlike v w in
    let lanes : length failed ≡ 16 = length-zip2 unlike v w (long ∙ sym wide) ∙ long in
    ap (λ m. eqb m 0) (ap₂ (λ m k. bit_and m (k - 1)) (ap (λ bs. mask_l bs % 2 ^ 64) (tops_compared w8 unlike v w) ∙ mask_l-mod failed 64 (omega (arith, lanes)))
    (one_shl n 64 (omega (arith, c.requires.few))) ∙ and_mask (mask_l failed) n)
    ∙ alike n v w (long ∙ sym wide) (omega (arith, long, c.requires.few))
    ∙ ap (λ xs. bytes_eq xs (take n w)) (take-take n 16 c.args.piece.now c.requires.few)
