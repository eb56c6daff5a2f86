-- The lanes from which a cut value is read.
use Rattle.gj_number.proofs.Common.{Each1-chunk, Fits, List, after_point, ap, append-nil, arith, before_point, bit_and, cases_lt, cond, cut_in, false}
use Rattle.gj_number.proofs.Common.{get_or, in_lanes, inl, inr, length, ltb, map, nat_tests, refl, rests_in, subst, suc, sym}
use Rattle.gj_number.proofs.Common.{tops_compared, true, w8, zero, zip2, ℕ, [], ◌%◌, ◌*◌, ◌++◌, ◌+◌, ◌-◌, ◌<◌, ◌^◌, ◌||◌, ◌∙◌, ◌∷◌, ◌≡◌, ◌≤◌, ◌⊎◌}
use Rattle.std.proofs.Common.{T}
use mir.Val.{zeroes}
use lib.Lanes.{sel_l, fold_l, top, Each1, chunk, products, pair_sums, dots, all_below}
use lib.Bits.{bit_or}
use Rattle.std.specs.Int.Bits.{and_zero_r}
use Rattle.std.proofs.lemmas.Nat.{and_mask, le_or_l, le_or_r}
use Rattle.std.proofs.lemmas.Simd.{swz_l, SwzOk, SwzOk-from_Each1, length-chunk}
use Rattle.gj_number.specs.declared.short.cut_lanes.TheConstants.{PLACED}
use Rattle.gj_number.specs.Internal.CutLanes.{by_parts}
use Rattle.gj_number.proofs.Shorts.SixteenLanes.{Below, below_at, every_each}

-- ---- where the digits are placed

pub placed_ok : (at : ℕ) → at ≤ 752 → SwzOk w8 16 16 0 (chunk 0 16 (chunk at (768 - at) PLACED))
placed_ok at h =
    let P : ℕ → Type 0 = λ j. T (zeroes 16 w8 j || ltb j 16) in
    let all : Each1 P PLACED = every_each (λ j. zeroes 16 w8 j || ltb j 16) PLACED tt in
    let rest = Each1-chunk P at (768 - at) PLACED all in
    let long : length (chunk 0 16 (chunk at (768 - at) PLACED)) ≡ 16 = length-chunk 0 16 _ (omega (arith, length-chunk at (768 - at) PLACED (omega arith))) in
    SwzOk-from_Each1 w8 16 1 16 0 _ refl (omega arith) (Each1-chunk P 0 16 _ rest)

-- what a row of the table makes of the lanes
abbrev pub placed : List ℕ → ℕ → ℕ → List ℕ
placed xs n f = swz_l w8 16 xs 0 (chunk 0 16 (chunk (256 * (n - 1) + 16 * f) (768 - (256 * (n - 1) + 16 * f)) PLACED))

abbrev pub IsPlaced : List ℕ → ℕ → ℕ → Type 0
IsPlaced xs n f = placed xs n f ≡ in_lanes (before_point n xs) (after_point n f xs)

placed_one : (xs : List ℕ) → length xs ≡ 16 → (f : ℕ) → f < 16 → IsPlaced xs 1 f
placed_one (a ∷ b ∷ c ∷ d ∷ e ∷ f ∷ g ∷ h ∷ p ∷ q ∷ r ∷ s ∷ t ∷ u ∷ v ∷ w ∷ []) len f' few =
    let xs : List ℕ = a ∷ b ∷ c ∷ d ∷ e ∷ f ∷ g ∷ h ∷ p ∷ q ∷ r ∷ s ∷ t ∷ u ∷ v ∷ w ∷ [] in
    let all : Below (IsPlaced xs 1) 16 = ((((((((((((((((tt, refl), refl), refl), refl), refl), refl), refl), refl), refl), refl), refl), refl), refl), refl), refl), refl) in
    below_at (IsPlaced xs 1) 16 f' all few
placed_one _ len f' few = absurd (omega arith)

placed_two : (xs : List ℕ) → length xs ≡ 16 → (f : ℕ) → f < 16 → IsPlaced xs 2 f
placed_two (a ∷ b ∷ c ∷ d ∷ e ∷ f ∷ g ∷ h ∷ p ∷ q ∷ r ∷ s ∷ t ∷ u ∷ v ∷ w ∷ []) len f' few =
    let xs : List ℕ = a ∷ b ∷ c ∷ d ∷ e ∷ f ∷ g ∷ h ∷ p ∷ q ∷ r ∷ s ∷ t ∷ u ∷ v ∷ w ∷ [] in
    let all : Below (IsPlaced xs 2) 16 = ((((((((((((((((tt, refl), refl), refl), refl), refl), refl), refl), refl), refl), refl), refl), refl), refl), refl), refl), refl) in
    below_at (IsPlaced xs 2) 16 f' all few
placed_two _ len f' few = absurd (omega arith)

placed_three : (xs : List ℕ) → length xs ≡ 16 → (f : ℕ) → f < 16 → IsPlaced xs 3 f
placed_three (a ∷ b ∷ c ∷ d ∷ e ∷ f ∷ g ∷ h ∷ p ∷ q ∷ r ∷ s ∷ t ∷ u ∷ v ∷ w ∷ []) len f' few =
    let xs : List ℕ = a ∷ b ∷ c ∷ d ∷ e ∷ f ∷ g ∷ h ∷ p ∷ q ∷ r ∷ s ∷ t ∷ u ∷ v ∷ w ∷ [] in
    let all : Below (IsPlaced xs 3) 16 = ((((((((((((((((tt, refl), refl), refl), refl), refl), refl), refl), refl), refl), refl), refl), refl), refl), refl), refl), refl) in
    below_at (IsPlaced xs 3) 16 f' all few
placed_three _ len f' few = absurd (omega arith)

pub placed_is : (xs : List ℕ) → length xs ≡ 16 → (n f : ℕ) → 0 < n → n ≤ 3 → f ≤ 15 → IsPlaced xs n f
placed_is xs len zero f some few within = absurd (omega arith)
placed_is xs len (suc zero) f some few within = placed_one xs len f (omega arith)
placed_is xs len (suc (suc zero)) f some few within = placed_two xs len f (omega arith)
placed_is xs len (suc (suc (suc zero))) f some few within = placed_three xs len f (omega arith)
placed_is xs len (suc (suc (suc (suc n)))) f some few within = absurd (omega arith)

-- ---- their numbers by three and three

all_below_from : (k : ℕ) (xs : List ℕ) → Each1 (λ x. x < k) xs → T (all_below k xs)
all_below_from k [] h = tt
all_below_from k (x ∷ xs) h = let l = h.0 in let e : ltb x k ≡ true = grind (arith, nat_tests) in rw e (all_below_from k xs h.1)

abbrev weights : List ℕ
weights = 100 ∷ 10 ∷ 1 ∷ 0 ∷ 100 ∷ 10 ∷ 1 ∷ 0 ∷ 100 ∷ 10 ∷ 1 ∷ 0 ∷ 1 ∷ 0 ∷ 0 ∷ 0 ∷ []

pub parts_small : (xs : List ℕ) → length xs ≡ 16 → Each1 (λ x. x < 10) xs → T (all_below 32768 (pair_sums (products xs weights)))
parts_small (a ∷ b ∷ c ∷ d ∷ e ∷ f ∷ g ∷ h ∷ p ∷ q ∷ r ∷ s ∷ t ∷ u ∷ v ∷ w ∷ []) len all =
    let A' = all.0 in
    let B' = all.1.0 in
    let C' = all.1.1.0 in
    let D' = all.1.1.1.0 in
    let E' = all.1.1.1.1.0 in
    let F' = all.1.1.1.1.1.0 in
    let G' = all.1.1.1.1.1.1.0 in
    let H' = all.1.1.1.1.1.1.1.0 in
    let P' = all.1.1.1.1.1.1.1.1.0 in
    let Q' = all.1.1.1.1.1.1.1.1.1.0 in
    let R' = all.1.1.1.1.1.1.1.1.1.1.0 in
    let S' = all.1.1.1.1.1.1.1.1.1.1.1.0 in
    let T' = all.1.1.1.1.1.1.1.1.1.1.1.1.0 in
    let U' = all.1.1.1.1.1.1.1.1.1.1.1.1.1.0 in
    let V' = all.1.1.1.1.1.1.1.1.1.1.1.1.1.1.0 in
    let W' = all.1.1.1.1.1.1.1.1.1.1.1.1.1.1.1.0 in
    let sums : List ℕ =
    (a * 100 + b * 10) ∷ (c * 1 + d * 0) ∷ (e * 100 + f * 10) ∷ (g * 1 + h * 0) ∷ (p * 100 + q * 10) ∷ (r * 1 + s * 0) ∷ (t * 1 + u * 0)
    ∷ (v * 0 + w * 0) ∷ [] in
    let small : Each1 (λ x. x < 32768) sums =
    (omega arith, (omega arith, (omega arith, (omega arith, (omega arith, (omega arith, (omega arith, (omega arith, tt)))))))) in
    all_below_from 32768 sums small
parts_small _ len all = absurd (omega arith)

three : (a b c d : ℕ) → a * 100 + b * 10 + (c * 1 + d * 0) ≡ (a * 10 + b) * 10 + c
three a b c d = omega arith

one : (a b c d : ℕ) → a * 1 + b * 0 + (c * 0 + d * 0) ≡ a
one a b c d = omega arith

pub parts_are : (xs : List ℕ) → length xs ≡ 16 → dots xs weights ≡ by_parts xs
parts_are (a ∷ b ∷ c ∷ d ∷ e ∷ f ∷ g ∷ h ∷ p ∷ q ∷ r ∷ s ∷ t ∷ u ∷ v ∷ w ∷ []) len =
    (λ i. three a b c d i ∷ three e f g h i ∷ three p q r s i ∷ one t u v w i ∷ [])
parts_are _ len = absurd (omega arith)

-- ---- seven digits of them, and all ten

masked : (x : ℕ) → x < 1000 → bit_and x 1023 ≡ x
masked x h = and_mask x 10 ∙ omega arith

-- what the code makes of four numbers in a row
abbrev pub upper_at : List ℕ → ℕ → ℕ
upper_at fs i = (bit_and (get_or fs i 0) 1023 * 1000 % 2 ^ 32 + get_or fs (i + 1) 0) % 2 ^ 32

abbrev pub lower_at : List ℕ → ℕ → ℕ
lower_at fs i = (bit_and (get_or fs i 0) 1023 * 10 % 2 ^ 32 + get_or fs (i + 1) 0) % 2 ^ 32

abbrev pub cut_at : List ℕ → ℕ → ℕ
cut_at fs i = upper_at fs i * 10000 + lower_at fs (i + 2)

three_small : (a b c : ℕ) → a < 10 → b < 10 → c < 10 → (a * 10 + b) * 10 + c < 1000
three_small a b c A B C = omega arith

upper_is : (x y : ℕ) → x < 1000 → y < 1000 → (bit_and x 1023 * 1000 % 2 ^ 32 + y) % 2 ^ 32 ≡ x * 1000 + y
upper_is x y X Y = rw (masked x X) (omega arith)

lower_is : (x y : ℕ) → x < 1000 → y < 10 → (bit_and x 1023 * 10 % 2 ^ 32 + y) % 2 ^ 32 ≡ x * 10 + y
lower_is x y X Y = rw (masked x X) (omega arith)

-- each of the four is a number of so many digits
parts_first : (xs gs : List ℕ) → length xs ≡ 16 → Each1 (λ x. x < 10) xs
    → (cut_at (by_parts xs ++ gs) 0 ≡ cut_in xs) × (upper_at (by_parts xs ++ gs) 0 < 10 ^ 7) × (lower_at (by_parts xs ++ gs) 2 < 10 ^ 7) × (cut_in xs < 10 ^ 10)
parts_first (a ∷ b ∷ c ∷ d ∷ e ∷ f ∷ g ∷ h ∷ p ∷ q ∷ r ∷ s ∷ t ∷ u ∷ v ∷ w ∷ []) gs len all =
    let x = three_small a b c all.0 all.1.0 all.1.1.0 in
    let y = three_small e f g all.1.1.1.1.0 all.1.1.1.1.1.0 all.1.1.1.1.1.1.0 in
    let z = three_small p q r all.1.1.1.1.1.1.1.1.0 all.1.1.1.1.1.1.1.1.1.0 all.1.1.1.1.1.1.1.1.1.1.0 in
    let k = all.1.1.1.1.1.1.1.1.1.1.1.1.0 in
    let up = upper_is ((a * 10 + b) * 10 + c) ((e * 10 + f) * 10 + g) x y in
    let low = lower_is ((p * 10 + q) * 10 + r) t z k in
    rw (up, low) (omega arith, omega arith, omega arith, omega arith)
parts_first _ gs len all = absurd (omega arith)

parts_after : (xs gs : List ℕ) → length xs ≡ 16 → (cut_at (by_parts xs ++ gs) 4 ≡ cut_at gs 0) × (upper_at (by_parts xs ++ gs) 4 ≡ upper_at gs 0)
    × (lower_at (by_parts xs ++ gs) 6 ≡ lower_at gs 2)
parts_after (a ∷ b ∷ c ∷ d ∷ e ∷ f ∷ g ∷ h ∷ p ∷ q ∷ r ∷ s ∷ t ∷ u ∷ v ∷ w ∷ []) gs len = (refl, refl, refl)
parts_after _ gs len = absurd (omega arith)

pub cut_below : (xs : List ℕ) → length xs ≡ 16 → Each1 (λ x. x < 10) xs → cut_in xs < 10 ^ 10
cut_below xs len all = (parts_first xs [] len all).3

pub first_cut : (xs gs : List ℕ) → length xs ≡ 16 → Each1 (λ x. x < 10) xs → cut_at (by_parts xs ++ gs) 0 ≡ cut_in xs
first_cut xs gs len all = (parts_first xs gs len all).0

pub second_cut : (xs ys : List ℕ) → length xs ≡ 16 → length ys ≡ 16 → Each1 (λ x. x < 10) ys → cut_at (by_parts xs ++ by_parts ys) 4 ≡ cut_in ys
second_cut xs ys len more all =
    (parts_after xs (by_parts ys) len).0 ∙ ap (λ zs. cut_at zs 0) (sym (append-nil (by_parts ys))) ∙ first_cut ys [] more all

pub sevens_small : (xs ys fs gs : List ℕ) → fs ≡ by_parts xs → gs ≡ by_parts ys → length xs ≡ 16 → length ys ≡ 16 → Each1 (λ x. x < 10) xs
    → Each1 (λ x. x < 10) ys
    → Each1 (λ x. x < 10 ^ 7) (upper_at (fs ++ gs) 0 ∷ lower_at (fs ++ gs) 2 ∷ upper_at (fs ++ gs) 4 ∷ lower_at (fs ++ gs) 6 ∷ [])
sevens_small xs ys fs gs e k len more all others =
    let P : List ℕ → Type 0 = λ zs. (upper_at zs 0 < 10 ^ 7) × (lower_at zs 2 < 10 ^ 7) in
    let front = parts_first xs (by_parts ys) len all in
    let back = parts_first ys [] more others in
    let other : P (by_parts ys) = subst P (append-nil (by_parts ys)) (back.1, back.2) in
    let after = parts_after xs (by_parts ys) len in
    let one : upper_at (by_parts xs ++ by_parts ys) 4 < 10 ^ 7 = rw (after.1) other.0 in
    let two : lower_at (by_parts xs ++ by_parts ys) 6 < 10 ^ 7 = rw (after.2) other.1 in
    rw (e, k) (front.1, (front.2, (one, (two, tt))))

-- ---- two numbers at once

-- the greater of each two lanes
abbrev pub greater : List ℕ → List ℕ → List ℕ
greater xs ys = sel_l (zip2 ltb xs ys) ys xs

pub greater_is : (xs ys : List ℕ) → sel_l (map (top 7) (zip2 (λ a b. cond (ltb a b) 255 0) xs ys)) ys xs ≡ greater xs ys
greater_is xs ys = ap (λ ms. sel_l ms ys xs) (tops_compared w8 ltb xs ys)

pub less_tells : (x y : ℕ) → ((ltb x y ≡ true) × (x < y)) ⊎ ((ltb x y ≡ false) × (y ≤ x))
less_tells x y = elim (cases_lt x y) [
  | inl l ↦ (let e : ltb x y ≡ true = grind (arith, nat_tests) in inl (e, l))
  | inr l ↦ (let e : ltb x y ≡ false = grind (arith, nat_tests) in inr (e, l))
]

both_zero : (xs ys : List ℕ) (k : ℕ) → length xs ≡ length ys → get_or (greater xs ys) k 0 ≡ 0 → (get_or xs k 0 ≡ 0) × (get_or ys k 0 ≡ 0)
both_zero [] [] k len e = (e, e)
both_zero (x ∷ xs) (y ∷ ys) zero len e = elim (less_tells x y) [
  | inl t ↦ (let l = rw (t.0) at e in let m = t.1 in (omega arith, omega arith))
  | inr t ↦ (let l = rw (t.0) at e in let m = t.1 in (omega arith, omega arith))
]
both_zero (x ∷ xs) (y ∷ ys) (suc k) len e = both_zero xs ys k (omega arith) e
both_zero other another k len e = absurd (omega arith)

pub rests_in_both : (xs ys : List ℕ) → length xs ≡ 16 → length ys ≡ 16 → Each1 (λ x. x ≡ 0) (rests_in (greater xs ys))
    → Each1 (λ x. x ≡ 0) (rests_in xs) × Each1 (λ x. x ≡ 0) (rests_in ys)
rests_in_both xs ys len more h =
    let same : length xs ≡ length ys = len ∙ sym more in
    let a = both_zero xs ys 3 same h.0 in
    let b = both_zero xs ys 7 same h.1.0 in
    let c = both_zero xs ys 11 same h.1.1.0 in
    let d = both_zero xs ys 13 same h.1.1.1.0 in
    let e = both_zero xs ys 14 same h.1.1.1.1.0 in
    let f = both_zero xs ys 15 same h.1.1.1.1.1.0 in
    ((a.0, (b.0, (c.0, (d.0, (e.0, (f.0, tt)))))), (a.1, (b.1, (c.1, (d.1, (e.1, (f.1, tt)))))))

-- ---- lanes that are all zero

pub all_zero : (a : ℕ) (xs : List ℕ) → fold_l (λ b x. bit_or b x) a xs ≡ 0 → (a ≡ 0) × Each1 (λ x. x ≡ 0) xs
all_zero a [] e = (e, tt)
all_zero a (x ∷ xs) e =
    let t = all_zero (bit_or a x) xs e in
    let none = t.0 in
    let one : a ≡ 0 = omega (arith, le_or_l a x) in
    let other : x ≡ 0 = omega (arith, le_or_r a x) in
    (one, (other, t.1))

pub zero_of_all : (xs : List ℕ) → Each1 (λ x. x ≡ 0) xs → fold_l (λ b x. bit_or b x) 0 xs ≡ 0
zero_of_all [] h = refl
zero_of_all (x ∷ xs) h = ap (λ y. fold_l (λ b x. bit_or b x) (bit_or 0 y) xs) h.0 ∙ zero_of_all xs h.1

-- the lanes that a digit after the seventh has
abbrev rest_lanes : List ℕ
rest_lanes = 0 ∷ 0 ∷ 0 ∷ 255 ∷ 0 ∷ 0 ∷ 0 ∷ 255 ∷ 0 ∷ 0 ∷ 0 ∷ 255 ∷ 0 ∷ 255 ∷ 255 ∷ 255 ∷ []

kept_zero : (x : ℕ) → x < 256 → bit_and x 255 ≡ 0 → x ≡ 0
kept_zero x h e = omega (arith, and_mask x 8)

pub rests_off : (xs : List ℕ) → length xs ≡ 16 → Each1 (Fits w8) xs → Each1 (λ x. x ≡ 0) (zip2 (λ a b. bit_and a b) xs rest_lanes)
    → Each1 (λ x. x ≡ 0) (rests_in xs)
rests_off (a ∷ b ∷ c ∷ d ∷ e ∷ f ∷ g ∷ h ∷ p ∷ q ∷ r ∷ s ∷ t ∷ u ∷ v ∷ w ∷ []) len fits z = (
  kept_zero d fits.1.1.1.0.fits z.1.1.1.0,
  (
    kept_zero h fits.1.1.1.1.1.1.1.0.fits z.1.1.1.1.1.1.1.0,
    (
      kept_zero s fits.1.1.1.1.1.1.1.1.1.1.1.0.fits z.1.1.1.1.1.1.1.1.1.1.1.0,
      (
        kept_zero u fits.1.1.1.1.1.1.1.1.1.1.1.1.1.0.fits z.1.1.1.1.1.1.1.1.1.1.1.1.1.0,
        (
          kept_zero v fits.1.1.1.1.1.1.1.1.1.1.1.1.1.1.0.fits z.1.1.1.1.1.1.1.1.1.1.1.1.1.1.0,
          (kept_zero w fits.1.1.1.1.1.1.1.1.1.1.1.1.1.1.1.0.fits z.1.1.1.1.1.1.1.1.1.1.1.1.1.1.1.0, tt),
        ),
      ),
    ),
  ),
)
rests_off _ len fits z = absurd (omega arith)

zero_kept : (x : ℕ) → x ≡ 0 → bit_and x 255 ≡ 0
zero_kept x e = ap (λ y. bit_and y 255) e

pub rests_masked : (xs : List ℕ) → length xs ≡ 16 → Each1 (λ x. x ≡ 0) (rests_in xs)
    → Each1 (λ x. x ≡ 0) (zip2 (λ a b. bit_and a b) xs rest_lanes)
rests_masked (a ∷ b ∷ c ∷ d ∷ e ∷ f ∷ g ∷ h ∷ p ∷ q ∷ r ∷ s ∷ t ∷ u ∷ v ∷ w ∷ []) len z = (
  and_zero_r a,
  (
    and_zero_r b,
    (
      and_zero_r c,
      (
        zero_kept d z.0,
        (
          and_zero_r e,
          (
            and_zero_r f,
            (
              and_zero_r g,
              (
                zero_kept h z.1.0,
                (
                  and_zero_r p,
                  (
                    and_zero_r q,
                    (
                      and_zero_r r,
                      (
                        zero_kept s z.1.1.0,
                        (
                          and_zero_r t,
                          (
                            zero_kept u z.1.1.1.0,
                            (zero_kept v z.1.1.1.1.0, (zero_kept w z.1.1.1.1.1.0, tt)),
                          ),
                        ),
                      ),
                    ),
                  ),
                ),
              ),
            ),
          ),
        ),
      ),
    ),
  ),
)
rests_masked _ len z = absurd (omega arith)
