-- The cut value of a number from the lanes of its digits.
use Rattle.gj_number.proofs.Common.{All-append, All-from_recursion, AllByRecursion, Bool, Each1-chunk, Fits, IsDigit, IsTrue, List, Some, after_point}
use Rattle.gj_number.proofs.Common.{ap, arith, before_point, cases_lt, cut_in, cut_magnitude, drop, drop-take, false, fold-append, get_or}
use Rattle.gj_number.proofs.Common.{get_or-drop, get_or-take, in_lanes, inl, inr, lane_of, length, length-drop, length-map, length-take}
use Rattle.gj_number.proofs.Common.{length-take-le, limited_cut, map, number_of, places_of, pow-suc, recursion_from_All, refl, replicate, rests_in}
use Rattle.gj_number.proofs.Common.{subst, suc, sym, take, take-append-drop, take-map, take-take, true, w8, with_digit, with_value, zero, ℕ, [], ◌*◌}
use Rattle.gj_number.proofs.Common.{◌++◌, ◌+◌, ◌-◌, ◌/◌, ◌<◌, ◌^◌, ◌↔◌, ◌∙◌, ◌∷◌, ◌≡◌, ◌≤◌}
use Rattle.std.proofs.Common.{All, fold, length-append}
use lib.Lanes.{Each1}
use Rattle.std.proofs.lemmas.Nat.{div-mul-add}
use Rattle.std.proofs.lemmas.List.{length-replicate, take_all}
use Rattle.std.proofs.lemmas.List.{take-replicate, drop-map, drop_all}
use Rattle.std.proofs.lemmas.List.Elements.{All-drop, All-from_get_or}
use Rattle.std.proofs.lemmas.Simd.{Each1-replicate, chunk-fits}
use Rattle.gj_number.specs.Short.{short_value}
use Rattle.gj_number.proofs.Literals.DigitBounds.{scaled_below}
use Rattle.gj_number.proofs.Value.NormalForm.{number_bounded}
use Rattle.gj_number.proofs.Shorts.CutLanes.{cut_below}
use Rattle.gj_number.proofs.Shorts.CutNumbers.{limited_below}
use Rattle.gj_number.proofs.Shorts.NumberPrefixes.{apart}
use Rattle.gj_number.proofs.Shorts.RunEnds.{fold_grows}
use Rattle.gj_number.proofs.Shorts.ShortDecimals.{cut_raised, cut_lowered, precise_is, not_precise}
use Rattle.gj_number.proofs.Shorts.SixteenLanes.{lanes_spell, fold_zeros}

-- ---- three digits and thirteen in their lanes

each_joined : (P : ℕ → Type 0) (xs ys : List ℕ) → Each1 P xs → Each1 P ys → Each1 P (xs ++ ys)
each_joined P [] ys h k = k
each_joined P (x ∷ xs) ys h k = (h.0, each_joined P xs ys h.1 k)

spread : (before after : List ℕ) → length before ≡ 3 → length after ≡ 13
    → (cut_in (in_lanes before after) ≡ fold with_value 0 (before ++ take 7 after)) × (rests_in (in_lanes before after) ≡ drop 7 after)
    × (Each1 (λ x. x < 10) (in_lanes before after) → Each1 (λ x. x < 10) before × Each1 (λ x. x < 10) after)
    × (Each1 (λ x. x < 10) before → Each1 (λ x. x < 10) after → Each1 (λ x. x < 10) (in_lanes before after))
spread (a ∷ b ∷ c ∷ []) (f0 ∷ f1 ∷ f2 ∷ f3 ∷ f4 ∷ f5 ∷ f6 ∷ f7 ∷ f8 ∷ f9 ∷ f10 ∷ f11 ∷ f12 ∷ []) three thirteen = (
  refl,
  refl,
  λ h.
      let three = h.1.1 in
      let seven = three.1.1.1.1 in
      let eleven = seven.1.1.1.1 in (
        (h.0, (h.1.0, (three.0, tt))),
        (
          three.1.1.0,
          (
            three.1.1.1.0,
            (
              seven.0,
              (
                seven.1.1.0,
                (
                  seven.1.1.1.0,
                  (
                    eleven.0,
                    (
                      eleven.1.1.0,
                      (
                        three.1.0,
                        (
                          seven.1.0,
                          (
                            eleven.1.0,
                            (eleven.1.1.1.0, (eleven.1.1.1.1.0, (eleven.1.1.1.1.1.0, tt))),
                          ),
                        ),
                      ),
                    ),
                  ),
                ),
              ),
            ),
          ),
        ),
      ),
  λ h k.
      let more = k.1.1.1 in
      let seven = more.1.1.1.1 in
      let last : Each1 (λ x. x < 10) (f6 ∷ f10 ∷ f11 ∷ f12 ∷ []) = (more.1.1.1.0, (seven.1.1.1.0, (seven.1.1.1.1.0, (seven.1.1.1.1.1.0, tt)))) in
      let third : Each1 (λ x. x < 10) (f3 ∷ f4 ∷ f5 ∷ f9 ∷ f6 ∷ f10 ∷ f11 ∷ f12 ∷ []) = (more.0, (more.1.0, (more.1.1.0, (seven.1.1.0, last)))) in
      let second : Each1 (λ x. x < 10) (f0 ∷ f1 ∷ f2 ∷ f8 ∷ f3 ∷ f4 ∷ f5 ∷ f9 ∷ f6 ∷ f10 ∷ f11 ∷ f12 ∷ []) =
      (k.0, (k.1.0, (k.1.1.0, (seven.1.0, third)))) in
      (h.0, (h.1.0, (h.1.1.0, (seven.0, second)))),
)
spread _ _ three thirteen = absurd (omega arith)

nothing : (k : ℕ) (xs : List ℕ) → xs ≡ [] → take k xs ≡ []
nothing k xs e = take_all k xs (rw e (omega arith)) ∙ e

padded : (k j : ℕ) (xs : List ℕ) → k ≤ length xs + j → take k (xs ++ replicate j 0) ≡ take k xs ++ replicate (k - length (take k xs)) 0
padded k j [] h = let none = nothing k [] refl in
    let same : k ≡ k - 0 = omega arith in
    let within : k ≤ j = omega arith in
    take-replicate k j 0 within ∙ ap (λ m. replicate m 0) same ∙ ap (λ zs. zs ++ replicate (k - length zs) 0) (sym none)
padded zero j (x ∷ xs) h = refl
padded (suc k) j (x ∷ xs) h =
    let less : suc k - length (x ∷ take k xs) ≡ k - length (take k xs) = omega arith in
    rw less (ap (λ ys. x ∷ ys) (padded k j xs (omega arith)))

take_swap : (a b : ℕ) (xs : List ℕ) → take a (take b xs) ≡ take b (take a xs)
take_swap a b xs = elim (cases_lt a b) [
  | inl l ↦ take-take a b xs (omega arith) ∙ sym (take_all b (take a xs) (omega (arith, length-take a xs)))
  | inr m ↦ take_all a (take b xs) (omega (arith, length-take b xs)) ∙ sym (take-take b a xs m)
]

each_front : (P : ℕ → Type 0) (xs ys : List ℕ) → Each1 P (xs ++ ys) → Each1 P xs
each_front P [] ys h = tt
each_front P (x ∷ xs) ys h = (h.0, each_front P xs ys h.1)

each_after : (P : ℕ → Type 0) (xs ys : List ℕ) → Each1 P (xs ++ ys) → Each1 P ys
each_after P [] ys h = h
each_after P (x ∷ xs) ys h = each_after P xs ys h.1

each_rest : (P : ℕ → Type 0) (k : ℕ) (xs : List ℕ) → Each1 P xs → Each1 P (drop k xs)
each_rest P zero xs h = h
each_rest P (suc k) [] h = tt
each_rest P (suc k) (x ∷ xs) h = each_rest P k xs h.1

each_dropped : (P : ℕ → Type 0) (k : ℕ) (xs ys : List ℕ) → Each1 P (drop k xs) → Each1 P ys → Each1 P (drop k (xs ++ ys))
each_dropped P zero xs ys h r = each_joined P xs ys h r
each_dropped P (suc k) [] ys h r = each_rest P (suc k) ys r
each_dropped P (suc k) (x ∷ xs) ys h r = each_dropped P k xs ys h r

zeros_spell : (n : ℕ) (xs : List ℕ) → Each1 (λ x. x ≡ 0) xs → fold with_value n xs ≡ n * 10 ^ length xs
zeros_spell n [] h = omega arith
zeros_spell n (x ∷ xs) h = let z = h.0 in rw (pow-suc 10 (length xs)) (zeros_spell (n * 10 + x) xs h.1 ∙ rw z (omega arith))

padded_spells : (n : ℕ) (xs : List ℕ) (k : ℕ) → fold with_value n (xs ++ replicate k 0) ≡ fold with_value n xs * 10 ^ k
padded_spells n xs k =
    fold-append with_value n xs (replicate k 0) ∙ zeros_spell (fold with_value n xs) (replicate k 0) (Each1-replicate (λ x. x ≡ 0) k 0 refl)
    ∙ ap (λ m. fold with_value n xs * 10 ^ m) (length-replicate k 0)

-- digits that spell zero
zero_digits : (xs : List ℕ) → AllByRecursion IsDigit xs → fold with_digit 0 xs ≡ 0 → Each1 (λ b. lane_of b ≡ 0) xs
zero_digits [] d e = tt
zero_digits (b ∷ xs) d e =
    let grows = fold_grows (with_digit 0 b) xs in
    let low = d.0.0 in
    let first : with_digit 0 b ≡ 0 = omega arith in
    (omega arith, zero_digits xs d.1 (rw first at e))

each_mapped : (xs : List ℕ) → Each1 (λ b. lane_of b ≡ 0) xs → Each1 (λ x. x ≡ 0) (map lane_of xs)
each_mapped [] h = tt
each_mapped (x ∷ xs) h = (h.0, each_mapped xs h.1)

each_small : (xs : List ℕ) → Each1 (λ x. x ≡ 0) xs → Each1 (λ x. x < 10) xs
each_small [] h = tt
each_small (x ∷ xs) h = let z = h.0 in (omega arith, each_small xs h.1)

small_lanes : (xs : List ℕ) → AllByRecursion IsDigit xs → Each1 (λ x. x < 10) (map lane_of xs)
small_lanes [] d = tt
small_lanes (x ∷ xs) d = let low = d.0.0 in let high = d.0.1 in (omega arith, small_lanes xs d.1)

-- ---- from the first digit of a number on

module _ (piece : List ℕ) (fits : (k : ℕ) → Fits w8 (get_or piece k 0)) (n f : ℕ) (some : 0 < n) (few : n ≤ 3) (few_after : f ≤ 15)
    (room : 19 ≤ length piece) where
  abbrev lanes : List ℕ
  lanes = map lane_of (take 16 piece)

  abbrev before : List ℕ
  before = before_point n lanes

  abbrev after : List ℕ
  after = after_point n f lanes

  abbrev natural : List ℕ
  natural = take n piece

  abbrev fraction : List ℕ
  fraction = take f (drop (n + 1) piece)

  natural_lanes : take n lanes ≡ map lane_of natural
  natural_lanes = take-map lane_of n (take 16 piece) ∙ ap (map lane_of) (take-take n 16 piece (omega arith))

  fraction_long : length fraction ≡ f
  fraction_long = length-take-le f (drop (n + 1) piece) (omega (arith, length-drop (n + 1) piece))

  fraction_lanes : take f (drop (n + 1) lanes) ≡ map lane_of (take (15 - n) fraction)
  fraction_lanes =
      let rest : drop (n + 1) (take 16 piece) ≡ take (15 - n) (drop (n + 1) piece) =
      ap (λ k. drop (n + 1) (take k piece)) {x = 16} {y = n + 1 + (15 - n)} (omega arith) ∙ drop-take (n + 1) (15 - n) piece in
      ap (take f) (drop-map lane_of (n + 1) (take 16 piece)) ∙ take-map lane_of f (drop (n + 1) (take 16 piece))
      ∙ ap (map lane_of) (ap (take f) rest ∙ take_swap f (15 - n) (drop (n + 1) piece))

  -- the first twelve after the point are in their lanes
  after_front : (k : ℕ) → k ≤ 12 → take k after ≡ map lane_of (take k fraction) ++ replicate (k - length (take k fraction)) 0
  after_front k h =
      let digits = take f (drop (n + 1) lanes) in
      let front : take k digits ≡ map lane_of (take k fraction) =
      ap (take k) fraction_lanes ∙ take-map lane_of k (take (15 - n) fraction) ∙ ap (map lane_of) (take-take k (15 - n) fraction (omega arith)) in
      take-take k 13 (digits ++ replicate 13 0) (omega arith) ∙ padded k 13 digits (omega arith)
      ∙ ap (λ zs. zs ++ replicate (k - length zs) 0) front
      ∙ ap (λ m. map lane_of (take k fraction) ++ replicate (k - m) 0) (length-map (take k fraction) lane_of)

  before_long : length before ≡ 3
  before_long =
      let l : length lanes ≡ 16 = length-map (take 16 piece) lane_of ∙ length-take-le 16 piece (omega arith) in
      let pad : List ℕ = replicate (3 - n) 0 in
      let zeros : length pad ≡ 3 - n = length-replicate {A = ℕ} (3 - n) 0 in
      omega (arith, length-append pad (take n lanes), zeros, length-take-le n lanes (omega arith))

  after_long : length after ≡ 13
  after_long =
      let digits = take f (drop (n + 1) lanes) in
      length-take-le 13 (digits ++ replicate 13 0) (omega (arith, length-append digits (replicate 13 0)))

  shape : (cut_in (in_lanes before after) ≡ fold with_value 0 (before ++ take 7 after)) × (rests_in (in_lanes before after) ≡ drop 7 after)
      × (Each1 (λ x. x < 10) (in_lanes before after) → Each1 (λ x. x < 10) before × Each1 (λ x. x < 10) after)
      × (Each1 (λ x. x < 10) before → Each1 (λ x. x < 10) after → Each1 (λ x. x < 10) (in_lanes before after))
  shape = spread before after before_long after_long

  -- digits are small in their lanes
  pub lanes_small : All IsDigit natural → All IsDigit fraction → Each1 (λ x. x < 10) (in_lanes before after)
  lanes_small a b =
      let P : List ℕ → Type 0 = λ xs. Each1 (λ x. x < 10) xs in
      let front = subst P (sym natural_lanes) (small_lanes natural (recursion_from_All IsDigit natural a)) in
      let tail : P (take f (drop (n + 1) lanes)) =
      subst P (sym fraction_lanes) (subst P (take-map lane_of (15 - n) fraction)
      (Each1-chunk (λ x. x < 10) 0 (15 - n) (map lane_of fraction) (small_lanes fraction (recursion_from_All IsDigit fraction b)))) in
      shape.3 (each_joined (λ x. x < 10) (replicate (3 - n) 0) (take n lanes) (Each1-replicate (λ x. x < 10) (3 - n) 0 (omega arith)) front)
      (Each1-chunk (λ x. x < 10) 0 13 (take f (drop (n + 1) lanes) ++ replicate 13 0)
      (each_joined (λ x. x < 10) (take f (drop (n + 1) lanes)) (replicate 13 0) tail (Each1-replicate (λ x. x < 10) 13 0 (omega arith))))

  module _ (small : Each1 (λ x. x < 10) (in_lanes before after)) (last : 12 < f → (i : ℕ) → 12 ≤ i → i < f → IsDigit (get_or piece (n + 1 + i) 0)) where
    natural_spells : AllByRecursion IsDigit natural × (fold with_value 0 (map lane_of natural) ≡ number_of natural)
    natural_spells =
        let P : List ℕ → Type 0 = λ xs. Each1 (λ x. x < 10) xs in
        lanes_spell 0 natural (chunk-fits w8 0 n piece fits)
        (subst P natural_lanes (each_after (λ x. x < 10) (replicate (3 - n) 0) (take n lanes) (shape.2 small).0))

    -- so many digits after the point, at most twelve of them
    front_spells : (k m : ℕ) → k ≤ 12 → AllByRecursion IsDigit (take k fraction)
        × (fold with_value m (map lane_of (take k fraction)) ≡ fold with_digit m (take k fraction))
    front_spells k m h =
        let P : List ℕ → Type 0 = λ xs. Each1 (λ x. x < 10) xs in
        let front = subst P (after_front k h) (Each1-chunk (λ x. x < 10) 0 k after (shape.2 small).1) in
        lanes_spell m (take k fraction) (Each1-chunk (Fits w8) 0 k fraction (chunk-fits w8 (n + 1) f piece fits))
        (each_front (λ x. x < 10) (map lane_of (take k fraction)) (replicate (k - length (take k fraction)) 0) front)

    pub natural_digits : All IsDigit natural
    natural_digits = All-from_recursion IsDigit natural natural_spells.0

    pub fraction_digits : All IsDigit fraction
    fraction_digits =
        let P : List ℕ → Type 0 = λ xs. All IsDigit xs in
        let Q : ℕ → Type 0 = λ b. IsDigit b in
        let long = fraction_long in
        subst P (take-append-drop 12 fraction) (All-append IsDigit (take 12 fraction) (drop 12 fraction)
        (All-from_recursion IsDigit (take 12 fraction) (front_spells 12 0 (omega arith)).0)
        (All-from_get_or IsDigit (drop 12 fraction) 0 (λ i l.
        let within : 12 + i < f = omega (arith, length-drop 12 fraction) in
        let there : get_or (drop 12 fraction) i 0 ≡ get_or piece (n + 1 + (12 + i)) 0 =
        get_or-drop 12 fraction i 0 ∙ get_or-take f (drop (n + 1) piece) (12 + i) 0 within ∙ get_or-drop (n + 1) piece (12 + i) 0 in
        subst Q (sym there) (last (omega arith) (12 + i) (omega arith) within))))

    abbrev pub whole : ℕ
    whole = number_of (natural ++ fraction)

    pub whole_small : whole < 10 ^ 18
    whole_small =
        let digits = recursion_from_All IsDigit (natural ++ fraction) (All-append IsDigit natural fraction natural_digits fraction_digits) in
        let long = fraction_long in
        let few_all : length (natural ++ fraction) ≤ 18 = omega (arith, length-append natural fraction, length-take-le n piece (omega arith)) in
        let l = scaled_below whole (length (natural ++ fraction)) 0 18 (number_bounded (natural ++ fraction) digits) (omega arith) in
        omega arith

    -- the digits up to the seventh after the point, and what the rest spell
    abbrev seven : ℕ
    seven = fold with_digit (number_of natural) (take 7 fraction)

    abbrev rest : ℕ
    rest = fold with_digit 0 (drop 7 fraction)

    whole_apart : whole ≡ seven * 10 ^ (f - 7) + rest
    whole_apart =
        let long : length (drop 7 fraction) ≡ f - 7 = omega (arith, length-drop 7 fraction, fraction_long) in
        fold-append with_digit 0 natural fraction ∙ ap (fold with_digit (number_of natural)) (sym (take-append-drop 7 fraction))
        ∙ fold-append with_digit (number_of natural) (take 7 fraction) (drop 7 fraction) ∙ apart seven (drop 7 fraction)
        ∙ ap (λ m. seven * 10 ^ m + rest) long

    rest_digits : AllByRecursion IsDigit (drop 7 fraction)
    rest_digits = recursion_from_All IsDigit (drop 7 fraction) (All-drop IsDigit 7 fraction fraction_digits)

    rest_small : rest < 10 ^ (f - 7)
    rest_small =
        let long : length (drop 7 fraction) ≡ f - 7 = omega (arith, length-drop 7 fraction, fraction_long) in
        let P : ℕ → Type 0 = λ m. rest < 10 ^ m in
        subst P long (number_bounded (drop 7 fraction) rest_digits)

    cut_spelled : cut_in (in_lanes before after) ≡ seven * 10 ^ (7 - length (take 7 fraction))
    cut_spelled =
        shape.0 ∙ fold-append with_value 0 before (take 7 after)
        ∙ ap (λ m. fold with_value m (take 7 after)) (fold_zeros (3 - n) (take n lanes) ∙ ap (fold with_value 0) natural_lanes ∙ natural_spells.1)
        ∙ ap (fold with_value (number_of natural)) (after_front 7 (omega arith))
        ∙ padded_spells (number_of natural) (map lane_of (take 7 fraction)) (7 - length (take 7 fraction))
        ∙ ap (λ v. v * 10 ^ (7 - length (take 7 fraction))) (front_spells 7 (number_of natural) (omega arith)).1

    -- with a sign
    module _ (negative : Bool) where
      magnitude_is : cut_magnitude (short_value negative whole f) ≡ cut_in (in_lanes before after)
      magnitude_is = elim (cases_lt 7 f) [
        | inl l ↦
            let full : length (take 7 fraction) ≡ 7 = length-take-le 7 fraction (omega (arith, fraction_long)) in
            let one : seven ≡ seven * 10 ^ (7 - 7) = omega arith in
            cut_lowered negative whole f (f - 7) whole_small (omega arith) ∙ ap (λ v. v / 10 ^ (f - 7)) whole_apart
            ∙ div-mul-add seven (10 ^ (f - 7)) rest rest_small ∙ one ∙ ap (λ m. seven * 10 ^ (7 - m)) (sym full) ∙ sym cut_spelled
        | inr m ↦
            let long = fraction_long in
            let all : take 7 fraction ≡ fraction = take_all 7 fraction (omega arith) in
            let size : length (take 7 fraction) ≡ f = ap length all ∙ long in
            let same : whole ≡ seven = fold-append with_digit 0 natural fraction ∙ ap (fold with_digit (number_of natural)) (sym all) in
            cut_raised negative whole f whole_small m ∙ ap (λ v. v * 10 ^ (7 - f)) same ∙ ap (λ k. seven * 10 ^ (7 - k)) (sym size) ∙ sym cut_spelled
      ]

      pub cut_is : limited_cut (cut_magnitude (short_value negative whole f)) ≡ Some (cut_in (in_lanes before after))
      cut_is =
          let below = cut_below (in_lanes before after) refl small in
          ap limited_cut magnitude_is ∙ limited_below (cut_in (in_lanes before after)) (omega arith)

      -- no digit after the seventh says something
      rests_none : rest ≡ 0 → Each1 (λ x. x ≡ 0) (rests_in (in_lanes before after))
      rests_none e =
          let digits = take f (drop (n + 1) lanes) in
          let zeros = zero_digits (drop 7 fraction) rest_digits e in
          let split : 15 - n ≡ 7 + (8 - n) = omega arith in
          let there : drop 7 digits ≡ map lane_of (take (8 - n) (drop 7 fraction)) =
          ap (drop 7) fraction_lanes ∙ drop-map lane_of 7 (take (15 - n) fraction)
          ∙ ap (map lane_of) (ap (λ k. drop 7 (take k fraction)) split ∙ drop-take 7 (8 - n) fraction) in
          let P : List ℕ → Type 0 = λ xs. Each1 (λ x. x ≡ 0) xs in
          let front : P (drop 7 digits) =
          subst P (sym there) (each_mapped (take (8 - n) (drop 7 fraction)) (Each1-chunk (λ b. lane_of b ≡ 0) 0 (8 - n) (drop 7 fraction) zeros)) in
          let padded_zeros : P (drop 7 (digits ++ replicate 13 0)) =
          each_dropped (λ x. x ≡ 0) 7 digits (replicate 13 0) front (Each1-replicate (λ x. x ≡ 0) 13 0 refl) in
          subst P (sym (shape.1 ∙ drop-take 7 6 (digits ++ replicate 13 0))) (Each1-chunk (λ x. x ≡ 0) 0 6 (drop 7 (digits ++ replicate 13 0)) padded_zeros)

      rest_none : f ≤ 12 → Each1 (λ x. x ≡ 0) (rests_in (in_lanes before after)) → rest ≡ 0
      rest_none short zeros =
          let P : List ℕ → Type 0 = λ xs. Each1 (λ x. x ≡ 0) xs in
          let all : take 12 fraction ≡ fraction = take_all 12 fraction (omega (arith, fraction_long)) in
          let front : take 12 after ≡ map lane_of fraction ++ replicate (12 - length (take 12 fraction)) 0 =
          after_front 12 (omega arith) ∙ ap (λ xs. map lane_of xs ++ replicate (12 - length (take 12 fraction)) 0) all in
          let five : P (drop 7 (take 12 after)) =
          subst P (sym (drop-take 7 5 after)) (Each1-chunk (λ x. x ≡ 0) 0 5 (drop 7 after) (subst P shape.1 zeros)) in
          let lanes_none : P (drop 7 (map lane_of fraction)) =
          undropped 7 (map lane_of fraction) (replicate (12 - length (take 12 fraction)) 0) (subst (λ xs. P (drop 7 xs)) front five) in
          let mapped : P (map lane_of (drop 7 fraction)) = subst P (drop-map lane_of 7 fraction) lanes_none in
          let fits_rest : Each1 (Fits w8) (drop 7 fraction) = each_rest (Fits w8) 7 fraction (chunk-fits w8 (n + 1) f piece fits) in
          sym (lanes_spell 0 (drop 7 fraction) fits_rest (each_small (map lane_of (drop 7 fraction)) mapped)).1
          ∙ zeros_spell 0 (map lane_of (drop 7 fraction)) mapped ∙ omega arith
        where
          undropped : (k : ℕ) (xs ys : List ℕ) → Each1 (λ x. x ≡ 0) (drop k (xs ++ ys)) → Each1 (λ x. x ≡ 0) (drop k xs)
          undropped zero xs ys h = each_front (λ x. x ≡ 0) xs ys h
          undropped (suc k) [] ys h = tt
          undropped (suc k) (x ∷ xs) ys h = undropped k xs ys h

      -- the number is too precise where the rest is no zero
      precise_iff : 7 < f → (rest ≡ 0 → ⊥) ↔ (7 < places_of (short_value negative whole f))
      precise_iff l =
          let p = precise_is negative whole f (f - 7) whole_small (omega arith) in
          let back : whole / 10 ^ (f - 7) * 10 ^ (f - 7) ≡ seven * 10 ^ (f - 7) =
          ap (λ v. v / 10 ^ (f - 7) * 10 ^ (f - 7)) whole_apart ∙ ap (λ v. v * 10 ^ (f - 7)) (div-mul-add seven (10 ^ (f - 7)) rest rest_small) in
          let e = whole_apart in
          ((λ n. p.0 (λ q. n (omega arith))), (λ k z. p.1 k (omega arith)))

      pub precise_found : (has : Bool) → (has ≡ true → Each1 (λ x. x ≡ 0) (rests_in (in_lanes before after)) → ⊥)
          → (has ≡ false → Each1 (λ x. x ≡ 0) (rests_in (in_lanes before after))) → (12 < f → has ≡ true)
          → IsTrue has ↔ (7 < places_of (short_value negative whole f))
      precise_found true found none more = elim (cases_lt 7 f) [
        | inl l ↦ ((λ t. (precise_iff l).0 (λ z. found refl (rests_none z))), (λ k. refl))
        | inr m ↦ absurd (found refl (rests_none (ap (fold with_digit 0) (drop_all 7 fraction (omega (arith, fraction_long))))))
      ]
      precise_found false found none more = (
        (λ t. cc),
        (λ k. elim (cases_lt 7 f) [
          | inl l ↦ elim (cases_lt 12 f) [
            | inl w ↦ (let t = more w in cc)
            | inr w ↦ absurd ((precise_iff l).1 k (rest_none w (none refl)))
          ]
          | inr m ↦ absurd (not_precise negative whole f whole_small m k)
        ]),
      )
