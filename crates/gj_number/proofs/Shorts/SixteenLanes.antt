-- Sixteen lanes.
use Rattle.gj_number.proofs.Common.{All-from_recursion, AllByRecursion, Bool, Each1-chunk, Fits, IsDigit, IsRun, List, SpellsOn, SpellsUnsigned, ap}
use Rattle.gj_number.proofs.Common.{append-nil, arith, cases_lt, cond, count_trailing_zeros, decimal_point, drop, drop-take, false, get_or}
use Rattle.gj_number.proofs.Common.{get_or-drop, get_or-map, get_or-take, inl, inr, lane_of, leading, leb, length, length-drop, length-map}
use Rattle.gj_number.proofs.Common.{length-take-le, ltb, map, map-append, mask_l, min, not, pow-suc, refl, replicate, subst, suc, sym, take, take-map}
use Rattle.gj_number.proofs.Common.{take-take, take_rest, true, w8, with_digit, with_value, zero, zip2, ℕ, [], ◌%◌, ◌*◌, ◌++◌, ◌+◌, ◌-◌, ◌/◌, ◌<◌}
use Rattle.gj_number.proofs.Common.{◌^◌, ◌||◌, ◌∙◌, ◌∷◌, ◌≡◌, ◌≤◌, ◌⊎◌}
use Rattle.std.proofs.Common.{All}
use Rattle.std.proofs.Common.{fold, T, ◌&&◌}
use mir.Val.{zeroes}
use Rattle.gj_number.specs.declared.lanes.TheConstants.{PLACES, OTHERS, POINTED}
use lib.Lanes.{Each1, chunk, number_l, digits_l}
use Rattle.std.proofs.Math.Numerals.{one-add}
use Rattle.std.proofs.lemmas.Bool.Decides.{leb_tells}
use Rattle.std.proofs.Math.Nat.{div-one, zero-div, div-div-eq-div-mul}
use Rattle.std.proofs.Math.Seq.{take-append-add}
use Rattle.std.proofs.lemmas.List.{drop-map}
use Rattle.std.proofs.lemmas.List.{take-append-le}
use Rattle.std.proofs.lemmas.List.Elements.{All-nil}
use Rattle.std.proofs.lemmas.List.Sums.{prefix_len-le-length, prefix_len_stops}
use Rattle.std.proofs.lemmas.Simd.{zip2_splat, leading_from_mask_l, trailing_mask_l, chunk-fits, Each1-replicate, swz_l, SwzOk, SwzOk-from_Each1}
use Rattle.std.proofs.lemmas.Simd.{length-chunk}
use Rattle.gj_number.proofs.Shorts.NumberPrefixes.{digit_byte}
use Rattle.gj_number.proofs.Shorts.RunEnds.{digit_at, run_found}
use Rattle.gj_number.proofs.Literals.RunsOfDigits.{parts_digits}
use Rattle.gj_number.specs.Internal.DigitLanes.{by_twos, by_both, by_fours, by_eights}

-- ---- four digits, by words of two

-- what the code makes of the words of a number, the lowest first
abbrev pub twos_in : ℕ → ℕ → List ℕ
twos_in zero x = []
twos_in (suc n) x = (x % 65536 * 2561 % 65536 / 256) ∷ twos_in n (x / 65536)

two : (a b rest : ℕ) → a < 10 → b < 10 → (a + 256 * (b + 256 * rest)) % 65536 * 2561 % 65536 / 256 ≡ a * 10 + b
two a b rest A B = let e : (a + 256 * (b + 256 * rest)) % 65536 ≡ a + 256 * b = omega arith in rw e (omega arith)

past_two : (a b rest : ℕ) → a < 10 → b < 10 → (a + 256 * (b + 256 * rest)) / 65536 ≡ rest
past_two a b rest A B = omega arith

pub twos_are : (n : ℕ) (digits : List ℕ) → length digits ≡ 2 * n → Each1 (λ x. x < 10) digits → twos_in n (number_l 256 digits) ≡ by_twos digits
twos_are zero [] len all = refl
twos_are (suc n) (a ∷ b ∷ digits) len all =
    let rest = number_l 256 digits in
    (λ i. two a b rest all.0 all.1.0 i ∷ twos_in n (past_two a b rest all.0 all.1.0 i)) ∙ ap (λ xs. (a * 10 + b) ∷ xs) (twos_are n digits (omega arith) all.1.1)
twos_are other another len all = absurd (omega arith)

pub twos_small : (digits : List ℕ) → Each1 (λ x. x < 10) digits → Each1 (λ x. x < 100) (by_twos digits)
twos_small [] all = tt
twos_small (a ∷ []) all = tt
twos_small (a ∷ b ∷ digits) all = let A = all.0 in let B = all.1.0 in (omega arith, twos_small digits all.1.1)

abbrev pub both_in : ℕ → ℕ → List ℕ
both_in zero x = []
both_in (suc n) x = (x % 4294967296 * 6553601 % 4294967296 / 65536) ∷ both_in n (x / 4294967296)

both : (a b rest : ℕ) → a < 100 → b < 100 → (a + 65536 * (b + 65536 * rest)) % 4294967296 * 6553601 % 4294967296 / 65536 ≡ a * 100 + b
both a b rest A B = let e : (a + 65536 * (b + 65536 * rest)) % 4294967296 ≡ a + 65536 * b = omega arith in rw e (omega arith)

past_both : (a b rest : ℕ) → a < 100 → b < 100 → (a + 65536 * (b + 65536 * rest)) / 4294967296 ≡ rest
past_both a b rest A B = omega arith

both_is : (n : ℕ) (numbers : List ℕ) → length numbers ≡ 2 * n → Each1 (λ x. x < 100) numbers → both_in n (number_l 65536 numbers) ≡ by_both numbers
both_is zero [] len all = refl
both_is (suc n) (a ∷ b ∷ numbers) len all =
    let rest = number_l 65536 numbers in
    (λ i. both a b rest all.0 all.1.0 i ∷ both_in n (past_both a b rest all.0 all.1.0 i))
    ∙ ap (λ xs. (a * 100 + b) ∷ xs) (both_is n numbers (omega arith) all.1.1)
both_is other another len all = absurd (omega arith)

number_small : (numbers : List ℕ) → Each1 (λ x. x < 100) numbers → number_l 65536 numbers < 65536 ^ length numbers
number_small [] all = omega arith
number_small (a ∷ numbers) all = let A = all.0 in let k = number_small numbers all.1 in let e = pow-suc 65536 (length numbers) in omega arith

bytes_back : (n x : ℕ) → x < 256 ^ n → number_l 256 (digits_l 256 n x) ≡ x
bytes_back zero x few = omega arith
bytes_back (suc n) x few =
    let e = pow-suc 256 n in
    let l : x / 256 < 256 ^ n = omega arith in
    ap (λ r. x % 256 + 256 * r) (bytes_back n (x / 256) l) ∙ omega arith

pub both_are : (numbers : List ℕ) → length numbers ≡ 8 → Each1 (λ x. x < 100) numbers
    → both_in 4 (number_l 256 (digits_l 256 16 (number_l 65536 numbers))) ≡ by_both numbers
both_are numbers len all =
    let P : ℕ → Type 0 = λ n. number_l 65536 numbers < 65536 ^ n in
    let few : number_l 65536 numbers < 65536 ^ 8 = subst P len (number_small numbers all) in
    ap (both_in 4) (bytes_back 16 (number_l 65536 numbers) (omega arith)) ∙ both_is 4 numbers (omega arith) all

pub fours_are : (digits : List ℕ) (n : ℕ) → length digits ≡ 4 * n → by_both (by_twos digits) ≡ by_fours digits
fours_are [] n len = refl
fours_are (a ∷ b ∷ c ∷ d ∷ digits) (suc n) len =
    let e : (a * 10 + b) * 100 + (c * 10 + d) ≡ ((a * 10 + b) * 10 + c) * 10 + d = omega arith in
    (λ i. e i ∷ fours_are digits n (omega arith) i)
fours_are other another len = absurd (omega arith)

-- ---- eight digits, by words of four

abbrev pub eights_in : ℕ → ℕ → List ℕ
eights_in zero x = []
eights_in (suc n) x =
    ((x % 18446744073709551616 * 4294967296 % 18446744073709551616 / 4294967296 * 100000000 % 18446744073709551616 + x % 18446744073709551616 / 4294967296)
    % 18446744073709551616) ∷ eights_in n (x / 18446744073709551616)

eight : (a b rest : ℕ) → a < 100000000 → b < 100000000 → ((a + 4294967296 * (b + 4294967296 * rest)) % 18446744073709551616 * 4294967296
    % 18446744073709551616 / 4294967296 * 100000000 % 18446744073709551616 + (a + 4294967296 * (b + 4294967296 * rest)) % 18446744073709551616 / 4294967296)
    % 18446744073709551616 ≡ a * 100000000 + b
eight a b rest A B =
    let e : (a + 4294967296 * (b + 4294967296 * rest)) % 18446744073709551616 ≡ a + 4294967296 * b = omega arith in
    let up : (a + 4294967296 * b) * 4294967296 % 18446744073709551616 ≡ a * 4294967296 = omega arith in
    rw (e, up) (omega arith)

past_eight : (a b rest : ℕ) → a < 100000000 → b < 100000000 → (a + 4294967296 * (b + 4294967296 * rest)) / 18446744073709551616 ≡ rest
past_eight a b rest A B = omega arith

eights_is : (n : ℕ) (numbers : List ℕ) → length numbers ≡ 2 * n → Each1 (λ x. x < 10 ^ 8) numbers
    → eights_in n (number_l 4294967296 numbers) ≡ by_eights numbers
eights_is zero [] len all = refl
eights_is (suc n) (a ∷ b ∷ numbers) len all =
    let rest = number_l 4294967296 numbers in
    (λ i. eight a b rest all.0 all.1.0 i ∷ eights_in n (past_eight a b rest all.0 all.1.0 i))
    ∙ ap (λ xs. (a * 100000000 + b) ∷ xs) (eights_is n numbers (omega arith) all.1.1)
eights_is other another len all = absurd (omega arith)

words_small : (numbers : List ℕ) → Each1 (λ x. x < 10 ^ 8) numbers → number_l 4294967296 numbers < 4294967296 ^ length numbers
words_small [] all = omega arith
words_small (a ∷ numbers) all = let A = all.0 in let k = words_small numbers all.1 in let e = pow-suc 4294967296 (length numbers) in omega arith

pub eights_are : (numbers : List ℕ) → length numbers ≡ 4 → Each1 (λ x. x < 10 ^ 8) numbers
    → eights_in 2 (number_l 256 (digits_l 256 16 (number_l 4294967296 numbers))) ≡ by_eights numbers
eights_are numbers len all =
    let P : ℕ → Type 0 = λ n. number_l 4294967296 numbers < 4294967296 ^ n in
    let few : number_l 4294967296 numbers < 4294967296 ^ 4 = subst P len (words_small numbers all) in
    ap (eights_in 2) (bytes_back 16 (number_l 4294967296 numbers) (omega arith)) ∙ eights_is 2 numbers (omega arith) all

-- four digits of four, as one number of sixteen
joined : (p q r s : ℕ) → p < 10000 → q < 10000 → r < 10000 → s < 10000
    → (p * 10000 % 2 ^ 32 + q) % 2 ^ 32 * 100000000 + (r * 10000 % 2 ^ 32 + s) % 2 ^ 32 ≡ ((p * 10000 + q) * 10000 + r) * 10000 + s
joined p q r s P Q R S = omega arith

small_four : (a b c d : ℕ) → a < 10 → b < 10 → c < 10 → d < 10 → ((a * 10 + b) * 10 + c) * 10 + d < 10000
small_four a b c d A B C D = omega arith

-- what the code makes of four numbers in a row
abbrev pub joined_at : List ℕ → ℕ → ℕ
joined_at fs i = (get_or fs i 0 * 10000 % 2 ^ 32 + get_or fs (i + 1) 0) % 2 ^ 32 * 100000000 + (get_or fs (i + 2) 0 * 10000 % 2 ^ 32 + get_or fs (i + 3) 0) % 2
    ^ 32

pub fours_joined : (xs gs : List ℕ) → length xs ≡ 16 → Each1 (λ x. x < 10) xs → joined_at (by_fours xs ++ gs) 0 ≡ fold with_value 0 xs
fours_joined (a ∷ b ∷ c ∷ d ∷ x ∷ f ∷ g ∷ h ∷ p ∷ q ∷ r ∷ s ∷ t ∷ u ∷ v ∷ w ∷ []) gs len all =
    let e = joined _ _ _ _ (small_four a b c d all.0 all.1.0 all.1.1.0 all.1.1.1.0)
    (small_four x f g h all.1.1.1.1.0 all.1.1.1.1.1.0 all.1.1.1.1.1.1.0 all.1.1.1.1.1.1.1.0)
    (small_four p q r s all.1.1.1.1.1.1.1.1.0 all.1.1.1.1.1.1.1.1.1.0 all.1.1.1.1.1.1.1.1.1.1.0 all.1.1.1.1.1.1.1.1.1.1.1.0)
    (small_four t u v w all.1.1.1.1.1.1.1.1.1.1.1.1.0 all.1.1.1.1.1.1.1.1.1.1.1.1.1.0 all.1.1.1.1.1.1.1.1.1.1.1.1.1.1.0 all.1.1.1.1.1.1.1.1.1.1.1.1.1.1.1.0) in
    e ∙ omega arith
fours_joined _ gs len all = absurd (omega arith)

four_first : (xs gs : List ℕ) → length xs ≡ 16 → joined_at (by_fours xs ++ gs) 4 ≡ joined_at gs 0
four_first (a ∷ b ∷ c ∷ d ∷ x ∷ f ∷ g ∷ h ∷ p ∷ q ∷ r ∷ s ∷ t ∷ u ∷ v ∷ w ∷ []) gs len = refl
four_first _ gs len = absurd (omega arith)

pub second_joined : (xs ys : List ℕ) → length xs ≡ 16 → length ys ≡ 16 → Each1 (λ x. x < 10) ys
    → joined_at (by_fours xs ++ by_fours ys) 4 ≡ fold with_value 0 ys
second_joined xs ys len more all =
    let nil : by_fours ys ++ [] ≡ by_fours ys = append-nil (by_fours ys) in
    four_first xs (by_fours ys) len ∙ ap (λ zs. joined_at zs 0) (sym nil) ∙ fours_joined ys [] more all

-- and of two of them
abbrev pub eight_at : List ℕ → ℕ → ℕ
eight_at fs i = (get_or fs i 0 * 10000 % 2 ^ 32 + get_or fs (i + 1) 0) % 2 ^ 32

eight_small : (p q : ℕ) → p < 10000 → q < 10000 → (p * 10000 % 2 ^ 32 + q) % 2 ^ 32 < 10 ^ 8
eight_small p q P Q = omega arith

first_small : (xs gs : List ℕ) → length xs ≡ 16 → Each1 (λ x. x < 10) xs
    → (eight_at (by_fours xs ++ gs) 0 < 10 ^ 8) × (eight_at (by_fours xs ++ gs) 2 < 10 ^ 8)
first_small (a ∷ b ∷ c ∷ d ∷ x ∷ f ∷ g ∷ h ∷ p ∷ q ∷ r ∷ s ∷ t ∷ u ∷ v ∷ w ∷ []) gs len all = (
  eight_small _ _ (small_four a b c d all.0 all.1.0 all.1.1.0 all.1.1.1.0)
      (small_four x f g h all.1.1.1.1.0 all.1.1.1.1.1.0 all.1.1.1.1.1.1.0 all.1.1.1.1.1.1.1.0),
  eight_small _ _ (small_four p q r s all.1.1.1.1.1.1.1.1.0 all.1.1.1.1.1.1.1.1.1.0 all.1.1.1.1.1.1.1.1.1.1.0 all.1.1.1.1.1.1.1.1.1.1.1.0)
      (small_four t u v w all.1.1.1.1.1.1.1.1.1.1.1.1.0 all.1.1.1.1.1.1.1.1.1.1.1.1.1.0 all.1.1.1.1.1.1.1.1.1.1.1.1.1.1.0 all.1.1.1.1.1.1.1.1.1.1.1.1.1.1.1.0),
)
first_small _ gs len all = absurd (omega arith)

second_small : (xs gs : List ℕ) → length xs ≡ 16 → (eight_at gs 0 < 10 ^ 8) × (eight_at gs 2 < 10 ^ 8)
    → (eight_at (by_fours xs ++ gs) 4 < 10 ^ 8) × (eight_at (by_fours xs ++ gs) 6 < 10 ^ 8)
second_small (a ∷ b ∷ c ∷ d ∷ x ∷ f ∷ g ∷ h ∷ p ∷ q ∷ r ∷ s ∷ t ∷ u ∷ v ∷ w ∷ []) gs len small = small
second_small _ gs len small = absurd (omega arith)

pub eights_small : (xs ys fs gs : List ℕ) → fs ≡ by_fours xs → gs ≡ by_fours ys → length xs ≡ 16 → length ys ≡ 16 → Each1 (λ x. x < 10) xs
    → Each1 (λ x. x < 10) ys
    → Each1 (λ x. x < 10 ^ 8) (eight_at (fs ++ gs) 0 ∷ eight_at (fs ++ gs) 2 ∷ eight_at (fs ++ gs) 4 ∷ eight_at (fs ++ gs) 6 ∷ [])
eights_small xs ys fs gs e k len more all others =
    let P : List ℕ → Type 0 = λ zs. (eight_at zs 0 < 10 ^ 8) × (eight_at zs 2 < 10 ^ 8) in
    let one : P (by_fours xs ++ by_fours ys) = first_small xs (by_fours ys) len all in
    let other : P (by_fours ys) = subst P (append-nil (by_fours ys)) (first_small ys [] more others) in
    let two = second_small xs (by_fours ys) len other in
    rw (e, k) (one.0, (one.1, (two.0, (two.1, tt))))

-- ---- moved to the end

-- what holds of each number below n
abbrev pub Below : (ℕ → Type 0) → ℕ → Type 0
Below P zero = Unit {0}
Below P (suc n) = Below P n × P n

pub below_at : (P : ℕ → Type 0) (n k : ℕ) → Below P n → k < n → P k
below_at P zero k h l = absurd (omega arith)
below_at P (suc n) k h l = elim (cases_lt k n) [ inl m ↦ below_at P n k h.0 m | inr m ↦ let e : n ≡ k = omega arith in subst P e h.1 ]

abbrev pub every : (ℕ → Bool) → List ℕ → Bool
every p [] = true
every p (x ∷ xs) = p x && every p xs

pub every_each : (p : ℕ → Bool) (xs : List ℕ) → T (every p xs) → Each1 (λ x. T (p x)) xs
every_each p [] h = tt
every_each p (x ∷ xs) h = go (every_each p xs) (p x) h
  where
    go : (T (every p xs) → Each1 (λ y. T (p y)) xs) → (b : Bool) → T (b && every p xs) → T b × Each1 (λ y. T (p y)) xs
    go rest true k = (tt, rest k)
    go rest false k = absurd k

-- each place is one of a lane, or none
pub places_ok : (count : ℕ) → count ≤ 16 → SwzOk w8 16 16 0 (chunk 0 16 (chunk count (32 - count) PLACES))
places_ok count h =
    let P : ℕ → Type 0 = λ j. T (zeroes 16 w8 j || ltb j 16) in
    let all : Each1 P PLACES = every_each (λ j. zeroes 16 w8 j || ltb j 16) PLACES tt in
    let rest = Each1-chunk P count (32 - count) PLACES all in
    let long : length (chunk 0 16 (chunk count (32 - count) PLACES)) ≡ 16 =
    length-chunk 0 16 _ (omega (arith, length-chunk count (32 - count) PLACES (omega arith))) in
    SwzOk-from_Each1 w8 16 1 16 0 _ refl (omega arith) (Each1-chunk P 0 16 _ rest)

pub moved_is : (xs : List ℕ) → length xs ≡ 16 → (count : ℕ) → count ≤ 16
    → swz_l w8 16 xs 0 (chunk 0 16 (chunk count (32 - count) PLACES)) ≡ replicate (16 - count) 0 ++ take count xs
moved_is (a ∷ b ∷ c ∷ d ∷ x ∷ f ∷ g ∷ h ∷ p ∷ q ∷ r ∷ s ∷ t ∷ u ∷ v ∷ w ∷ []) len count few =
    let xs : List ℕ = a ∷ b ∷ c ∷ d ∷ x ∷ f ∷ g ∷ h ∷ p ∷ q ∷ r ∷ s ∷ t ∷ u ∷ v ∷ w ∷ [] in
    let P : ℕ → Type 0 = λ k. swz_l w8 16 xs 0 (chunk 0 16 (chunk k (32 - k) PLACES)) ≡ replicate (16 - k) 0 ++ take k xs in
    let all : Below P 17 =
    (((((((((((((((((tt, refl), refl), refl), refl), refl), refl), refl), refl), refl), refl), refl), refl), refl), refl), refl), refl), refl) in
    below_at P 17 count all (omega arith)
moved_is _ len count few = absurd (omega arith)

-- ---- a lane taken out

pub others_ok : (at : ℕ) → at < 16 → SwzOk w8 16 16 0 (chunk 0 16 (chunk (16 * at) (256 - 16 * at) OTHERS))
others_ok at h =
    let P : ℕ → Type 0 = λ j. T (zeroes 16 w8 j || ltb j 16) in
    let all : Each1 P OTHERS = every_each (λ j. zeroes 16 w8 j || ltb j 16) OTHERS tt in
    let rest = Each1-chunk P (16 * at) (256 - 16 * at) OTHERS all in
    let long : length (chunk 0 16 (chunk (16 * at) (256 - 16 * at) OTHERS)) ≡ 16 =
    length-chunk 0 16 _ (omega (arith, length-chunk (16 * at) (256 - 16 * at) OTHERS (omega arith))) in
    SwzOk-from_Each1 w8 16 1 16 0 _ refl (omega arith) (Each1-chunk P 0 16 _ rest)

pub others_is : (xs : List ℕ) → length xs ≡ 16 → (at : ℕ) → at < 16
    → swz_l w8 16 xs 0 (chunk 0 16 (chunk (16 * at) (256 - 16 * at) OTHERS)) ≡ take at xs ++ (drop (at + 1) xs ++ 0 ∷ [])
others_is (a ∷ b ∷ c ∷ d ∷ x ∷ f ∷ g ∷ h ∷ p ∷ q ∷ r ∷ s ∷ t ∷ u ∷ v ∷ w ∷ []) len at few =
    let xs : List ℕ = a ∷ b ∷ c ∷ d ∷ x ∷ f ∷ g ∷ h ∷ p ∷ q ∷ r ∷ s ∷ t ∷ u ∷ v ∷ w ∷ [] in
    let P : ℕ → Type 0 = λ k. swz_l w8 16 xs 0 (chunk 0 16 (chunk (16 * k) (256 - 16 * k) OTHERS)) ≡ take k xs ++ (drop (k + 1) xs ++ 0 ∷ []) in
    let all : Below P 16 = ((((((((((((((((tt, refl), refl), refl), refl), refl), refl), refl), refl), refl), refl), refl), refl), refl), refl), refl), refl) in
    below_at P 16 at all few
others_is _ len at few = absurd (omega arith)

-- ---- both parts of a number with a point, by one row

pub pointed_ok : (at : ℕ) → at ≤ 752 → SwzOk w8 16 16 0 (chunk 0 16 (chunk at (768 - at) POINTED))
pointed_ok at h =
    let P : ℕ → Type 0 = λ j. T (zeroes 16 w8 j || ltb j 16) in
    let all : Each1 P POINTED = every_each (λ j. zeroes 16 w8 j || ltb j 16) POINTED tt in
    let rest = Each1-chunk P at (768 - at) POINTED all in
    let long : length (chunk 0 16 (chunk at (768 - at) POINTED)) ≡ 16 = length-chunk 0 16 _ (omega (arith, length-chunk at (768 - at) POINTED (omega arith))) in
    SwzOk-from_Each1 w8 16 1 16 0 _ refl (omega arith) (Each1-chunk P 0 16 _ rest)

-- what a row of the table leaves of the lanes
abbrev pub IsRow : List ℕ → ℕ → ℕ → Type 0
IsRow xs n f = swz_l w8 16 xs 0 (chunk 0 16 (chunk (256 * (n - 1) + 16 * f) (768 - (256 * (n - 1) + 16 * f)) POINTED)) ≡ replicate (16 - (n + f)) 0 ++ take
    (n + f) (take n xs ++ (drop (n + 1) xs ++ 0 ∷ []))

row_one : (xs : List ℕ) → length xs ≡ 16 → (f : ℕ) → f < 15 → IsRow xs 1 f
row_one (a ∷ b ∷ c ∷ d ∷ x ∷ y ∷ g ∷ h ∷ p ∷ q ∷ r ∷ s ∷ t ∷ u ∷ v ∷ w ∷ []) len f few =
    let xs : List ℕ = a ∷ b ∷ c ∷ d ∷ x ∷ y ∷ g ∷ h ∷ p ∷ q ∷ r ∷ s ∷ t ∷ u ∷ v ∷ w ∷ [] in
    let all : Below (IsRow xs 1) 15 =
    (((((((((((((((tt, refl), refl), refl), refl), refl), refl), refl), refl), refl), refl), refl), refl), refl), refl), refl) in
    below_at (IsRow xs 1) 15 f all few
row_one _ len f few = absurd (omega arith)

row_two : (xs : List ℕ) → length xs ≡ 16 → (f : ℕ) → f < 14 → IsRow xs 2 f
row_two (a ∷ b ∷ c ∷ d ∷ x ∷ y ∷ g ∷ h ∷ p ∷ q ∷ r ∷ s ∷ t ∷ u ∷ v ∷ w ∷ []) len f few =
    let xs : List ℕ = a ∷ b ∷ c ∷ d ∷ x ∷ y ∷ g ∷ h ∷ p ∷ q ∷ r ∷ s ∷ t ∷ u ∷ v ∷ w ∷ [] in
    let all : Below (IsRow xs 2) 14 = ((((((((((((((tt, refl), refl), refl), refl), refl), refl), refl), refl), refl), refl), refl), refl), refl), refl) in
    below_at (IsRow xs 2) 14 f all few
row_two _ len f few = absurd (omega arith)

row_three : (xs : List ℕ) → length xs ≡ 16 → (f : ℕ) → f < 13 → IsRow xs 3 f
row_three (a ∷ b ∷ c ∷ d ∷ x ∷ y ∷ g ∷ h ∷ p ∷ q ∷ r ∷ s ∷ t ∷ u ∷ v ∷ w ∷ []) len f few =
    let xs : List ℕ = a ∷ b ∷ c ∷ d ∷ x ∷ y ∷ g ∷ h ∷ p ∷ q ∷ r ∷ s ∷ t ∷ u ∷ v ∷ w ∷ [] in
    let all : Below (IsRow xs 3) 13 = (((((((((((((tt, refl), refl), refl), refl), refl), refl), refl), refl), refl), refl), refl), refl), refl) in
    below_at (IsRow xs 3) 13 f all few
row_three _ len f few = absurd (omega arith)

pub pointed_is : (xs : List ℕ) → length xs ≡ 16 → (n f : ℕ) → 0 < n → n ≤ 3 → n + 1 + f ≤ 16 → IsRow xs n f
pointed_is xs len zero f some few within = absurd (omega arith)
pointed_is xs len (suc zero) f some few within = row_one xs len f (omega arith)
pointed_is xs len (suc (suc zero)) f some few within = row_two xs len f (omega arith)
pointed_is xs len (suc (suc (suc zero))) f some few within = row_three xs len f (omega arith)
pointed_is xs len (suc (suc (suc (suc n)))) f some few within = absurd (omega arith)

-- ---- the digits at the start

leading_small : (xs : List ℕ) → Each1 (λ x. x < 10) (take (leading xs) xs)
leading_small [] = tt
leading_small (x ∷ xs) = elim (leb_tells 10 x) [
  | inl e ↦ rw (e.0) tt
  | inr e ↦ rw (e.0, one-add) (omega arith, leading_small xs)
]

each_on : (xs ys : List ℕ) → Each1 (λ x. x < 10) xs → Each1 (λ x. x < 10) ys → Each1 (λ x. x < 10) (xs ++ ys)
each_on [] ys h k = k
each_on (x ∷ xs) ys h k = (h.0, each_on xs ys h.1 k)

pub fold_zeros : (n : ℕ) (xs : List ℕ) → fold with_value 0 (replicate n 0 ++ xs) ≡ fold with_value 0 xs
fold_zeros zero xs = refl
fold_zeros (suc n) xs = fold_zeros n xs

-- lanes of digits are digits, and spell what the bytes do
pub lanes_spell : (n : ℕ) (xs : List ℕ) → Each1 (Fits w8) xs → Each1 (λ x. x < 10) (map lane_of xs) → AllByRecursion IsDigit xs
    × (fold with_value n (map lane_of xs) ≡ fold with_digit n xs)
lanes_spell n [] fits h = (tt, refl)
lanes_spell n (x ∷ xs) fits h =
    let byte = fits.0.fits in
    let d = digit_byte x byte (omega arith) in
    let rest = lanes_spell (with_digit n x) xs fits.1 h.1 in
    ((d.0, rest.0), rw (d.1) rest.1)

-- the lanes moved to the end are digits
pub moved_small : (lanes : List ℕ) (count : ℕ) → count ≡ leading lanes → Each1 (λ x. x < 10) (replicate (16 - count) 0 ++ take count lanes)
moved_small lanes count e =
    each_on (replicate (16 - count) 0) (take count lanes) (Each1-replicate (λ x. x < 10) (16 - count) 0 (omega arith)) (rw e (leading_small lanes))

pub first_spell : (piece lanes : List ℕ) (count value : ℕ) → 16 ≤ length piece → ((k : ℕ) → Fits w8 (get_or piece k 0)) → lanes ≡ map lane_of (take 16 piece)
    → count ≡ leading lanes → count ≤ 16
    → value ≡ fold with_value 0 (replicate (16 - count) 0 ++ take count lanes) → SpellsOn piece 0 count value
first_spell piece lanes count value long fits e c few v =
    let small : Each1 (λ x. x < 10) (take count lanes) = rw c (leading_small lanes) in
    let front : take count lanes ≡ map lane_of (take count piece) =
    ap (take count) e ∙ take-map lane_of count (take 16 piece) ∙ ap (map lane_of) (take-take count 16 piece few) in
    let P : List ℕ → Type 0 = λ xs. Each1 (λ x. x < 10) xs in
    let k = lanes_spell 0 (take count piece) (chunk-fits w8 0 count piece fits) (subst P front small) in
    record {
      within = omega arith;
      digits = All-from_recursion IsDigit (take count piece) k.0;
      value_is = v ∙ fold_zeros (16 - count) (take count lanes) ∙ ap (fold with_value 0) front ∙ k.1;
    }

-- ---- what the code finds

pub lanes_are : (piece : List ℕ) → 16 ≤ length piece → zip2 (λ a b. (a + (256 - b)) % 256) (take 16 piece) (replicate 16 48) ≡ map lane_of (take 16 piece)
lanes_are piece long = zip2_splat (λ a b. (a + (256 - b)) % 256) (take 16 piece) 16 48 (length-take-le 16 piece long)

pub leading_none : (lanes : List ℕ) (mask : ℕ) → length lanes ≡ 16 → mask ≡ mask_l (map (leb 10) lanes) → mask ≡ 0 → 16 ≡ leading lanes
leading_none lanes mask long e none = sym (leading_from_mask_l (leb 10) lanes (sym e ∙ none) ∙ long)

pub leading_some : (lanes : List ℕ) (mask : ℕ) → length lanes ≡ 16 → mask ≡ mask_l (map (leb 10) lanes) → (mask ≡ 0 → ⊥)
    → count_trailing_zeros 64 mask ≡ leading lanes
leading_some lanes mask long e some = ap (count_trailing_zeros 64) e ∙ trailing_mask_l (leb 10) 64 lanes (omega arith) (omega arith)

pub leading_le : (lanes : List ℕ) → length lanes ≡ 16 → leading lanes ≤ 16
leading_le lanes long = let k = prefix_len-le-length (λ x. not (leb 10 x)) lanes in omega arith

-- after the digits at the start stands a byte that is none
pub lane_ends : (piece : List ℕ) (n : ℕ) → 16 ≤ length piece → n ≡ leading (map lane_of (take 16 piece)) → n < 16 → IsDigit (get_or piece n 0) → ⊥
lane_ends piece n long e few d =
    let lanes = map lane_of (take 16 piece) in
    let t : length (take 16 piece) ≡ 16 = length-take-le 16 piece long in
    let l : length lanes ≡ 16 = length-map (take 16 piece) lane_of ∙ t in
    let stops : not (leb 10 (get_or lanes n 0)) ≡ false = rw e (prefix_len_stops (λ x. not (leb 10 x)) lanes 0 (omega arith)) in
    let here : get_or lanes n 0 ≡ lane_of (get_or piece n 0) =
    get_or-map lane_of (take 16 piece) n 0 0 (omega arith) ∙ ap lane_of (get_or-take 16 piece n 0 few) in
    let low = d.0 in
    let high = d.1 in
    elim (leb_tells 10 (get_or lanes n 0)) [
      | inl h ↦ (let k = h.1 in omega arith)
      | inr h ↦ (let f : not false ≡ false = rw (h.0) at stops in cc)
    ]

pub run_whole : (piece lanes : List ℕ) (n count : ℕ) → 16 ≤ length piece → lanes ≡ map lane_of (take 16 piece) → n ≡ leading lanes → n ≤ 16
    → All IsDigit (take n piece) → IsRun piece count → n ≡ min count 16
run_whole piece lanes n count long e f few digits r =
    let ends : n < 16 → IsDigit (get_or piece n 0) → ⊥ = λ l. lane_ends piece n long (f ∙ ap leading e) l in
    let w = r.within in
    elim (cases_lt count 16) [
      | inl l ↦ (let k = run_found piece n count (omega arith) digits (λ m. ends (omega arith)) r in omega arith)
      | inr m ↦ elim (cases_lt n 16) [ inl l ↦ absurd (ends l (digit_at piece count n (omega arith) (omega arith) r.digits)) | inr k ↦ omega arith ]
    ]

-- digits in more lanes
pub digits_on : (piece lanes : List ℕ) (at count : ℕ) → at + 16 ≤ length piece → ((k : ℕ) → Fits w8 (get_or piece k 0))
    → lanes ≡ map lane_of (take 16 (take (length piece - at) (drop at piece))) → count ≡ leading lanes → count ≤ 16
    → All IsDigit (take at piece) → All IsDigit (take (at + count) piece)
digits_on piece lanes at count long fits e c few front =
    let rest = drop at piece in
    let fits_on : (k : ℕ) → Fits w8 (get_or rest k 0) = λ k. rw (get_or-drop at piece k 0) (fits (at + k)) in
    let same : lanes ≡ map lane_of (take 16 rest) = e ∙ ap (λ xs. map lane_of (take 16 xs)) (take_rest piece at) in
    let spelled = first_spell rest lanes count _ (omega (arith, length-drop at piece)) fits_on same c few refl in
    parts_digits piece at count front spelled.digits

-- ---- digits, a byte, and digits

mask_rest : (ms : List Bool) (k : ℕ) → mask_l ms / 2 ^ k ≡ mask_l (drop k ms)
mask_rest ms zero = div-one (mask_l ms)
mask_rest [] (suc k) = zero-div (2 ^ suc k)
mask_rest (m ∷ ms) (suc k) =
    let e : 2 ^ suc k ≡ 2 * 2 ^ k = pow-suc 2 k ∙ omega arith in
    let h : mask_l (m ∷ ms) / 2 ≡ mask_l ms = half m (mask_l ms) in
    ap (λ n. mask_l (m ∷ ms) / n) e ∙ sym (div-div-eq-div-mul (mask_l (m ∷ ms)) 2 (2 ^ k)) ∙ ap (λ n. n / 2 ^ k) h ∙ mask_rest ms k
  where
    half : (m : Bool) (n : ℕ) → (cond m 1 0 + 2 * n) / 2 ≡ n
    half true n = omega arith
    half false n = omega arith

pub mask_after : (lanes : List ℕ) (k : ℕ) → mask_l (map (leb 10) lanes) / 2 ^ k ≡ mask_l (map (leb 10) (drop k lanes))
mask_after lanes k = mask_rest (map (leb 10) lanes) k ∙ ap mask_l (drop-map (leb 10) k lanes)

two_lanes : (lanes : List ℕ) (n f : ℕ) → length lanes ≡ 16 → n < 16 → n + 1 + f ≤ 16
    → take (n + f) (take n lanes ++ (drop (n + 1) lanes ++ 0 ∷ [])) ≡ take n lanes ++ take f (drop (n + 1) lanes)
two_lanes lanes n f long few fits =
    let l : length (take n lanes) ≡ n = length-take-le n lanes (omega arith) in
    let P : ℕ → Type 0 = λ k. take (k + f) (take n lanes ++ (drop (n + 1) lanes ++ 0 ∷ [])) ≡ take n lanes ++ take f (drop (n + 1) lanes) in
    subst P l (take-append-add (take n lanes) (drop (n + 1) lanes ++ 0 ∷ []) f
    ∙ ap (λ xs. take n lanes ++ xs) (take-append-le f (drop (n + 1) lanes) (0 ∷ []) (omega (arith, length-drop (n + 1) lanes))))

-- the lanes after the byte that is no digit are those of the bytes there
lanes_after : (piece : List ℕ) (n f : ℕ) → n + 1 + f ≤ 16 → take f (drop (n + 1) (map lane_of (take 16 piece))) ≡ map lane_of (take f (drop (n + 1) piece))
lanes_after piece n f fits =
    let k : 16 ≡ n + 1 + (16 - (n + 1)) = omega arith in
    let e : drop (n + 1) (take 16 piece) ≡ take (16 - (n + 1)) (drop (n + 1) piece) =
    ap (λ m. drop (n + 1) (take m piece)) k ∙ drop-take (n + 1) (16 - (n + 1)) piece in
    ap (take f) (drop-map lane_of (n + 1) (take 16 piece) ∙ ap (map lane_of) e) ∙ take-map lane_of f (take (16 - (n + 1)) (drop (n + 1) piece))
    ∙ ap (map lane_of) (take-take f (16 - (n + 1)) (drop (n + 1) piece) (omega arith))

each_both : (xs ys : List ℕ) → Each1 (Fits w8) xs → Each1 (Fits w8) ys → Each1 (Fits w8) (xs ++ ys)
each_both [] ys h k = k
each_both (x ∷ xs) ys h k = (h.0, each_both xs ys h.1 k)

digits_apart : (xs ys : List ℕ) → AllByRecursion IsDigit (xs ++ ys) → AllByRecursion IsDigit xs × AllByRecursion IsDigit ys
digits_apart [] ys h = (tt, h)
digits_apart (x ∷ xs) ys h = let k = digits_apart xs ys h.1 in ((h.0, k.0), k.1)

leading_less : (lanes : List ℕ) → (mask_l (map (leb 10) lanes) ≡ 0 → ⊥) → leading lanes < length lanes
leading_less [] h = absurd (h refl)
leading_less (x ∷ xs) h = elim (leb_tells 10 x) [
  | inl e ↦ rw (e.0) (omega arith)
  | inr e ↦ rw (e.0) (let k = leading_less xs (λ z. h (rw (e.0, z) refl)) in omega arith)
]

pub first_other : (lanes : List ℕ) (mask : ℕ) → length lanes ≡ 16 → mask ≡ mask_l (map (leb 10) lanes) → (mask ≡ 0 → ⊥)
    → (count_trailing_zeros 64 mask ≡ leading lanes) × (count_trailing_zeros 64 mask < 16)
first_other lanes mask long e some =
    let t : count_trailing_zeros 64 mask ≡ leading lanes = leading_some lanes mask long e some in
    let l = leading_less lanes (λ z. some (e ∙ z)) in
    (t, omega arith)

pub next_other : (lanes : List ℕ) (mask k : ℕ) → length lanes ≡ 16 → k ≤ 16 → mask ≡ mask_l (map (leb 10) lanes) → (mask / 2 ^ k ≡ 0 → ⊥)
    → (count_trailing_zeros 64 (mask / 2 ^ k) ≡ leading (drop k lanes)) × (k + count_trailing_zeros 64 (mask / 2 ^ k) < 16)
next_other lanes mask k long few e some =
    let f : mask / 2 ^ k ≡ mask_l (map (leb 10) (drop k lanes)) = ap (λ n. n / 2 ^ k) e ∙ mask_after lanes k in
    let l : length (drop k lanes) ≡ 16 - k = omega (arith, length-drop k lanes) in
    let t : count_trailing_zeros 64 (mask / 2 ^ k) ≡ leading (drop k lanes) =
    ap (count_trailing_zeros 64) f ∙ trailing_mask_l (leb 10) 64 (drop k lanes) (omega arith) (omega arith) in
    let m = leading_less (drop k lanes) (λ z. some (f ∙ z)) in
    (t, omega arith)

pub next_small : (lanes : List ℕ) (k n : ℕ) → n ≡ leading (drop k lanes) → Each1 (λ x. x < 10) (take n (drop k lanes))
next_small lanes k n e = rw e (leading_small (drop k lanes))

module _ (piece lanes : List ℕ) (long : 16 ≤ length piece) (fits : (k : ℕ) → Fits w8 (get_or piece k 0)) (e : lanes ≡ map lane_of (take 16 piece)) where
  pub lanes_long : length lanes ≡ 16
  lanes_long = ap length e ∙ length-map (take 16 piece) lane_of ∙ length-take-le 16 piece long

  -- the lanes of both runs, as digits
  two_small : (n f : ℕ) → n ≡ leading lanes → Each1 (λ x. x < 10) (take f (drop (n + 1) lanes))
      → Each1 (λ x. x < 10) (take n lanes ++ take f (drop (n + 1) lanes))
  two_small n f c small = each_on (take n lanes) (take f (drop (n + 1) lanes)) (rw c (leading_small lanes)) small

  pub two_moved_small : (n f : ℕ) → n ≡ leading lanes → n < 16 → n + 1 + f ≤ 16 → Each1 (λ x. x < 10) (take f (drop (n + 1) lanes))
      → Each1 (λ x. x < 10) (replicate (16 - (n + f)) 0 ++ take (n + f) (take n lanes ++ (drop (n + 1) lanes ++ 0 ∷ [])))
  two_moved_small n f c few within small =
      each_on (replicate (16 - (n + f)) 0) _ (Each1-replicate (λ x. x < 10) (16 - (n + f)) 0 (omega arith))
      (rw (two_lanes lanes n f lanes_long few within) (two_small n f c small))

  pub two_spell : (n f value bytes : ℕ) → n ≡ leading lanes → n < 16 → n + 1 + f ≤ 16 → Each1 (λ x. x < 10) (take f (drop (n + 1) lanes))
      → value ≡ fold with_value 0 (replicate (16 - (n + f)) 0 ++ take (n + f) (take n lanes ++ (drop (n + 1) lanes ++ 0 ∷ [])))
      → ((f ≡ 0) × (bytes ≡ n)) ⊎ ((0 < f) × (get_or piece n 0 ≡ decimal_point) × (bytes ≡ n + 1 + f)) → SpellsUnsigned piece n f bytes value
  two_spell n f value bytes c few within small v shape =
      let first : take n lanes ≡ map lane_of (take n piece) =
      ap (take n) e ∙ take-map lane_of n (take 16 piece) ∙ ap (map lane_of) (take-take n 16 piece (omega arith)) in
      let second : take f (drop (n + 1) lanes) ≡ map lane_of (take f (drop (n + 1) piece)) =
      ap (λ xs. take f (drop (n + 1) xs)) e ∙ lanes_after piece n f within in
      let both : take n lanes ++ take f (drop (n + 1) lanes) ≡ map lane_of (take n piece ++ take f (drop (n + 1) piece)) =
      (λ i. first i ++ second i) ∙ sym (map-append lane_of (take n piece) (take f (drop (n + 1) piece))) in
      let P : List ℕ → Type 0 = λ xs. Each1 (λ x. x < 10) xs in
      let bytes_fit : Each1 (Fits w8) (take n piece ++ take f (drop (n + 1) piece)) =
      each_both (take n piece) (take f (drop (n + 1) piece)) (chunk-fits w8 0 n piece fits) (chunk-fits w8 (n + 1) f piece fits) in
      let k = lanes_spell 0 (take n piece ++ take f (drop (n + 1) piece)) bytes_fit (subst P both (two_small n f c small)) in
      let apart = digits_apart (take n piece) (take f (drop (n + 1) piece)) k.0 in
      record {
        natural_digits = All-from_recursion IsDigit (take n piece) apart.0;
        fraction_digits = All-from_recursion IsDigit (take f (drop (n + 1) piece)) apart.1;
        value_is = v ∙ fold_zeros (16 - (n + f)) _ ∙ ap (fold with_value 0) (two_lanes lanes n f lanes_long few within ∙ both) ∙ k.1;
        shape = shape;
      }

-- the runs as the code finds them, by the bits of the lanes that are no digits
module _ (piece lanes : List ℕ) (long : 16 ≤ length piece) (fits : (k : ℕ) → Fits w8 (get_or piece k 0)) (e : lanes ≡ map lane_of (take 16 piece)) (mask : ℕ)
    (m : mask ≡ mask_l (map (leb 10) lanes)) (some : mask ≡ 0 → ⊥) where
  abbrev natural : ℕ
  natural = count_trailing_zeros 64 mask

  abbrev fraction : ℕ
  fraction = count_trailing_zeros 64 (mask / 2 ^ (natural + 1))

  found : (natural ≡ leading lanes) × (natural < 16)
  found = first_other lanes mask (lanes_long piece lanes long fits e) m some

  pub natural_few : natural < 16
  natural_few = found.1

  pub natural_ends : IsDigit (get_or piece natural 0) → ⊥
  natural_ends = lane_ends piece natural long (found.0 ∙ ap leading e) found.1

  pub natural_small : Each1 (λ x. x < 10) (replicate (16 - natural) 0 ++ take natural lanes)
  natural_small = moved_small lanes natural found.0

  pub natural_spell : (value : ℕ) → value ≡ fold with_value 0 (replicate (16 - natural) 0 ++ take natural lanes) → SpellsUnsigned piece natural 0 natural value
  natural_spell value v =
      let l = found.1 in
      let k = first_spell piece lanes natural value long fits e found.0 (omega arith) v in
      record {
        natural_digits = k.digits;
        fraction_digits = All-nil IsDigit;
        value_is = k.value_is ∙ ap (fold with_digit 0) (sym (append-nil (take natural piece)));
        shape = inl (refl, refl);
      }

  module _ (more : mask / 2 ^ (natural + 1) ≡ 0 → ⊥) where
    pub next : (fraction ≡ leading (drop (natural + 1) lanes)) × (natural + 1 + fraction < 16)
    next = let l = found.1 in next_other lanes mask (natural + 1) (lanes_long piece lanes long fits e) (omega arith) m more

    pub both_few : natural + 1 + fraction < 16
    both_few = next.1

    small : Each1 (λ x. x < 10) (take fraction (drop (natural + 1) lanes))
    small = next_small lanes (natural + 1) fraction next.0

    pub both_small : Each1 (λ x. x < 10)
        (replicate (16 - (natural + fraction)) 0 ++ take (natural + fraction) (take natural lanes ++ (drop (natural + 1) lanes ++ 0 ∷ [])))
    both_small = let l = next.1 in two_moved_small piece lanes long fits e natural fraction found.0 found.1 (omega arith) small

    pub both_spell : (value : ℕ)
        → value ≡ fold with_value 0
        (replicate (16 - (natural + fraction)) 0 ++ take (natural + fraction) (take natural lanes ++ (drop (natural + 1) lanes ++ 0 ∷ [])))
        → get_or piece natural 0 ≡ decimal_point → (fraction ≡ 0 → ⊥)
        → SpellsUnsigned piece natural fraction (natural + 1 + fraction) value
    both_spell value v point digits =
        let l = next.1 in
        two_spell piece lanes long fits e natural fraction value (natural + 1 + fraction) found.0 found.1 (omega arith) small v (inr (omega arith, point, refl))

-- ---- a bit after those of the lanes

pub mask_ended : (ms : List Bool) → mask_l (ms ++ true ∷ []) ≡ mask_l ms + 2 ^ length ms
mask_ended [] = omega arith
mask_ended (m ∷ ms) = let e = pow-suc 2 (length ms) in ap (λ n. cond m 1 0 + 2 * n) (mask_ended ms) ∙ omega arith

pub leading_ended : (lanes : List ℕ) → leading (lanes ++ 10 ∷ []) ≡ leading lanes
leading_ended [] = refl
leading_ended (x ∷ xs) = elim (leb_tells 10 x) [
  | inl e ↦ rw (e.0) refl
  | inr e ↦ rw (e.0) (ap (λ n. 1 + n) (leading_ended xs))
]

pub ended_some : (lanes : List ℕ) → 0 < mask_l (map (leb 10) (lanes ++ 10 ∷ []))
ended_some [] = omega arith
ended_some (x ∷ xs) = let k = ended_some xs in omega arith

-- ---- a byte that is no digit has its bit

module _ (piece lanes : List ℕ) (long : 16 ≤ length piece) (fits : (k : ℕ) → Fits w8 (get_or piece k 0)) (e : lanes ≡ map lane_of (take 16 piece)) (mask : ℕ)
    (m : mask ≡ mask_l (map (leb 10) lanes)) where
  lane_at : (i : ℕ) → i < 16 → get_or lanes i 0 ≡ lane_of (get_or piece i 0)
  lane_at i few =
      let t : length (take 16 piece) ≡ 16 = length-take-le 16 piece long in
      ap (λ xs. get_or xs i 0) e ∙ get_or-map lane_of (take 16 piece) i 0 0 (omega arith) ∙ ap lane_of (get_or-take 16 piece i 0 few)

  other_of_lane : (i : ℕ) → i < 16 → leb 10 (get_or lanes i 0) ≡ true → IsDigit (get_or piece i 0) → ⊥
  other_of_lane i few t d =
      let a = lane_at i few in
      let low = d.0 in
      let high = d.1 in
      elim (leb_tells 10 (get_or lanes i 0)) [ inl h ↦ (let k = h.1 in omega arith) | inr h ↦ (let f : false ≡ true = sym h.0 ∙ t in cc) ]

  -- where the digits after so many lanes end
  pub lanes_end : (k n : ℕ) → k + n < 16 → n ≡ leading (drop k lanes) → IsDigit (get_or piece (k + n) 0) → ⊥
  lanes_end k n few c d =
      let l = lanes_long piece lanes long fits e in
      let w : n < length (drop k lanes) = omega (arith, length-drop k lanes) in
      let stops : not (leb 10 (get_or (drop k lanes) n 0)) ≡ false = rw c (prefix_len_stops (λ x. not (leb 10 x)) (drop k lanes) 0 (omega arith)) in
      let there : get_or (drop k lanes) n 0 ≡ get_or lanes (k + n) 0 = get_or-drop k lanes n 0 in
      elim (leb_tells 10 (get_or lanes (k + n) 0)) [
        | inl h ↦ other_of_lane (k + n) few h.0 d
        | inr h ↦ (let f : not false ≡ false = rw (there, h.0) at stops in cc)
      ]
