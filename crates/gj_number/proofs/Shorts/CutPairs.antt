-- A number as its cut value, from where it stands and its lanes.
use Rattle.gj_number.proofs.Common.{Bool, Class, Fits, IsDigit, IsNumberByte, IsSpan, Letter, Minus, NonZero, Plus, Point, Zero}
use Rattle.gj_number.proofs.Common.{List, Other, Some, Span, SpellsOn, SpellsPlain, StartsSigned, StartsWithNumber}
use Rattle.gj_number.proofs.Common.{after_point, ap, append-nil, arith, before_point, bool_byte, cut_in, cut_magnitude, decimal_point, drop, drop-drop}
use Rattle.gj_number.proofs.Common.{false, fold-append, get_or, get_or-drop, in_lanes, inl, inr, lane_of, length, length-drop, limited_cut, map, number_of}
use Rattle.gj_number.proofs.Common.{refl, rests_in, signed, subst, sym, take, take_rest, true, w8, with_digit, zero_digit, ℕ, ℤ, [], ◌++◌, ◌+◌, ◌-◌, ◌<◌}
use Rattle.gj_number.proofs.Common.{◌^◌, ◌∙◌, ◌≡◌, ◌≤◌}
use Rattle.std.proofs.Common.{All}
use lib.Lanes.{Each1}
use Rattle.gj_number.specs.Cuts.{HasCut}
use Rattle.gj_number.specs.Short.{short_value}
use Rattle.gj_number.specs.Internal.NumberMachine.{class_of}
use Rattle.gj_number.proofs.Grammar.ByteClasses.{number_byte}
use Rattle.gj_number.proofs.Shorts.CutPlaces.{natural_digits, fraction_digits, lanes_small, whole, whole_small, cut_is, precise_found}
use Rattle.gj_number.proofs.Shorts.NumberPrefixes.{sign_length, sign_at, one_of, point_plain, whole_plain}
use Rattle.gj_number.proofs.Shorts.RunEnds.{digit_at}
use Rattle.gj_number.proofs.Shorts.ShortDecimals.{cut_some}
use Rattle.gj_number.proofs.Shorts.WrittenExponents.{plain_front}

-- ---- from the first digit of a number on

module _ (piece : List ℕ) (fits : (k : ℕ) → Fits w8 (get_or piece k 0)) (first n f : ℕ) (some : 0 < n) (few : n ≤ 3) (few_after : f ≤ 15)
    (room : first + 32 ≤ length piece) (lanes : List ℕ)
    (placed : lanes ≡ in_lanes (before_point n (map lane_of (take 16 (take (length piece - first) (drop first piece)))))
    (after_point n f (map lane_of (take 16 (take (length piece - first) (drop first piece)))))) where
  abbrev digits : List ℕ
  digits = drop first piece

  pub digits_fit : (k : ℕ) → Fits w8 (get_or digits k 0)
  digits_fit k = rw (get_or-drop first piece k 0) (fits (first + k))

  pub digits_long : 19 ≤ length digits
  digits_long = omega (arith, length-drop first piece)

  there : lanes ≡ in_lanes (before_point n (map lane_of (take 16 digits))) (after_point n f (map lane_of (take 16 digits)))
  there = placed ∙ ap (λ xs. in_lanes (before_point n (map lane_of (take 16 xs))) (after_point n f (map lane_of (take 16 xs)))) (take_rest piece first)

  pub digits_small : All IsDigit (take n digits) → All IsDigit (take f (drop (n + 1) digits)) → Each1 (λ x. x < 10) lanes
  digits_small natural fraction =
      let P : List ℕ → Type 0 = λ xs. Each1 (λ x. x < 10) xs in
      subst P (sym there) (lanes_small digits digits_fit n f some few few_after digits_long natural fraction)

  module _ (natural : All IsDigit (take n (drop first piece))) (fraction : All IsDigit (take f (drop (n + 1) (drop first piece)))) (end : ℕ)
      (precise : Bool) (judged : 12 < f → precise ≡ true) where
    pub lanes_are_small : Each1 (λ x. x < 10) (in_lanes (before_point n (map lane_of (take 16 digits))) (after_point n f (map lane_of (take 16 digits))))
    lanes_are_small = lanes_small digits digits_fit n f some few few_after digits_long natural fraction

    pub last : 12 < f → (i : ℕ) → 12 ≤ i → i < f → IsDigit (get_or digits (n + 1 + i) 0)
    last many i from to =
        let P : ℕ → Type 0 = λ x. IsDigit x in
        subst P (get_or-drop (n + 1) digits i 0) (digit_at (drop (n + 1) digits) f i to (omega (arith, length-drop (n + 1) digits, digits_long)) fraction)

    abbrev all : ℕ
    all = whole digits digits_fit n f some few few_after digits_long lanes_are_small last

    all_small : all < 10 ^ 18
    all_small = whole_small digits digits_fit n f some few few_after digits_long lanes_are_small last

    module _ (at : ℕ) (negative : Bool) (signed_so : StartsSigned (drop at piece) negative) (first_is : first ≡ at + bool_byte negative)
        (one : get_or piece first 0 ≡ zero_digit → n ≡ 1) where
      -- from the sign on
      abbrev number : List ℕ
      number = drop at piece

      abbrev sign : ℕ
      sign = bool_byte negative

      after_sign : drop sign number ≡ digits
      after_sign = drop-drop sign at piece ∙ ap (λ k. drop k piece) (sym first_is)

      number_long : 31 ≤ length number
      number_long = omega (arith, length-drop at piece)

      one_there : get_or number sign 0 ≡ zero_digit → n ≡ 1
      one_there z = one (ap (λ k. get_or piece k 0) first_is ∙ sym (get_or-drop at piece sign 0) ∙ z)

      front : SpellsOn (drop sign number) 0 n (number_of (take n digits))
      front =
          let m = digits_long in
          let P : List ℕ → Type 0 = λ xs. SpellsOn xs 0 n (number_of (take n digits)) in
          subst P (sym after_sign) (record {
            within = omega arith;
            digits = natural_digits digits digits_fit n f some few few_after digits_long lanes_are_small last;
            value_is = refl;
          })

      pub pointed_plain : get_or piece (first + n) 0 ≡ decimal_point → 0 < f → SpellsPlain number negative all f (sign + n + 1 + f)
      pointed_plain point some_after =
          let l = number_long in
          let m = digits_long in
          let sign_few = sign_length negative in
          let Q : List ℕ → Type 0 = λ xs. SpellsOn xs (number_of (take n digits)) f all in
          let back : SpellsOn (drop (n + 1) digits) (number_of (take n digits)) f all =
          record {
            within = omega (arith, length-drop (n + 1) digits);
            digits = fraction_digits digits digits_fit n f some few few_after digits_long lanes_are_small last;
            value_is = fold-append with_digit 0 (take n digits) (take f (drop (n + 1) digits));
          } in
          let rest : drop (n + 1) digits ≡ drop (sign + n + 1) number =
          ap (drop (n + 1)) (sym after_sign) ∙ drop-drop (n + 1) sign number ∙ ap (λ k. drop k number) {x = sign + (n + 1)} {y = sign + n + 1} (omega arith) in
          let there : get_or number (sign + n) 0 ≡ decimal_point =
          get_or-drop at piece (sign + n) 0 ∙ ap (λ k. get_or piece k 0) {x = at + (sign + n)} {y = first + n} (omega arith) ∙ point in
          point_plain number negative sign n (number_of (take n digits)) (sign_at number negative signed_so (omega arith)) front some
          (one_of number sign n one_there) f all there (subst Q rest back) some_after (omega arith)

      -- without a point
      pub integer_plain : f ≡ 0 → SpellsPlain number negative all 0 (sign + n)
      integer_plain none =
          let l = number_long in
          let P : ℕ → Type 0 = λ d. SpellsPlain number negative d 0 (sign + n) in
          let none_after : take f (drop (n + 1) digits) ≡ [] = ap (λ k. take k (drop (n + 1) digits)) none in
          let same : number_of (take n digits) ≡ all = ap number_of (sym (ap (λ xs. take n digits ++ xs) none_after ∙ append-nil (take n digits))) in
          subst P same (whole_plain number negative sign n (number_of (take n digits)) (sign_at number negative signed_so (omega arith)) front some
          (one_of number sign n one_there))

      pub number_is : (size : ℕ) → SpellsPlain number negative all f size → at + size ≡ end → size < 31 → class_of (get_or piece end 0) ≡ Other
          → (precise ≡ true → Each1 (λ x. x ≡ 0) (rests_in lanes) → ⊥) → (precise ≡ false → Each1 (λ x. x ≡ 0) (rests_in lanes)) → (value : ℤ)
          → signed negative (cut_in lanes) ≡ value → HasCut piece at end (record { value = value; precise = precise })
      number_is size plain ends short other found none value value_is =
          let l = number_long in
          let bytes : size ≡ end - at = omega arith in
          let ended : class_of (get_or number size 0) ≡ Other = ap class_of (get_or-drop at piece size 0 ∙ ap (λ i. get_or piece i 0) ends) ∙ other in
          let P : ℕ → Type 0 = λ i. StartsWithNumber number (short_value negative all f) i in
          let Q : List ℕ → Type 0 = λ xs. Each1 (λ x. x ≡ 0) (rests_in xs) in
          let R : List ℕ → Type 0 = λ xs. limited_cut (cut_magnitude (short_value negative all f)) ≡ Some (cut_in xs) in
          let few_places : f ≤ 18 = omega arith in
          let cut = subst R (sym there) (cut_is digits digits_fit n f some few few_after digits_long lanes_are_small last negative) in
          record {
            short = record { digits = all; places = f; negative = negative; small = all_small; few = few_places };
            starts = subst P bytes (plain_front number negative all f size plain all_small (omega arith) (omega arith) ended);
            is = record {
              value = sym (cut_some negative all f (cut_in lanes) all_small cut) ∙ ap Some value_is;
              precise =
                  precise_found digits digits_fit n f some few few_after digits_long lanes_are_small last negative precise
                  (λ t z. found t (subst Q (sym there) z)) (λ t. subst Q there (none t)) judged;
            };
          }

-- ---- a number in its span

other_if : (c : Class) → ((c ≡ Other → ⊥) → ⊥) → c ≡ Other
other_if Other h = refl
other_if Minus h = absurd (h (λ e. cc))
other_if Plus h = absurd (h (λ e. cc))
other_if Point h = absurd (h (λ e. cc))
other_if Letter h = absurd (h (λ e. cc))
other_if Zero h = absurd (h (λ e. cc))
other_if NonZero h = absurd (h (λ e. cc))

module _ (piece : List ℕ) (fits : (k : ℕ) → Fits w8 (get_or piece k 0)) (span : Span) (s : IsSpan piece span) (lanes : List ℕ)
    (placed : lanes ≡ in_lanes (before_point span.natural (map lane_of (take 16 (take (length piece - span.first) (drop span.first piece)))))
    (after_point span.natural span.fraction (map lane_of (take 16 (take (length piece - span.first) (drop span.first piece)))))) where
  pub span_small : Each1 (λ x. x < 10) lanes
  span_small =
      digits_small piece fits span.first span.natural span.fraction s.some s.few s.few_after s.room lanes placed s.natural_digits s.fraction_digits

  module _ (at : ℕ) (negative : Bool) (sign : StartsSigned (drop at piece) negative) (first_is : span.first ≡ at + bool_byte negative)
      (behind : IsNumberByte (get_or piece span.end 0) → ⊥) (precise : Bool) (judged : 12 < span.fraction → precise ≡ true)
      (found : precise ≡ true → Each1 (λ x. x ≡ 0) (rests_in lanes) → ⊥) (none : precise ≡ false → Each1 (λ x. x ≡ 0) (rests_in lanes))
      (value : ℤ) (value_is : signed negative (cut_in lanes) ≡ value) where
    pub cut_there : HasCut piece at span.end (record { value = value; precise = precise })
    cut_there =
        let first = span.first in
        let n = span.natural in
        let f = span.fraction in
        let few = s.few in
        let few_after = s.few_after in
        let sign_few = sign_length negative in
        let other = other_if (class_of (get_or piece span.end 0)) (λ n. behind (number_byte (get_or piece span.end 0) n)) in
        elim s.shape [
          | inl p ↦
              let e = p.1 in
              let plain =
              integer_plain piece fits first n f s.some few few_after s.room lanes placed s.natural_digits s.fraction_digits span.end precise judged at negative
              sign first_is s.one p.0 in
              let P : ℕ → Type 0 = λ k. SpellsPlain (drop at piece) negative
              (all piece fits first n f s.some few few_after s.room lanes placed s.natural_digits s.fraction_digits span.end precise judged) k
              (bool_byte negative + n) in
              number_is piece fits first n f s.some few few_after s.room lanes placed s.natural_digits s.fraction_digits span.end precise judged at negative
              sign first_is s.one (bool_byte negative + n) (subst P (sym p.0) plain) (omega arith) (omega arith) other found none value value_is
          | inr p ↦
              let e = p.2 in
              let plain =
              pointed_plain piece fits first n f s.some few few_after s.room lanes placed s.natural_digits s.fraction_digits span.end precise judged at negative
              sign first_is s.one p.1 p.0 in
              number_is piece fits first n f s.some few few_after s.room lanes placed s.natural_digits s.fraction_digits span.end precise judged at negative
              sign first_is s.one (bool_byte negative + n + 1 + f) plain (omega arith) (omega arith) other found none value value_is
        ]
