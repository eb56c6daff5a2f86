-- The number at the start of a piece: its digits, its parts and its end.
use Rattle.gj_number.proofs.Common.{All-append, Bool, IsDigit, IsDigits, IsNatural, List, SpellsOn, SpellsPlain, SpellsSign, SpellsUnsigned, add-one}
use Rattle.gj_number.proofs.Common.{ap, append-nil, append_assoc, arith, bool_byte, decimal_point, drop, drop-drop, eqb_tells, false, fold-append}
use Rattle.gj_number.proofs.Common.{get_or, get_or-drop, inl, inr, le-mul_of_pos_right, length, length-drop, length-take, length-take-le, minus_sign}
use Rattle.gj_number.proofs.Common.{mul-le-mul_right, nat_tests, number_of, pow-suc, recursion_from_All, refl, subst, suc, sym, take, take-add}
use Rattle.gj_number.proofs.Common.{take_more, take_rest, true, with_digit, zero, zero_digit, ℕ, [], ◌%◌, ◌*◌, ◌++◌, ◌+◌, ◌-◌, ◌<◌, ◌==◌, ◌^◌, ◌∙◌}
use Rattle.gj_number.proofs.Common.{◌∷◌, ◌≡◌, ◌≤◌, ◌⊎◌}
use Rattle.std.proofs.Common.{All, fold, length-append}
use Rattle.gj_number.proofs.Literals.DigitBounds.{scaled_below}
use Rattle.gj_number.proofs.Value.NormalForm.{ten_above_zero, number_bounded}

-- ---- a digit more

-- there is room for a digit more
pub digit_room : (value digit rest : ℕ) → digit ≤ 9 → (value + 1) * 10 ^ (rest + 1) ≤ 10 ^ 18 → (value * 10 + digit < 10 ^ 18)
    × ((value * 10 + digit + 1) * 10 ^ rest ≤ 10 ^ 18)
digit_room value digit rest d h = let p : 10 ^ (rest + 1) ≡ 10 ^ rest * 10 = rw add-one (pow-suc 10 rest) in go (10 ^ rest) (ten_above_zero rest) (rw p at h)
  where
    go : (t : ℕ) → 0 < t → (value + 1) * (t * 10) ≤ 10 ^ 18 → (value * 10 + digit < 10 ^ 18) × ((value * 10 + digit + 1) * t ≤ 10 ^ 18)
    go t p h =
        let step : value * 10 + digit + 1 ≤ (value + 1) * 10 = omega arith in
        let m = mul-le-mul_right t step in
        let e : (value + 1) * 10 * t ≡ (value + 1) * (t * 10) = omega arith in
        let k : value * 10 + digit + 1 ≤ (value * 10 + digit + 1) * t = le-mul_of_pos_right (value * 10 + digit + 1) p in
        (omega arith, omega arith)

-- what has been read is small, whatever room is left
pub room_left : (value more : ℕ) → (value + 1) * 10 ^ more ≤ 10 ^ 18 → value < 10 ^ 18
room_left value more h = let p = ten_above_zero more in let k : value + 1 ≤ (value + 1) * 10 ^ more = le-mul_of_pos_right (value + 1) p in omega arith

-- a byte that is a digit, as the loop finds it
pub digit_byte : (b : ℕ) → b < 256 → (b + 208) % 256 ≤ 9 → IsDigit b × ((b + 208) % 256 ≡ b - 48)
digit_byte b byte h = ((omega arith, omega arith), omega arith)

pub other_byte : (b : ℕ) → b < 256 → 9 < (b + 208) % 256 → IsDigit b → ⊥
other_byte b byte h d = let l = d.0 in let m = d.1 in omega arith

-- ---- the parts

-- digits of which the first is no zero, or one digit
pub natural_is : (rest : List ℕ) (n : ℕ) → 0 < n → n ≤ length rest → All IsDigit (take n rest) → (get_or rest 0 0 ≡ zero_digit → n ≡ 1)
    → IsNatural (take n rest)
natural_is rest zero some few h one = absurd (omega arith)
natural_is [] (suc n) some few h one = absurd (omega arith)
natural_is (b ∷ rest) (suc n) some few h one =
    let all = recursion_from_All IsDigit (b ∷ take n rest) h in
    elim (eqb_tells b zero_digit) [
      | inl e ↦ inl (e.1, let k : n ≡ 0 = (let l = one e.1 in omega arith) in ap (λ m. take m rest) k)
      | inr e ↦ inr ((let l = all.0 in (omega arith, omega arith)), all.1)
    ]

pub fraction_is : (digits : List ℕ) → 0 < length digits → All IsDigit digits → IsDigits digits
fraction_is [] some h = absurd (omega arith)
fraction_is (b ∷ digits) some h = recursion_from_All IsDigit (b ∷ digits) h

sign_is : (piece : List ℕ) → 0 < length piece → (get_or piece 0 0 ≡ minus_sign) → SpellsSign true (take 1 piece)
sign_is [] some e = absurd (omega arith)
sign_is (x ∷ piece) some e = ap (λ y. y ∷ []) e

-- ---- the prefix

-- ---- a number with no point, and one with a point

module _ (piece : List ℕ) (negative : Bool) (first n value : ℕ) (sign : SpellsSign negative (take first piece)) (spells : SpellsOn (drop first piece) 0 n value)
    (some : 0 < n) (one : get_or (drop first piece) 0 0 ≡ zero_digit → n ≡ 1) where
  natural : IsNatural (take n (drop first piece))
  natural = natural_is (drop first piece) n some spells.within spells.digits one

  pub whole_plain : SpellsPlain piece negative value 0 (first + n)
  whole_plain = record {
    sign = take first piece;
    natural = take n (drop first piece);
    fraction = [];
    after_natural = [];
    joined = take-add first n piece ∙ simp append-nil;
    spells_sign = sign;
    spells_natural = natural;
    spells_fraction = inl (refl, refl);
    digits_is = spells.value_is ∙ ap number_of (sym (append-nil (take n (drop first piece))));
    places_is = refl;
  }

  pub point_plain : (m all : ℕ) → get_or piece (first + n) 0 ≡ decimal_point → SpellsOn (drop (first + n + 1) piece) value m all → 0 < m
      → first + n < length piece → SpellsPlain piece negative all m (first + n + 1 + m)
  point_plain m all point more few within =
      let digits = take n (drop first piece) in
      let fraction = take m (drop (first + n + 1) piece) in
      let long : length fraction ≡ m = length-take-le m (drop (first + n + 1) piece) more.within in
      record {
        sign = take first piece;
        natural = digits;
        fraction = fraction;
        after_natural = decimal_point ∷ fraction;
        joined = rw (take-add (first + n + 1) m piece, take_more piece (first + n) 0 within, point, take-add first n piece) (simp append_assoc);
        spells_sign = sign;
        spells_natural = natural;
        spells_fraction = inr (refl, fraction_is fraction (omega arith) more.digits);
        digits_is = sym (fold-append with_digit 0 digits fraction ∙ rw (← spells.value_is) (sym more.value_is));
        places_is = sym long;
      }

-- ---- what the code finds

-- the sign is one byte, or none
pub sign_length : (negative : Bool) → bool_byte negative ≤ 1
sign_length false = omega arith
sign_length true = omega arith

pub sign_at : (piece : List ℕ) (negative : Bool) → (get_or piece 0 0 == minus_sign) ≡ negative → 0 < length piece
    → SpellsSign negative (take (bool_byte negative) piece)
sign_at piece false e some = refl
sign_at piece true e some = sign_is piece some (grind (arith, nat_tests))

-- the slice after a place
pub spells_rest : (piece : List ℕ) (i before count value : ℕ) → SpellsOn (take (length piece - i) (drop i piece)) before count value
    → SpellsOn (drop i piece) before count value
spells_rest piece i before count value h = let P : List ℕ → Type 0 = λ xs. SpellsOn xs before count value in subst P (take_rest piece i) h

-- so many digits spell a number below that power of ten
pub below_power : (piece : List ℕ) (count value : ℕ) → SpellsOn piece 0 count value → value < 10 ^ count
below_power piece count value h =
    let long : length (take count piece) ≡ count = length-take-le count piece h.within in
    let b = number_bounded (take count piece) (recursion_from_All IsDigit (take count piece) h.digits) in
    let P : ℕ → Type 0 = λ k. number_of (take count piece) < 10 ^ k in
    rw (h.value_is) (subst P long b)

-- after a first zero no digit stands
pub one_of : (piece : List ℕ) (first n : ℕ) → (get_or piece first 0 ≡ zero_digit → n ≡ 1) → get_or (drop first piece) 0 0 ≡ zero_digit → n ≡ 1
one_of piece first n h e = let z : first + 0 ≡ first = omega arith in h (ap (λ k. get_or piece k 0) (sym z) ∙ sym (get_or-drop first piece 0 0) ∙ e)

-- a digit there is one of those counted
pub first_some : (piece : List ℕ) (first n : ℕ) → (IsDigit (get_or (take (length piece - first) (drop first piece)) n 0) → ⊥)
    → (n ≡ 0 → IsDigit (get_or piece first 0)) → 0 < n
first_some piece first zero ends h =
    let z : first + 0 ≡ first = omega arith in
    let e : get_or (take (length piece - first) (drop first piece)) 0 0 ≡ get_or piece first 0 =
    ap (λ xs. get_or xs 0 0) (take_rest piece first) ∙ get_or-drop first piece 0 0 ∙ ap (λ k. get_or piece k 0) z in
    let P : ℕ → Type 0 = λ b. IsDigit b in
    absurd (ends (subst P (sym e) (h refl)))
first_some piece first (suc n) ends h = omega arith

-- ---- digits that are read apart

pub apart : (n : ℕ) (xs : List ℕ) → fold with_digit n xs ≡ n * 10 ^ length xs + fold with_digit 0 xs
apart n [] = omega arith
apart n (b ∷ xs) = rw (pow-suc 10 (length xs)) (omega (arith, apart (with_digit n b) xs, apart (with_digit 0 b) xs))

-- after a number of so many digits there is room for the rest
pub joined_fits : (natural count places behind : ℕ) (rest : List ℕ) → natural < 10 ^ count → SpellsOn rest 0 places behind → places ≤ 18 - count → count ≤ 18
    → natural * 10 ^ places + behind < 10 ^ 18
joined_fits natural count places behind rest n k few most =
    let b : behind < 10 ^ places = below_power rest places behind k in
    let l = scaled_below natural count places 18 n (omega arith) in
    omega arith

pub joined_below : (natural count places behind : ℕ) (rest : List ℕ) → natural < 10 ^ count → SpellsOn rest 0 places behind
    → natural * 10 ^ places + behind < 10 ^ (count + places)
joined_below natural count places behind rest n k =
    let b : behind < 10 ^ places = below_power rest places behind k in
    let l = scaled_below natural count places (count + places) n (omega arith) in
    omega arith

pub joined_spells : (natural places behind : ℕ) (rest : List ℕ) → SpellsOn rest 0 places behind → SpellsOn rest natural places (natural * 10 ^ places + behind)
joined_spells natural places behind rest k =
    let long : length (take places rest) ≡ places = length-take-le places rest k.within in
    let P : ℕ → Type 0 = λ m. fold with_digit natural (take places rest) ≡ natural * 10 ^ m + fold with_digit 0 (take places rest) in
    let e = subst P long (apart natural (take places rest)) in
    let v = k.value_is in
    record { within = k.within; digits = k.digits; value_is = omega arith }

-- the digits after these go on
pub spells_more : (piece : List ℕ) (before n m first all : ℕ) → SpellsOn piece before n first → SpellsOn (drop n piece) first m all
    → SpellsOn piece before (n + m) all
spells_more piece before n m first all h k =
    let w = h.within in
    let v = k.within in
    let e : take (n + m) piece ≡ take n piece ++ take m (drop n piece) = take-add n m piece in
    record {
      within = omega (arith, length-drop n piece);
      digits = rw e (All-append IsDigit _ _ h.digits k.digits);
      value_is = rw (e, fold-append with_digit before (take n piece) (take m (drop n piece)), ← h.value_is) k.value_is;
    }

-- the number before the point alone
pub natural_fits : (natural count : ℕ) → natural < 10 ^ count → count ≤ 18 → natural < 10 ^ 18
natural_fits natural count h most = let l = scaled_below natural count 0 18 h (omega arith) in omega arith

pub none_spells : (piece : List ℕ) (natural : ℕ) → SpellsOn piece natural 0 natural
none_spells piece natural = record { within = omega arith; digits = (λ k d below. absurd (omega arith)); value_is = refl }

-- ---- a number of sixteen bytes at the most

module _ (piece : List ℕ) (negative : Bool) (first n m bytes value : ℕ) (sign : SpellsSign negative (take first piece))
    (k : SpellsUnsigned (drop first piece) n m bytes value) (some : 0 < n) (one : get_or (drop first piece) 0 0 ≡ zero_digit → n ≡ 1)
    (few : bytes ≤ 16) (room : first + 16 < length piece) where
  shapes : (bytes ≡ n) ⊎ (bytes ≡ n + 1 + m)
  shapes = elim k.shape [ inl s ↦ inl s.1 | inr s ↦ inr s.2 ]

  n_few : n ≤ 16
  n_few = elim k.shape [ inl s ↦ (let e = s.1 in omega arith) | inr s ↦ (let e = s.2 in omega arith) ]

  long : 16 ≤ length (drop first piece)
  long = omega (arith, length-drop first piece)

  spelled : SpellsOn (drop first piece) 0 n (number_of (take n (drop first piece)))
  spelled = let l = n_few in let w = long in record { within = omega arith; digits = k.natural_digits; value_is = refl }

  pub short_small : (n + m ≤ 16) × (value < 10 ^ 18)
  short_small =
      let l = n_few in
      let few' : n + m ≤ 16 = elim k.shape [ inl s ↦ (let e = s.0 in omega arith) | inr s ↦ (let e = s.2 in omega arith) ] in
      let digits = take n (drop first piece) ++ take m (drop (n + 1) (drop first piece)) in
      let all : All IsDigit digits = All-append IsDigit _ _ k.natural_digits k.fraction_digits in
      let b : number_of digits < 10 ^ length digits = number_bounded digits (recursion_from_All IsDigit digits all) in
      let len : length digits ≤ 16 =
      omega (
        arith,
        length-append (take n (drop first piece)) (take m (drop (n + 1) (drop first piece))),
        length-take n (drop first piece),
        length-take m
            (drop (n + 1) (drop first piece)),
      ) in
      let w = scaled_below (number_of digits) (length digits) 0 18 b (omega arith) in
      let v = k.value_is in
      (few', omega arith)

  pub short_plain : SpellsPlain piece negative value m (first + bytes)
  short_plain =
      let l = n_few in
      let v = k.value_is in
      elim k.shape [
        | inl s ↦
            let e = s.1 in
            let Q : ℕ → Type 0 = λ i. SpellsPlain piece negative value i (first + bytes) in
            let R : ℕ → Type 0 = λ i. SpellsPlain piece negative value 0 (first + i) in
            let none : take m (drop (n + 1) (drop first piece)) ≡ [] = ap (λ i. take i (drop (n + 1) (drop first piece))) s.0 in
            let same : value ≡ number_of (take n (drop first piece)) =
            v ∙ ap (λ xs. number_of (take n (drop first piece) ++ xs)) none ∙ ap number_of (append-nil (take n (drop first piece))) in
            let spells : SpellsOn (drop first piece) 0 n value = record { within = spelled.within; digits = k.natural_digits; value_is = same } in
            subst Q (sym s.0) (subst R (sym e) (whole_plain piece negative first n value sign spells some one))
        | inr s ↦
            let e = s.2 in
            let R : ℕ → Type 0 = λ i. SpellsPlain piece negative value m i in
            let at : first + bytes ≡ first + n + 1 + m = omega arith in
            let d : drop (n + 1) (drop first piece) ≡ drop (first + n + 1) piece =
            drop-drop (n + 1) first piece ∙ ap (λ i. drop i piece) {y = first + n + 1} (omega arith) in
            let point : get_or piece (first + n) 0 ≡ decimal_point = sym (get_or-drop first piece n 0) ∙ s.1 in
            let Q : List ℕ → Type 0 = λ xs. SpellsOn xs (number_of (take n (drop first piece))) m value in
            let fits : m ≤ length (drop (n + 1) (drop first piece)) = let w = long in omega (arith, length-drop (n + 1) (drop first piece)) in
            let more : SpellsOn (drop (n + 1) (drop first piece)) (number_of (take n (drop first piece))) m value =
            record {
              within = fits;
              digits = k.fraction_digits;
              value_is =
                  v ∙ fold-append with_digit 0 (take n (drop first piece)) (take m (drop (n + 1) (drop first piece)));
            } in
            subst R (sym at) (point_plain piece negative first n (number_of (take n (drop first piece))) sign spelled some one m value point
            (subst Q d more) s.0 (omega arith))
      ]
