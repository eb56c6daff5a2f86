-- A number of more digits than sixteen bytes have, whose digits are read in two parts.
use Rattle.gj_number.proofs.Common.{All-append, BeginsNumber, Bool, Exact, IsDigit, List, Other, Parts, Some, Spells, SpellsOn, SpellsPlain}
use Rattle.gj_number.proofs.Common.{SpellsSign, SpellsUnsigned, StartsWithNumber, ap, append-nil, arith, cases_lt, decimal_point, drop, drop-drop}
use Rattle.gj_number.proofs.Common.{fold-append, get_or, get_or-drop, inl, inr, ints, le-mul_of_pos_right, length, length-drop, length-take}
use Rattle.gj_number.proofs.Common.{mul-le-mul_right, number_of, pow-add, pow-le-pow_right, pow-suc, recursion_from_All, refl, subst, suc, sym, take}
use Rattle.gj_number.proofs.Common.{take_more, unsigned_abs, whole_of, with_digit, zero_digit, ℕ, ℤ, [], ◌%◌, ◌*◌, ◌++◌, ◌+ℤ◌, ◌+◌, ◌-ℤ◌, ◌-◌, ◌<◌}
use Rattle.gj_number.proofs.Common.{◌^◌, ◌∙◌, ◌≡◌, ◌≢◌, ◌≤◌}
use Rattle.std.proofs.Common.{All}
use Rattle.std.proofs.Common.{length-append, pos}
use Rattle.gj_number.specs.Internal.NumberMachine.{class_of}
use Rattle.gj_number.proofs.Literals.DigitBounds.{scaled_below}
use Rattle.gj_number.proofs.Literals.LiteralBytes.{begins_none}
use Rattle.gj_number.proofs.Grammar.PartScans.{parts_reach}
use Rattle.gj_number.proofs.Grammar.StateMoves.{other_ends}
use Rattle.gj_number.proofs.Grammar.SpelledParts.{number_from}
use Rattle.gj_number.proofs.Grammar.FoundParts.{value_is, parts_digits}
use Rattle.gj_number.proofs.Value.NormalForm.{ten_above_zero, held_value-normal, number_bounded}
use Rattle.gj_number.proofs.Value.HeldLimits.{within_some}
use Rattle.gj_number.proofs.Shorts.NumberPrefixes.{point_plain, joined_spells, spells_more}

-- ---- the digits of both parts, without the zeros at their end

module _ (upper lower more last zeros : ℕ) (few : more ≤ 15) (u : upper < 10 ^ 15) (l : lower < 10 ^ more) (is : lower ≡ last * 10 ^ zeros)
    (normal : last % 10 ≢ 0) where
  pub zeros_few : zeros < more
  zeros_few = elim (cases_lt zeros more) [
    | inl h ↦ h
    | inr h ↦
        let some : 1 ≤ last = omega arith in
        let p : 10 ^ more ≤ 10 ^ zeros = pow-le-pow_right {n = 10} (omega arith) h in
        let q : 1 * 10 ^ zeros ≤ last * 10 ^ zeros = mul-le-mul_right (10 ^ zeros) some in
        absurd (omega arith)
  ]

  tens_apart : 10 ^ more ≡ 10 ^ (more - zeros) * 10 ^ zeros
  tens_apart = let z = zeros_few in ap (λ n. 10 ^ n) {y = more - zeros + zeros} (omega arith) ∙ pow-add 10 (more - zeros) zeros

  pub both_are : upper * 10 ^ more + lower ≡ (upper * 10 ^ (more - zeros) + last) * 10 ^ zeros
  both_are = rw (tens_apart, is) (apart upper (10 ^ (more - zeros)) (10 ^ zeros) last)
    where
      apart : (n t z k : ℕ) → n * (t * z) + k * z ≡ (n * t + k) * z
      apart n t z k = omega arith

  pub both_normal : (upper * 10 ^ (more - zeros) + last) % 10 ≢ 0
  both_normal = λ e.
      let z = zeros_few in
      let d : ℕ = more - zeros - 1 in
      let p : 10 ^ (more - zeros) ≡ 10 ^ d * 10 = ap (λ n. 10 ^ n) {y = suc d} (omega arith) ∙ pow-suc 10 d in
      normal (ends upper (10 ^ d) last (rw p at e))
    where
      tens_end : (n k : ℕ) → (n * 10 + k) % 10 ≡ 0 → k % 10 ≡ 0
      tens_end n k e = omega arith

      ends : (n t k : ℕ) → (n * (t * 10) + k) % 10 ≡ 0 → k % 10 ≡ 0
      ends n t k e = let r : n * (t * 10) ≡ n * t * 10 = omega arith in tens_end (n * t) k (rw r at e)

  pub both_below : upper * 10 ^ (more - zeros) + last < 10 ^ 30
  both_below =
      let b = both_are in
      let m : upper * 10 ^ (more - zeros) + last ≤ (upper * 10 ^ (more - zeros) + last) * 10 ^ zeros =
      le-mul_of_pos_right (upper * 10 ^ (more - zeros) + last) (ten_above_zero zeros) in
      let s : (upper + 1) * 10 ^ more ≤ 10 ^ 30 = scaled_below upper 15 more 30 u (omega arith) in
      omega arith

-- ---- how it is spelled

module _ (piece : List ℕ) (negative : Bool) (first n f more upper lower : ℕ) (sign : SpellsSign negative (take first piece))
    (k : SpellsUnsigned (drop first piece) n f (n + 1 + f) upper) (rest : SpellsOn (drop (first + 16) piece) 0 more lower) (some : 0 < n)
    (one : get_or (drop first piece) 0 0 ≡ zero_digit → n ≡ 1) (full : n + 1 + f ≡ 16) (room : first + 16 < length piece) where
  long : 16 ≤ length (drop first piece)
  long = omega (arith, length-drop first piece)

  abbrev natural : List ℕ
  natural = take n (drop first piece)

  abbrev fraction : List ℕ
  fraction = take f (drop (n + 1) (drop first piece))

  pub upper_small : upper < 10 ^ 15
  upper_small =
      let all : All IsDigit (natural ++ fraction) = All-append IsDigit _ _ k.natural_digits k.fraction_digits in
      let b : number_of (natural ++ fraction) < 10 ^ length (natural ++ fraction) = number_bounded _ (recursion_from_All IsDigit _ all) in
      let len : length (natural ++ fraction) ≤ 15 =
      omega (arith, length-append natural fraction, length-take n (drop first piece), length-take f (drop (n + 1) (drop first piece))) in
      let w = scaled_below _ (length (natural ++ fraction)) 0 15 b (omega arith) in
      let v = k.value_is in
      omega arith

  spelled : SpellsOn (drop first piece) 0 n (number_of natural)
  spelled = let l = long in record { within = omega arith; digits = k.natural_digits; value_is = refl }

  some_after : 0 < f
  some_after = elim k.shape [ inl s ↦ (let e = s.1 in absurd (omega arith)) | inr s ↦ s.0 ]

  point : get_or piece (first + n) 0 ≡ decimal_point
  point = elim k.shape [ inl s ↦ (let e = s.1 in absurd (omega arith)) | inr s ↦ sym (get_or-drop first piece n 0) ∙ s.1 ]

  after_point : SpellsOn (drop (first + n + 1) piece) (number_of natural) f upper
  after_point =
      let d : drop (n + 1) (drop first piece) ≡ drop (first + n + 1) piece =
      drop-drop (n + 1) first piece ∙ ap (λ i. drop i piece) {y = first + n + 1} (omega arith) in
      let P : List ℕ → Type 0 = λ xs. SpellsOn xs (number_of natural) f upper in
      let l = long in
      subst P d (record {
        within = omega (arith, length-drop (n + 1) (drop first piece));
        digits = k.fraction_digits;
        value_is = k.value_is ∙ fold-append with_digit 0 natural fraction;
      })

  pub long_plain : SpellsPlain piece negative (upper * 10 ^ more + lower) (f + more) (first + 16 + more)
  long_plain =
      let all : ℕ = upper * 10 ^ more + lower in
      let a = some_after in
      let d : drop f (drop (first + n + 1) piece) ≡ drop (first + 16) piece =
      drop-drop f (first + n + 1) piece ∙ ap (λ i. drop i piece) {y = first + 16} (omega arith) in
      let P : List ℕ → Type 0 = λ xs. SpellsOn xs upper more all in
      let whole : SpellsOn (drop (first + n + 1) piece) (number_of natural) (f + more) all =
      spells_more (drop (first + n + 1) piece) (number_of natural) f more upper all after_point
      (subst P (sym d) (joined_spells upper more lower (drop (first + 16) piece) rest)) in
      let Q : ℕ → Type 0 = λ i. SpellsPlain piece negative all (f + more) i in
      let at : first + n + 1 + (f + more) ≡ first + 16 + more = omega arith in
      subst Q at (point_plain piece negative first n (number_of natural) sign spelled some one (f + more) all point whole (omega arith) (omega arith))

-- ---- which decimal it denotes

module _ (piece : List ℕ) (negative : Bool) (all places count : ℕ) (p : SpellsPlain piece negative all places count) (digits tens : ℕ) (power : ℤ)
    (is : all ≡ digits * 10 ^ tens) (normal : digits % 10 ≢ 0) (below : digits < 10 ^ 30) (power_is : power ≡ pos tens -ℤ pos places)
    (few : unsigned_abs power ≤ 400) (within : count < length piece) (other : class_of (get_or piece count 0) ≡ Other) where
  abbrev parts : Parts
  parts = record { negative = negative; natural = p.natural; fraction = p.fraction; exponent = pos 0 }

  abbrev exact : Exact
  exact = record { negative = negative; digits = digits; power = power }

  parts_spell : Spells parts (take count piece)
  parts_spell = record {
    sign = p.sign;
    behind_point = p.after_natural;
    behind_digits = [];
    joined = p.joined ∙ simp append-nil;
    spells_sign = p.spells_sign;
    spells_natural = p.spells_natural;
    spells_fraction = p.spells_fraction;
    spells_exponent = inl (refl, refl);
  }

  scaled : power ≡ pos 0 -ℤ pos (length p.fraction) +ℤ pos tens
  scaled = let e = p.places_is in omega (arith, ints)

  pub long_start : StartsWithNumber piece exact count
  long_start =
      let s = parts_spell in
      let reach = parts_reach parts (take count piece) s in
      let bounded = number_bounded (parts.natural ++ parts.fraction) (parts_digits parts (take count piece) s) in
      let whole : whole_of parts ≡ digits * 10 ^ tens = sym p.digits_is ∙ is in
      let made : Exact = record { negative = negative; digits = digits; power = pos 0 -ℤ pos (length p.fraction) +ℤ pos tens } in
      let same : made ≡ exact = ap (λ z. record { negative = negative; digits = digits; power = z }) (sym scaled) in
      let P : ℤ → Type 0 = λ z. unsigned_abs z ≤ 400 in
      record {
        within = within;
        number = number_from parts (take count piece) s;
        denotes = (parts, s, inr (tens, refl, normal, whole, scaled));
        value = value_is parts (take count piece) s
            ∙ held_value-normal negative _ (whole_of parts) (length p.fraction) (pos 0) digits tens bounded normal whole
            ∙ within_some (pos 0) made (record { digits = below; power = subst P scaled few; written = omega arith })
            ∙ ap Some same;
        ends = (λ b. let Q : List ℕ → Type 0 = λ xs. BeginsNumber xs in
            begins_none (take count piece) (get_or piece count 0) reach.0 reach.1 (rw other (other_ends reach.0.state))
            (subst Q (take_more piece count 0 within) b));
      }
