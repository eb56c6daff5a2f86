-- The number that a piece starts with, with an exponent or none.
use Rattle.gj_number.proofs.Common.{BeginsNumber, Bool, IsExponentLetter, List, Other, Parts, Spells, SpellsExponentSign, SpellsOn, SpellsPlain}
use Rattle.gj_number.proofs.Common.{StartsWithNumber, ap, append-nil, append_assoc, arith, drop, drop-cons, get_or, inl, inr, ints, length}
use Rattle.gj_number.proofs.Common.{length-take-le, number_of, refl, scale_of, signed, subst, suc, sym, take, take-add, take_more, unsigned_abs}
use Rattle.gj_number.proofs.Common.{whole_of, zero, ℕ, ℤ, [], ◌*◌, ◌++◌, ◌+◌, ◌-ℤ◌, ◌<◌, ◌^◌, ◌∙◌, ◌∷◌, ◌≡◌, ◌≤◌}
use Rattle.std.proofs.Common.{pos}
use Rattle.gj_number.specs.Internal.NumberMachine.{class_of}
use Rattle.gj_number.specs.Short.{short_value}
use Rattle.gj_number.proofs.Literals.DigitBounds.{scaled_below}
use Rattle.gj_number.proofs.Grammar.PartScans.{parts_reach}
use Rattle.gj_number.proofs.Grammar.StateMoves.{other_ends}
use Rattle.gj_number.proofs.Value.NormalForm.{number_bounded}
use Rattle.gj_number.proofs.Shorts.NumberPrefixes.{fraction_is, below_power}
use Rattle.gj_number.proofs.Value.SameDecimals.{unsigned_abs-signed}
use Rattle.gj_number.proofs.Shorts.ShortDecimals.{held_short, denoted_short}
use Rattle.gj_number.proofs.Grammar.SpelledParts.{number_from}
use Rattle.gj_number.proofs.Grammar.FoundParts.{value_is, parts_digits}
use Rattle.gj_number.proofs.Literals.LiteralBytes.{begins_none}

-- what is made of parts, after which a byte stands that no number has
front_is : (piece : List ℕ) (n up all places : ℕ) (parts : Parts) → Spells parts (take n piece) → all ≡ whole_of parts * 10 ^ up → all < 10 ^ 18 → places ≤ 18
    → unsigned_abs parts.exponent ≤ 1000
    → scale_of parts ≡ pos up -ℤ pos places → n < length piece → class_of (get_or piece n 0) ≡ Other
    → StartsWithNumber piece (short_value parts.negative all places) n
front_is piece n up all places parts s is small few written scale within other =
    let reach = parts_reach parts (take n piece) s in
    let bounded = number_bounded (parts.natural ++ parts.fraction) (parts_digits parts (take n piece) s) in
    record {
      within = within;
      number = number_from parts (take n piece) s;
      denotes = (parts, s, denoted_short parts up all places is small scale);
      value = value_is parts (take n piece) s
          ∙ held_short parts.negative _ (whole_of parts) up all places (length parts.fraction) parts.exponent bounded is small few written scale;
      ends = (λ b. let P : List ℕ → Type 0 = λ xs. BeginsNumber xs in
          begins_none (take n piece) (get_or piece n 0) reach.0 reach.1 (rw other (other_ends reach.0.state)) (subst P (take_more piece n 0 within) b));
    }

-- ---- no exponent

module _ (piece : List ℕ) (negative : Bool) (digits places count : ℕ) (p : SpellsPlain piece negative digits places count) where
  abbrev parts_with : ℤ → Parts
  parts_with exponent = record { negative = negative; natural = p.natural; fraction = p.fraction; exponent = exponent }

  pub plain_front : digits < 10 ^ 18 → places ≤ 18 → count < length piece → class_of (get_or piece count 0) ≡ Other
      → StartsWithNumber piece (short_value negative digits places) count
  plain_front small few within other =
      let s : Spells (parts_with (pos 0)) (take count piece) = record {
        sign = p.sign;
        behind_point = p.after_natural;
        behind_digits = [];
        joined = p.joined ∙ simp append-nil;
        spells_sign = p.spells_sign;
        spells_natural = p.spells_natural;
        spells_fraction = p.spells_fraction;
        spells_exponent = inl (refl, refl);
      } in
      let one : number_of (p.natural ++ p.fraction) ≡ number_of (p.natural ++ p.fraction) * 10 ^ 0 = omega arith in
      front_is piece count 0 digits places (parts_with (pos 0)) s (p.digits_is ∙ one) small few (omega (arith, ints))
      (ap (λ n. pos 0 -ℤ pos n) (sym p.places_is)) within other

  -- ---- an exponent

  module _ (sign first n value : ℕ) (minus : Bool) (within : count + 1 < length piece) (letter : IsExponentLetter (get_or piece count 0)) (one : sign ≤ 1)
      (signs : SpellsExponentSign minus (take sign (get_or piece (count + 1) 0 ∷ [])))
      (first_is : first ≡ count + 1 + sign) (spells : SpellsOn (drop first piece) 0 n value) (some : 0 < n) where
    sign_front : (b : ℕ) (k : ℕ) (bytes : List ℕ) → k ≤ 1 → take k (b ∷ bytes) ≡ take k (b ∷ [])
    sign_front b zero bytes h = refl
    sign_front b (suc zero) bytes h = refl
    sign_front b (suc (suc k)) bytes h = absurd (omega arith)

    abbrev sign_bytes : List ℕ
    sign_bytes = take sign (get_or piece (count + 1) 0 ∷ [])

    abbrev digit_bytes : List ℕ
    digit_bytes = take n (drop first piece)

    exponent_joined : take (first + n) piece ≡ p.sign ++ (p.natural ++ (p.after_natural ++ (get_or piece count 0 ∷ (sign_bytes ++ digit_bytes))))
    exponent_joined =
        let signs_are : take sign (drop (count + 1) piece) ≡ sign_bytes =
        ap (take sign) (drop-cons piece (count + 1) 0 within) ∙ sign_front (get_or piece (count + 1) 0) sign (drop (suc (count + 1)) piece) one in
        let front : take first piece ≡ (take count piece ++ get_or piece count 0 ∷ []) ++ sign_bytes =
        ap (λ k. take k piece) first_is ∙ take-add (count + 1) sign piece ∙ (λ i. take_more piece count 0 (omega arith) i ++ signs_are i) in
        take-add first n piece ∙ ap (λ xs. xs ++ digit_bytes) front ∙ ap (λ xs. ((xs ++ get_or piece count 0 ∷ []) ++ sign_bytes) ++ digit_bytes) p.joined
        ∙ simp append_assoc

    pub exponent_front : (up all places' : ℕ) → all ≡ digits * 10 ^ up → all < 10 ^ 18 → places' ≤ 18 → value ≤ 1000
        → signed minus value -ℤ pos places ≡ pos up -ℤ pos places' → first + n < length piece
        → class_of (get_or piece (first + n) 0) ≡ Other → StartsWithNumber piece (short_value negative all places') (first + n)
    exponent_front up all places' is small few written scale end other =
        let long : length digit_bytes ≡ n = length-take-le n (drop first piece) spells.within in
        let s : Spells (parts_with (signed minus value)) (take (first + n) piece) = record {
          sign = p.sign;
          behind_point = p.after_natural;
          behind_digits = get_or piece count 0 ∷ (sign_bytes ++ digit_bytes);
          joined = exponent_joined;
          spells_sign = p.spells_sign;
          spells_natural = p.spells_natural;
          spells_fraction = p.spells_fraction;
          spells_exponent = inr (
            get_or piece count 0,
            sign_bytes,
            digit_bytes,
            minus,
            refl,
            letter,
            signs,
            fraction_is digit_bytes (omega arith) spells.digits,
            ap
                (signed minus) spells.value_is,
          );
        } in
        front_is piece (first + n) up all places' (parts_with (signed minus value)) s (is ∙ ap (λ m. m * 10 ^ up) p.digits_is) small few
        (rw (unsigned_abs-signed minus value) written)
        (ap (λ m. signed minus value -ℤ pos m) (sym p.places_is) ∙ scale) end other

-- three digits at the most
pub few_written : (piece : List ℕ) (n value : ℕ) → SpellsOn piece 0 n value → n ≤ 3 → value < 1000
few_written piece n value h few = let b = below_power piece n value h in let l = scaled_below value n 0 3 b (omega arith) in omega arith
