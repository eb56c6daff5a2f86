-- Two numbers with a comma between them.
use Rattle.gj_number.proofs.Common.{Bool, List, Other, SpellsPlain, StartsWithNumber, StartsWithPair, ap, arith, bool_byte, close_bracket, comma}
use Rattle.gj_number.proofs.Common.{drop, false, get_or, get_or-drop, inl, inr, length, length-drop, nat_tests, refl, space, subst, sym, take}
use Rattle.gj_number.proofs.Common.{take_rest, true, ℕ, ◌+◌, ◌-◌, ◌<◌, ◌==◌, ◌^◌, ◌∙◌, ◌≡◌, ◌≤◌, ◌⊎◌}
use Rattle.gj_number.specs.Internal.NumberMachine.{class_of}
use Rattle.gj_number.specs.Short.{short_value}
use Rattle.gj_number.proofs.Shorts.WrittenExponents.{plain_front}

pub comma_other : class_of comma ≡ Other
unfolding class_of
comma_other = refl

pub bracket_other : class_of close_bracket ≡ Other
unfolding class_of
bracket_other = refl

-- one space, or none
space_or_none : (b k : ℕ) (t : Bool) → (b == space) ≡ t → (k + 1 + bool_byte t ≡ k + 1) ⊎ ((k + 1 + bool_byte t ≡ k + 2) × (b ≡ space))
space_or_none b k false e = inl (omega arith)
space_or_none b k true e = inr (omega arith, grind (arith, nat_tests))

module _ (piece : List ℕ) (negative minus : Bool) (digits places length_one more_digits more_places length_other at : ℕ) where
  pub pair_front : SpellsPlain piece negative digits places length_one → digits < 10 ^ 18 → places ≤ 18 → length_one < length piece
      → get_or piece length_one 0 ≡ comma → at ≡ length_one + 1 + bool_byte (get_or piece (length_one + 1) 0 == space)
      → at + length_other < length piece → SpellsPlain (take (length piece - at) (drop at piece)) minus more_digits more_places length_other
      → more_digits < 10 ^ 18 → more_places ≤ 18 → get_or (take (length piece - at) (drop at piece)) length_other 0 ≡ close_bracket
      → StartsWithPair piece (short_value negative digits places) (short_value minus more_digits more_places) length_one at (at + length_other)
  pair_front one small few within ends at_is room other more_small more_few closes =
      let rest : take (length piece - at) (drop at piece) ≡ drop at piece = take_rest piece at in
      let P : List ℕ → Type 0 = λ xs. SpellsPlain xs minus more_digits more_places length_other in
      let closing : get_or (drop at piece) length_other 0 ≡ close_bracket = ap (λ xs. get_or xs length_other 0) (sym rest) ∙ closes in
      let back : length_other ≡ at + length_other - at = omega arith in
      let Q : ℕ → Type 0 = λ n. StartsWithNumber (drop at piece) (short_value minus more_digits more_places) n in
      record {
        one = plain_front piece negative digits places length_one one small few within (ap class_of ends ∙ comma_other);
        comma = ends;
        between = between_is;
        ordered = omega arith;
        other = subst Q back
            (plain_front (drop at piece) minus more_digits more_places length_other (subst P rest other) more_small more_few
            (omega (arith, length-drop at piece)) (ap class_of closing ∙ bracket_other));
        closing = sym (get_or-drop at piece length_other 0) ∙ closing;
      }
    where
      between_is : (at ≡ length_one + 1) ⊎ ((at ≡ length_one + 2) × (get_or piece (length_one + 1) 0 ≡ space))
      between_is = let R : ℕ → Type 0 = λ n. (n ≡ length_one + 1)
          ⊎ ((n ≡ length_one + 2) × (get_or piece (length_one + 1) 0 ≡ space)) in
          subst R (sym at_is) (space_or_none (get_or piece (length_one + 1) 0) length_one (get_or piece (length_one + 1) 0 == space) refl)
