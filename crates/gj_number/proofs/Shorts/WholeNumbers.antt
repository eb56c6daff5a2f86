-- The number that is whole at the start of a piece is found by the states of its bytes.
use Rattle.gj_number.proofs.Common.{AllByRecursion, InExponent, InFraction, InNatural, IsDigit, List, None, Option, Some, Start, State, ap, arith, cases_lt, false}
use Rattle.gj_number.proofs.Common.{drop, get_or, inl, inr, length, may_end_in, next_of, refl, subst, sym, take, take-add, take_more, true, ℕ, [], ◌++◌, ◌+◌, ◌-◌}
use Rattle.gj_number.proofs.Common.{◌<◌, ◌∙◌, ◌∷◌, ◌≡◌, ◌≤◌}
use Rattle.std.proofs.Common.{is_some}
use Rattle.gj_number.specs.DecidedNumbers.{is_number, begins_number, may_end_at}
use Rattle.gj_number.specs.Short.{IsWhole}
use Rattle.gj_number.specs.Internal.NumberMachine.{class_of, state_after}
use Rattle.gj_number.proofs.Grammar.ByteClasses.{digit_goes}
use Rattle.gj_number.proofs.Grammar.DecidedNumbers.{begins, none_after, number}
use Rattle.gj_number.proofs.Grammar.StateMoves.{takes_digit}

after_both : (o : Option State) (xs ys : List ℕ) → state_after o (xs ++ ys) ≡ state_after (state_after o xs) ys
after_both o [] ys = refl
after_both None (b ∷ xs) ys = sym (none_after ys)
after_both (Some s) (b ∷ xs) ys = after_both (next_of s (class_of b)) xs ys

goes : (s : State) (b : ℕ) → takes_digit s ≡ true → IsDigit b → next_of s (class_of b) ≡ Some s
goes InNatural b t d = digit_goes InNatural InNatural b refl refl d
goes InFraction b t d = digit_goes InFraction InFraction b refl refl d
goes InExponent b t d = digit_goes InExponent InExponent b refl refl d
goes _ b t d = cc

pub digits_stay : (s : State) (digits : List ℕ) → takes_digit s ≡ true → AllByRecursion IsDigit digits → state_after (Some s) digits ≡ Some s
digits_stay s [] t h = refl
digits_stay s (b ∷ digits) t h = rw (goes s b t h.0) (digits_stay s digits t h.1)

-- the bytes up to an index, of a piece
abbrev pub after : List ℕ → ℕ → Option State
after piece n = state_after (Some Start) (take n piece)

module _ (piece : List ℕ) where
  after_more : (i n : ℕ) → after piece (i + n) ≡ state_after (after piece i) (take n (drop i piece))
  after_more i n = ap (state_after (Some Start)) (take-add i n piece) ∙ after_both (Some Start) (take i piece) (take n (drop i piece))

  pub after_one : (i : ℕ) (s : State) → i < length piece → after piece i ≡ Some s → after piece (i + 1) ≡ next_of s (class_of (get_or piece i 0))
  after_one i s w e =
      let bytes : List ℕ = get_or piece i 0 ∷ [] in
      ap (state_after (Some Start)) (take_more piece i 0 w) ∙ after_both (Some Start) (take i piece) bytes ∙ ap (λ o. state_after o bytes) e

  pub after_run : (i n : ℕ) (s : State) → after piece i ≡ Some s → state_after (Some s) (take n (drop i piece)) ≡ Some s → after piece (i + n) ≡ Some s
  after_run i n s e h = after_more i n ∙ ap (λ o. state_after o (take n (drop i piece))) e ∙ h

  some_before : (o : Option State) (ys : List ℕ) → is_some (state_after o ys) ≡ true → is_some o ≡ true
  some_before None ys h = let e : false ≡ true = ap is_some (sym (none_after ys)) ∙ h in cc
  some_before (Some s) ys h = refl

  begun : (k n : ℕ) → k ≤ n → is_some (after piece n) ≡ true → is_some (after piece k) ≡ true
  begun k n le h =
      let P : ℕ → Type 0 = λ m. is_some (after piece m) ≡ true in
      let e : n ≡ k + (n - k) = omega arith in
      some_before (after piece k) (take (n - k) (drop k piece)) (ap is_some (sym (after_more k (n - k))) ∙ subst P e h)

  some_at : (o : Option State) → may_end_at o ≡ true → is_some o ≡ true
  some_at None h = cc
  some_at (Some s) h = refl

  module _ (at : ℕ) (s : State) (is : after piece at ≡ Some s) where
    -- a shorter number goes on
    pub none_shorter : (n : ℕ) → IsWhole piece n → n < at → ⊥
    unfolding begins_number
    none_shorter n w less = w.ends ((begins (take (n + 1) piece)).0 (begun (n + 1) at (omega arith) (ap is_some is)))

    module _ (within : at < length piece) (stops : next_of s (class_of (get_or piece at 0)) ≡ None) where
      none_on : is_some (after piece (at + 1)) ≡ false
      none_on = ap is_some (after_one at s within is ∙ stops)

      pub whole_here : may_end_in s ≡ true → IsWhole piece at
      unfolding is_number begins_number
      whole_here ends = record {
        within = within;
        number = (number (take at piece)).0 (ap may_end_at is ∙ ends);
        ends = (λ b. let e : false ≡ true = sym none_on ∙ (begins (take (at + 1) piece)).1 b in cc);
      }

      pub whole_ends : (n : ℕ) → IsWhole piece n → may_end_in s ≡ true
      unfolding is_number
      whole_ends n w =
          let k = (number (take n piece)).1 w.number in
          elim (cases_lt at n) [
            | inl l ↦ absurd (let e : false ≡ true = sym none_on ∙ begun (at + 1) n (omega arith) (some_at (after piece n) k) in cc)
            | inr m ↦ elim (cases_lt n at) [
              | inl l ↦ absurd (none_shorter n w l)
              | inr o ↦ (let e : n ≡ at = omega arith in let P : ℕ → Type 0 = λ i. may_end_at (after piece i) ≡ true in
                  ap may_end_at (sym is) ∙ subst P e k)
            ]
          ]
