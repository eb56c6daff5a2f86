-- How a machine's scans lead from one to another.
use Rattle.gj_number.proofs.Common.{AfterLetter, AfterMinus, AfterPoint, AfterSign, AfterZero, InExponent, InFraction, InNatural, List, Reaches, Scan}
use Rattle.gj_number.proofs.Common.{Some, Start, State, Zero, may_end_in, next_of, refl, subst, sym, taken, true, zero_digit, ℕ, [], ◌++◌, ◌∙◌, ◌∷◌}
use Rattle.gj_number.proofs.Common.{◌≡◌}
use Rattle.gj_number.specs.Internal.NumberMachine.{class_of}
use Rattle.gj_number.proofs.Grammar.ByteClasses.{class_is}

pub state-taken : (state : State) (b : ℕ) (t : Scan) → (taken state b t).state ≡ state
state-taken Start b t = refl
state-taken other b t = refl

-- the same bytes lead to one scan
pub one_scan : (s t u : Scan) (bytes : List ℕ) → Reaches s bytes t → Reaches s bytes u → t ≡ u
one_scan s t u [] h k = sym h ∙ k
one_scan s t u (b ∷ bytes) h k =
    let e : h.0 ≡ k.0 = cc (h.1, k.1) in
    let P : State → Type 0 = λ x. Reaches (taken x b s) bytes t in
    one_scan (taken k.0 b s) t u bytes (subst P e h.2) k.2

pub reaches_on : (s t u : Scan) (xs ys : List ℕ) → Reaches s xs t → Reaches t ys u → Reaches s (xs ++ ys) u
reaches_on s t u [] ys h k = let P : Scan → Type 0 = λ x. Reaches x ys u in subst P (sym h) k
reaches_on s t u (b ∷ xs) ys h k = (h.0, h.1, reaches_on (taken h.0 b s) t u xs ys h.2 k)

pub reaches_part : (s u : Scan) (xs ys : List ℕ) → Reaches s (xs ++ ys) u → (t : Scan) × Reaches s xs t × Reaches t ys u
reaches_part s u [] ys h = (s, refl, h)
reaches_part s u (b ∷ xs) ys h = let k = reaches_part (taken h.0 b s) u xs ys h.2 in (k.0, (h.0, h.1, k.1), k.2)

-- one byte more
pub reaches_one : (s t : Scan) (xs : List ℕ) (b : ℕ) (state : State) → Reaches s xs t → next_of t.state (class_of b) ≡ Some state
    → Reaches s (xs ++ b ∷ []) (taken state b t)
reaches_one s t xs b state h e = reaches_on s t (taken state b t) xs (b ∷ []) h (state, e, refl)

-- each scan leads by some bytes to one in which a number may end
pub ending : (state : State) (t : Scan) → t.state ≡ state → (rest : List ℕ) × (u : Scan) × Reaches t rest u × (may_end_in u.state ≡ true)
ending state t e = go state e
  where
    by_zero : (next : State) → next_of t.state (class_of zero_digit) ≡ Some next → may_end_in next ≡ true → (rest : List ℕ) × (u : Scan) × Reaches t rest u
        × (may_end_in u.state ≡ true)
    by_zero next n m = (zero_digit ∷ [], taken next zero_digit t, (next, n, refl), rw (state-taken next zero_digit t) m)

    here : may_end_in t.state ≡ true → (rest : List ℕ) × (u : Scan) × Reaches t rest u × (may_end_in u.state ≡ true)
    here m = ([], t, refl, m)

    zero_is : class_of zero_digit ≡ Zero
    zero_is = class_is Zero zero_digit refl (λ n. cc)

    go : (state : State) → t.state ≡ state → (rest : List ℕ) × (u : Scan) × Reaches t rest u × (may_end_in u.state ≡ true)
    go Start e = by_zero AfterZero (rw (e, zero_is) refl) refl
    go AfterMinus e = by_zero AfterZero (rw (e, zero_is) refl) refl
    go AfterZero e = here (rw e refl)
    go InNatural e = here (rw e refl)
    go AfterPoint e = by_zero InFraction (rw (e, zero_is) refl) refl
    go InFraction e = here (rw e refl)
    go AfterLetter e = by_zero InExponent (rw (e, zero_is) refl) refl
    go AfterSign e = by_zero InExponent (rw (e, zero_is) refl) refl
    go InExponent e = here (rw e refl)
