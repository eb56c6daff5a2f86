-- Lemmas on the counts of notes, and of files together.
use Rattle.std.proofs.Common.{arith, ◌≡◌, ◌<◌, ℕ, ◌+◌, List, ap, sym, ◌∙◌, length, get_or, set, inl, inr}
use Rattle.std.specs.Io.Iter.{u64_saturate}
use Rattle.std.proofs.lemmas.Bool.Decides.{eqb_tells}
use Rattle.std.proofs.lemmas.List.{get_or-set_same, get_or-set_other}
use Rattle.geolint_report.specs.Slots.{more}

-- one sum more
pub sums-more : (one other sums : List ℕ) (i v : ℕ) → i < length sums → ((j : ℕ) → j < i → get_or sums j 0 ≡ u64_saturate (get_or one j 0 + get_or other j 0))
    → v ≡ u64_saturate (get_or one i 0 + get_or other i 0) → (j : ℕ) → j < i + 1 → get_or (set sums i v) j 0 ≡ u64_saturate (get_or one j 0 + get_or other j 0)
sums-more one other sums i v within before is j small = elim (eqb_tells j i) [
  | inl e ↦ (ap (λ (n : ℕ). get_or (set sums i v) n 0) e.1
      ∙ (get_or-set_same sums i v 0 within ∙ (is ∙ ap (λ (n : ℕ). u64_saturate (get_or one n 0 + get_or other n 0)) (sym e.1))))
  | inr e ↦ (get_or-set_other sums i j v 0 e.1 ∙ before j (omega (arith, small, e.1)))
]
