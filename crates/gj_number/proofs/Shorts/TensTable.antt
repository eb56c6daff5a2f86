-- A table of powers of ten.
use Rattle.gj_number.proofs.Common.{List, ap, arith, get_or, suc, zero, ℕ, [], ◌+◌, ◌<◌, ◌^◌, ◌∷◌, ◌≡◌}

-- so many powers of ten, from this one on
abbrev pub powers_from : ℕ → ℕ → List ℕ
powers_from first zero = []
powers_from first (suc more) = 10 ^ first ∷ powers_from (suc first) more

pub power_at : (first many n : ℕ) → n < many → get_or (powers_from first many) n 0 ≡ 10 ^ (first + n)
power_at first zero n h = absurd (omega arith)
power_at first (suc many) zero h = ap (λ k. 10 ^ k) (omega arith)
power_at first (suc many) (suc n) h = let e : suc first + n ≡ first + suc n = omega arith in rw (power_at (suc first) many n (omega arith)) (ap (λ k. 10 ^ k) e)
