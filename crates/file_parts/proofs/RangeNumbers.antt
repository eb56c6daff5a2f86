-- Where ranges begin.
use Rattle.std.proofs.Common.{arith, ◌≡◌, ◌*◌, ◌/◌, ◌<◌, ◌≤◌, ℕ, suc, ap, inl, inr}
use Rattle.std.proofs.Math.Nat.{mul-le-mul_right, one-le-mul}
use Rattle.std.proofs.lemmas.Bool.{cases_eq}
use Rattle.file_parts.specs.Ranges.{range_begin}

pub range_first : (size parts : ℕ) → range_begin size parts 0 ≡ 0
range_first size parts = omega arith

pub range_last : (size parts : ℕ) → 0 < parts → range_begin size parts parts ≡ size
range_last size parts some = omega arith

pub range_within : (size parts before : ℕ) → 0 < parts → before ≤ parts → range_begin size parts before ≤ size
range_within size parts before some few =
    let most : before * (size / parts) ≤ parts * (size / parts) = mul-le-mul_right (size / parts) few in
    omega arith

pub range_grows : (size parts before : ℕ) → range_begin size parts before ≤ range_begin size parts (suc before)
range_grows size parts before = omega arith

pub range_some : (size parts before : ℕ) → 0 < size → 0 < parts → 0 < before → 0 < range_begin size parts before
range_some size parts before has some later = elim (cases_eq (size / parts) 0) [
  | inl e ↦
      let none : parts * (size / parts) ≡ parts * 0 = ap (λ (n : ℕ). parts * n) e in
      omega arith
  | inr e ↦
      let more : 1 ≤ before * (size / parts) = one-le-mul (omega (arith, later)) (omega (arith, e)) in
      omega arith
]
