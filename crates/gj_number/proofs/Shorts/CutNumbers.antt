-- What a cut number is.
use Rattle.gj_number.proofs.Common.{None, Some, ap, arith, false, limited_cut, limited_to, ltb, mul-le-mul_right, mul_assoc, nat_tests, pow-add}
use Rattle.gj_number.proofs.Common.{pow-le-pow_right, refl, sym, true, ℕ, ◌*◌, ◌+◌, ◌-◌, ◌/◌, ◌<◌, ◌^◌, ◌∙◌, ◌≡◌, ◌≤◌}
use Rattle.std.proofs.Common.{nat_le}
use Rattle.std.proofs.Math.Nat.{div-eq_of_lt}
use Rattle.gj_number.specs.Exact.{cut_limit}
use Rattle.gj_number.proofs.Value.NormalForm.{ten_above_zero}

pub limited_below : (magnitude : ℕ) → magnitude < cut_limit → limited_cut magnitude ≡ Some magnitude
limited_below magnitude h = let e : ltb magnitude cut_limit ≡ true = grind (arith, nat_tests) in rw e refl

pub limited_above : (magnitude : ℕ) → cut_limit ≤ magnitude → limited_cut magnitude ≡ None
limited_above magnitude h = let e : ltb magnitude cut_limit ≡ false = grind (arith, nat_tests) in rw e refl

-- digits that are moved up far
pub raised_far : (digits up : ℕ) → 0 < digits → 17 ≤ up → limited_cut (digits * 10 ^ up) ≡ None
raised_far digits up some far =
    let l : 10 ^ 17 ≤ 10 ^ up = pow-le-pow_right {n = 10} (omega arith) far in
    let m = mul-le-mul_right (10 ^ up) some in
    limited_above (digits * 10 ^ up) (omega arith)

together : (up : ℕ) → up < 17 → 10 ^ (17 - up) * 10 ^ up ≡ cut_limit
together up h = let e : 17 - up + up ≡ 17 = omega arith in sym (pow-add 10 (17 - up) up) ∙ ap (λ n. 10 ^ n) e

pub raised_above : (digits up : ℕ) → up < 17 → 10 ^ (17 - up) ≤ digits → limited_cut (digits * 10 ^ up) ≡ None
raised_above digits up h large =
    let m = mul-le-mul_right (10 ^ up) large in
    let t = together up h in
    limited_above (digits * 10 ^ up) (omega arith)

pub raised_small : (digits up : ℕ) → up < 17 → digits < 10 ^ (17 - up) → digits * 10 ^ up < cut_limit
raised_small digits up h small =
    let step : digits + 1 ≤ 10 ^ (17 - up) = omega arith in
    let m = mul-le-mul_right (10 ^ up) step in
    let t = together up h in
    let p = ten_above_zero up in
    omega arith

-- digits that are moved down past the last
pub lowered_far : (digits down : ℕ) → digits < 10 ^ 30 → 30 ≤ down → limited_cut (digits / 10 ^ down) ≡ Some 0
lowered_far digits down small far =
    let l : 10 ^ 30 ≤ 10 ^ down = pow-le-pow_right {n = 10} (omega arith) far in
    let e : digits / 10 ^ down ≡ 0 = div-eq_of_lt (omega arith) in
    rw e refl

-- ---- a limit that it may reach

pub limited_at : (most magnitude : ℕ) → magnitude ≤ most → limited_to most magnitude ≡ Some magnitude
limited_at most magnitude h = let e : nat_le magnitude most ≡ true = grind (arith, nat_tests) in rw e refl

pub limited_past : (most magnitude : ℕ) → most < magnitude → limited_to most magnitude ≡ None
limited_past most magnitude h = let e : nat_le magnitude most ≡ false = grind (arith, nat_tests) in rw e refl

seven : (places : ℕ) → places ≤ 7 → 10 ^ places * 10 ^ (7 - places) ≡ 10 ^ 7
seven places h = let e : places + (7 - places) ≡ 7 = omega arith in sym (pow-add 10 places (7 - places)) ∙ ap (λ n. 10 ^ n) e

-- digits that are at most so many as written are so with seven places
pub raised_at : (digits places most : ℕ) → places ≤ 7 → digits ≤ most * 10 ^ places → digits * 10 ^ (7 - places) ≤ most * 10 ^ 7
raised_at digits places most h small =
    let m = mul-le-mul_right (10 ^ (7 - places)) small in
    let e : most * 10 ^ places * 10 ^ (7 - places) ≡ most * 10 ^ 7 = mul_assoc most (10 ^ places) (10 ^ (7 - places)) ∙ ap (λ n. most * n) (seven places h) in
    omega arith

pub raised_past : (digits places most : ℕ) → places ≤ 7 → most * 10 ^ places < digits → most * 10 ^ 7 < digits * 10 ^ (7 - places)
raised_past digits places most h large =
    let step : most * 10 ^ places + 1 ≤ digits = omega arith in
    let m = mul-le-mul_right (10 ^ (7 - places)) step in
    let e : most * 10 ^ places * 10 ^ (7 - places) ≡ most * 10 ^ 7 = mul_assoc most (10 ^ places) (10 ^ (7 - places)) ∙ ap (λ n. most * n) (seven places h) in
    let p = ten_above_zero (7 - places) in
    let d : (most * 10 ^ places + 1) * 10 ^ (7 - places) ≡ most * 10 ^ places * 10 ^ (7 - places) + 10 ^ (7 - places) = omega arith in
    omega arith
