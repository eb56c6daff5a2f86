-- The bounds of kept digits.
use Rattle.gj_number.proofs.Common.{arith, mul-le-mul_right, pow-add, pow-le-pow_right, ℕ, ◌*◌, ◌+◌, ◌<◌, ◌^◌, ◌≡◌, ◌≤◌}

-- a number below one power of ten, multiplied by another
pub scaled_below : (n i j k : ℕ) → n < 10 ^ i → i + j ≤ k → (n + 1) * 10 ^ j ≤ 10 ^ k
scaled_below n i j k h e =
    let step : n + 1 ≤ 10 ^ i = omega arith in
    let g = mul-le-mul_right (10 ^ j) step in
    let f = pow-add 10 i j in
    let l : 10 ^ (i + j) ≤ 10 ^ k = pow-le-pow_right {n = 10} (omega arith) e in
    omega arith

-- with a digit more after it
pub digit_below : (n i j digit : ℕ) → n < 10 ^ i → digit < 10 ^ j → n * 10 ^ j + digit < 10 ^ (i + j)
digit_below n i j digit h k =
    let step : n + 1 ≤ 10 ^ i = omega arith in
    let g = mul-le-mul_right (10 ^ j) step in
    let f = pow-add 10 i j in
    omega arith

-- a digit is below each power of ten above the first
pub small_digit : (digit j : ℕ) → digit < 10 → 0 < j → digit < 10 ^ j
small_digit digit j h k = let l : 10 ^ 1 ≤ 10 ^ j = pow-le-pow_right {n = 10} (omega arith) k in omega arith

-- with zeros and a digit more, thirty digits at the most
pub kept_below : (kept count pending digit : ℕ) → kept < 10 ^ count → digit < 10 → count + pending + 1 ≤ 30
    → (kept * 10 ^ (pending + 1) + digit < 10 ^ (count + pending + 1)) × (kept * 10 ^ (pending + 1) + digit < 10 ^ 30)
kept_below kept count pending digit h k few =
    let sum : count + (pending + 1) ≡ count + pending + 1 = omega arith in
    let all = rw sum at (digit_below kept count (pending + 1) digit h (small_digit digit (pending + 1) k (omega arith))) in
    let most : 10 ^ (count + pending + 1) ≤ 10 ^ 30 = pow-le-pow_right {n = 10} (omega arith) few in
    (all, omega arith)

-- for any count
pub kept_far : (kept count : ℕ) → kept < 10 ^ count → count ≤ 31 → kept < 10 ^ 31
kept_far kept count h few = let most : 10 ^ count ≤ 10 ^ 31 = pow-le-pow_right {n = 10} (omega arith) few in omega arith
