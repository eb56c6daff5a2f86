-- The last of the kept digits.
use Rattle.gj_number.proofs.Common.{Bool, add-one, arith, false, if◌then◌else◌, nat_tests, pow-suc, true, ℕ, ◌%◌, ◌*◌, ◌+◌, ◌<◌, ◌^◌, ◌≡◌, ◌≢◌, ◌≤◌}
use Rattle.std.proofs.Common.{◌&&◌, nat_le}
use Rattle.gj_number.specs.Internal.KeptParts.{last_digit}

-- a number with a last digit
pub ends_in : (k more digit : ℕ) → digit ≢ 0 → digit < 10 → 0 < (k * 10 ^ (more + 1) + digit) % 10
ends_in k more digit some small =
    let power : 10 ^ (more + 1) ≡ 10 ^ more * 10 = rw (add-one) (pow-suc 10 more) in
    let scaled : k * 10 ^ (more + 1) ≡ k * 10 ^ more * 10 = rw power (omega arith) in
    omega arith

pub last_of : (kept count k more digit : ℕ) → digit ≢ 0 → digit < 10 → kept ≡ k * 10 ^ (more + 1) + digit → 0 < last_digit kept count
last_of kept count k more digit some small e = go (nat_le 1 count && nat_le count 30)
  where
    go : (t : Bool) → 0 < (if t then kept % 10 else 1)
    go true = rw e (ends_in k more digit some small)
    go false = omega arith

-- where some are kept and not too many, it is the number's
pub last_is : (kept count : ℕ) → count ≢ 0 → count ≤ 30 → 0 < last_digit kept count → 0 < kept % 10
last_is kept count some few h =
    let least : nat_le 1 count ≡ true = grind (arith, nat_tests) in
    let most : nat_le count 30 ≡ true = grind (arith, nat_tests) in
    rw (least, most) at h
