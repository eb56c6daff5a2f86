-- Digits in a row: in two parts, and without zeros at their end.
use Rattle.gj_number.proofs.Common.{All-append, IsDigit, List, add-one, arith, drop, fold-append, pow-suc, suc, sym, take, take-add, with_digit, zero}
use Rattle.gj_number.proofs.Common.{ℕ, ◌%◌, ◌*◌, ◌+◌, ◌-◌, ◌/◌, ◌<◌, ◌^◌, ◌≡◌}
use Rattle.std.proofs.Common.{All, fold}

-- one zero at the end fewer
pub zero_off : (all head zeros total : ℕ) → 0 < head → head % 10 ≡ 0 → all ≡ head * 10 ^ zeros → head < 10 ^ (total - zeros)
    → (0 < head / 10) × (all ≡ head / 10 * 10 ^ (zeros + 1)) × (zeros + 1 < total) × (head / 10 < 10 ^ (total - (zeros + 1)))
zero_off all head zeros total some e is h =
    let p : 10 ^ (zeros + 1) ≡ 10 ^ zeros * 10 = rw add-one (pow-suc 10 zeros) in
    let tens : head ≡ head / 10 * 10 = omega arith in
    let many : 1 < total - zeros = ten_digits head (total - zeros) (omega arith) h in
    let less : total - zeros ≡ total - (zeros + 1) + 1 = omega arith in
    let q : 10 ^ (total - (zeros + 1) + 1) ≡ 10 ^ (total - (zeros + 1)) * 10 = rw add-one (pow-suc 10 (total - (zeros + 1))) in
    let k : head < 10 ^ (total - (zeros + 1) + 1) = rw less at h in
    (omega arith, all_tens all head (head / 10) (10 ^ zeros) (10 ^ (zeros + 1)) is tens p, omega arith, omega arith)
  where
    all_tens : (all head h m n : ℕ) → all ≡ head * m → head ≡ h * 10 → n ≡ m * 10 → all ≡ h * n
    all_tens all head h m n e f g = rw (e, f, g) (omega arith)

    ten_digits : (head n : ℕ) → 9 < head → head < 10 ^ n → 1 < n
    ten_digits head zero h k = absurd (omega arith)
    ten_digits head (suc zero) h k = absurd (omega arith)
    ten_digits head (suc (suc n)) h k = omega arith

-- digits that are taken in two parts
pub parts_fold : (piece : List ℕ) (i n whole : ℕ)
    → fold with_digit (fold with_digit whole (take i piece)) (take n (drop i piece)) ≡ fold with_digit whole (take (i + n) piece)
parts_fold piece i n whole = rw (take-add i n piece) (sym (fold-append with_digit whole (take i piece) (take n (drop i piece))))

pub parts_digits : (piece : List ℕ) (i n : ℕ) → All IsDigit (take i piece) → All IsDigit (take n (drop i piece)) → All IsDigit (take (i + n) piece)
parts_digits piece i n front rest = rw (take-add i n piece) (All-append IsDigit (take i piece) (take n (drop i piece)) front rest)
