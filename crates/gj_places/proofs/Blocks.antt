-- The blocks of a list, one after the other.
use Rattle.std.proofs.Common.{◌≡◌, ℕ, zero, suc, ◌+◌, ◌*◌, ◌<◌, ◌≤◌, ◌++◌, List, [], length, take, take-add, drop, drop-drop, length-drop, get_or, ap, sym, ◌∙◌}
use Rattle.std.proofs.Common.{arith}
use Rattle.std.proofs.Math.Nat.{mul-le-mul_right}
use Rattle.std.proofs.lemmas.List.{take-append-drop, length-take-le}
use Rattle.std.specs.Simd.{first_chunks}

-- a block is that part of the list
pub block_at : (n k i : ℕ) (xs : List ℕ) → i < k → get_or (first_chunks n k xs) i [] ≡ take n (drop (i * n) xs)
block_at n zero i xs h = absurd (omega arith)
block_at n (suc k) zero xs h = let e : 0 * n ≡ 0 = omega arith in ap (λ m. take n (drop m xs)) (sym e)
block_at n (suc k) (suc i) xs h =
    let e : n + i * n ≡ suc i * n = omega arith in
    block_at n k i (drop n xs) (omega arith) ∙ ap (take n) (drop-drop (i * n) n xs) ∙ ap (λ m. take n (drop m xs)) e

-- with one block more
pub next_block : (n i k : ℕ) (xs : List ℕ) (blocks : List (List ℕ)) → blocks ≡ first_chunks n k xs → i < k
    → take ((i + 1) * n) xs ≡ take (i * n) xs ++ get_or blocks i []
next_block n i k xs blocks same less =
    let e : (i + 1) * n ≡ i * n + n = omega arith in
    let it : get_or blocks i [] ≡ take n (drop (i * n) xs) = ap (λ bs. get_or bs i []) same ∙ block_at n k i xs less in
    ap (λ m. take m xs) e ∙ take-add (i * n) n xs ∙ ap (λ ys. take (i * n) xs ++ ys) (sym it)

-- all of them, and what fills none
pub blocks_and_rest : (n i k : ℕ) (xs rest : List ℕ) → rest ≡ drop (k * n) xs → i ≡ k → take (i * n) xs ++ rest ≡ xs
blocks_and_rest n i k xs rest same all =
    ap (λ ys. take (i * n) xs ++ ys) (same ∙ ap (λ m. drop (m * n) xs) (sym all)) ∙ take-append-drop (i * n) xs

-- each of them is whole
pub length-block : (n i k : ℕ) (xs : List ℕ) (blocks : List (List ℕ)) → blocks ≡ first_chunks n k xs → i < k → k * n ≤ length xs
    → length (get_or blocks i []) ≡ n
length-block n i k xs blocks same less enough =
    let it : get_or blocks i [] ≡ take n (drop (i * n) xs) = ap (λ bs. get_or bs i []) same ∙ block_at n k i xs less in
    let room : (i + 1) * n ≤ k * n = mul-le-mul_right n (omega arith) in
    let left : n ≤ length (drop (i * n) xs) = omega (arith, length-drop (i * n) xs) in
    ap length it ∙ length-take-le n (drop (i * n) xs) left
