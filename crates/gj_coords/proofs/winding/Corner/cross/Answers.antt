use Rattle.gj_coords.proofs.Common.{FitsSigned, arith, ints, of_z, pos, rules, to_z-of_z, w32, w64, ℤ, ◌*◌}
use Rattle.std.specs.Prelude.{◌-ℤ◌, ◌*ℤ◌, negsuc, neg_ℤ}
use Rattle.std.proofs.Common.{◌≡◌, ℕ, suc, refl, to_z, ◌-◌, ◌^◌, ◌<◌, ◌≤◌, ◌≤ℤ◌, ◌<ℤ◌}
use Rattle.std.proofs.lemmas.Nat.{mul-le}
use Rattle.gj_coords.proofs.winding.Corner.cross.Goals as goal

-- the product of two numbers of 32 bits lies above -2^62, and is 2^62 at most
record IsProduct (p : ℤ) : Type 0 where
  low : neg_ℤ (pos (2 ^ 62)) <ℤ p
  high : p ≤ℤ pos (2 ^ 62)

of_magnitude : (k : ℕ) → k < 2 ^ 62 → IsProduct (neg_ℤ (pos k))
of_magnitude k small = record { low = omega (arith, ints); high = omega (arith, ints) }

of_natural : (k : ℕ) → k ≤ 2 ^ 62 → IsProduct (pos k)
of_natural k small = record { low = omega (arith, ints); high = omega (arith, ints) }

product_bounds : (a b : ℤ) → FitsSigned w32 a → FitsSigned w32 b → IsProduct (a *ℤ b)
product_bounds (pos m) (pos n) f g =
    let i : m ≤ 2 ^ 31 = omega (arith, ints) in
    let j : n ≤ 2 ^ 31 = omega (arith, ints) in
    of_natural (m * n) (mul-le m n (2 ^ 31) (2 ^ 31) i j)
product_bounds (pos m) (negsuc n) f g =
    let i : m ≤ 2 ^ 31 - 1 = omega (arith, ints) in
    let j : suc n ≤ 2 ^ 31 = omega (arith, ints) in
    let k : m * suc n ≤ (2 ^ 31 - 1) * 2 ^ 31 = mul-le m (suc n) (2 ^ 31 - 1) (2 ^ 31) i j in
    of_magnitude (m * suc n) (omega arith)
product_bounds (negsuc m) (pos n) f g =
    let i : suc m ≤ 2 ^ 31 = omega (arith, ints) in
    let j : n ≤ 2 ^ 31 - 1 = omega (arith, ints) in
    let k : suc m * n ≤ 2 ^ 31 * (2 ^ 31 - 1) = mul-le (suc m) n (2 ^ 31) (2 ^ 31 - 1) i j in
    of_magnitude (suc m * n) (omega arith)
product_bounds (negsuc m) (negsuc n) f g =
    let i : suc m ≤ 2 ^ 31 = omega (arith, ints) in
    let j : suc n ≤ 2 ^ 31 = omega (arith, ints) in
    of_natural (suc m * suc n) (mul-le (suc m) (suc n) (2 ^ 31) (2 ^ 31) i j)

difference_fits : (p q : ℤ) → IsProduct p → IsProduct q → FitsSigned w64 (p -ℤ q)
difference_fits p q f g = omega (arith, ints, f.low, f.high, g.low, g.high)

term_fits : (a b c d : ℤ) → FitsSigned w32 a → FitsSigned w32 b → FitsSigned w32 c → FitsSigned w32 d → FitsSigned w64 (a *ℤ b -ℤ c *ℤ d)
term_fits a b c d f g h k = difference_fits (a *ℤ b) (c *ℤ d) (product_bounds a b f g) (product_bounds c d h k)

-- what two products leave, as the code computes it
term_of_products : (a b c d p q : ℤ) → FitsSigned w32 a → FitsSigned w32 b → FitsSigned w32 c → FitsSigned w32 d →
    FitsSigned w64 p → FitsSigned w64 q →
    p ≡ to_z w32 (of_z w32 a) *ℤ to_z w32 (of_z w32 b) → q ≡ to_z w32 (of_z w32 c) *ℤ to_z w32 (of_z w32 d) →
    to_z w64 (of_z w64 p) -ℤ to_z w64 (of_z w64 q) ≡ a *ℤ b -ℤ c *ℤ d
term_of_products a b c d p q f g h k u v e i =
    let m : p ≡ a *ℤ b = simp to_z-of_z at e in
    let n : q ≡ c *ℤ d = simp to_z-of_z at i in
    simp to_z-of_z (rw (m, n) refl)

pub overflow_sub-result : goal.overflow_sub-result
overflow_sub-result c =
    let x : FitsSigned w32 c.args.self.now.x = search rules in
    let y : FitsSigned w32 c.args.self.now.y = search rules in
    let u : FitsSigned w32 c.args.next.now.x = search rules in
    let v : FitsSigned w32 c.args.next.now.y = search rules in
    let p : FitsSigned w64 c.product.result = search rules in
    let q : FitsSigned w64 c.product-2.result = search rules in
    rw (term_of_products c.args.self.now.x c.args.next.now.y c.args.next.now.x c.args.self.now.y c.product.result c.product-2.result
    x v u y p q c.product.ensures c.product-2.ensures)
    (term_fits c.args.self.now.x c.args.next.now.y c.args.next.now.x c.args.self.now.y x v u y)

pub returns : goal.returns
returns c =
    let x : FitsSigned w32 c.args.self.now.x = search rules in
    let y : FitsSigned w32 c.args.self.now.y = search rules in
    let u : FitsSigned w32 c.args.next.now.x = search rules in
    let v : FitsSigned w32 c.args.next.now.y = search rules in
    let p : FitsSigned w64 c.product.result = search rules in
    let q : FitsSigned w64 c.product-2.result = search rules in
    rw (term_of_products c.args.self.now.x c.args.next.now.y c.args.next.now.x c.args.self.now.y c.product.result c.product-2.result
    x v u y p q c.product.ensures c.product-2.ensures)
    (to_z-of_z w64 _ (term_fits c.args.self.now.x c.args.next.now.y c.args.next.now.x c.args.self.now.y x v u y))
