use Rattle.gj_coords.proofs.Common.{ap, arith, nat_tests, ◌&&◌}
use Rattle.std.proofs.Common.{zero, suc, ◌≡◌, ℕ, eqb}
use lib.Bits.{bit_or}
use Rattle.std.proofs.lemmas.Nat.{le_or_l}
use Rattle.std.specs.Int.Bits.{or_zero_l}
use Rattle.gj_coords.proofs.kind_warnings.KindWarnings.is_nothing.Goals as goal

-- none of two numbers has a bit
or_none : (a b : ℕ) → eqb (bit_or a b) 0 ≡ (eqb a 0 && eqb b 0)
or_none zero b = ap (λ n. eqb n 0) (or_zero_l b)
or_none (suc a) b = let l = le_or_l (suc a) b in grind (arith, nat_tests)

pub returns : goal.returns
returns c = or_none c.args.self.now.count c.args.self.now.first
