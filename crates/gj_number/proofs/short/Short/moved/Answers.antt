use Rattle.gj_number.proofs.Common.{arith, sym, ℕ, ◌*◌, ◌-◌, ◌<◌, ◌^◌, ◌≡◌, ◌≤◌}
use Rattle.gj_number.proofs.Literals.DigitBounds.{scaled_below}
use Rattle.gj_number.proofs.Value.NormalForm.{ten_above_zero}
use Rattle.gj_number.proofs.short.Short.moved.Goals as goal

-- there is room for the zeros
raised : (digits up ten more : ℕ) → ten ≡ 10 ^ (18 - up) → more ≡ 10 ^ up → digits < ten → up ≤ 18 → digits * more < 10 ^ 18
raised digits up ten more t m h l =
    rw m (let p = ten_above_zero up in let k : digits < 10 ^ (18 - up) = rw (sym t) h in let b =
    scaled_below digits (18 - up) up 18 k (omega arith) in omega arith)

pub overflow_mul-result : goal.overflow_mul-result
overflow_mul-result c = let l =
    raised c.args.self.digits (c.args.by - c.args.self.places) _ _ c.ten_to.ensures c.ten_to-2.ensures (omega arith) (omega arith) in omega arith

pub invariant_of-result-2 : goal.invariant_of-result-2
invariant_of-result-2 c = record {
  small = raised c.args.self.digits (c.args.by - c.args.self.places) _ _ c.ten_to.ensures c.ten_to-2.ensures (omega arith) (omega arith);
  few = omega arith;
}
