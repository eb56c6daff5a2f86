-- Vector by vector.
use Rattle.gj_number.proofs.Common.{IsDigit, arith, subst, take, ℕ, ◌+◌, ◌≡◌}
use Rattle.std.proofs.Common.{All}
use Rattle.gj_number.proofs.Shorts.SixteenLanes.{digits_on}
use Rattle.gj_number.proofs.lanes.digit_run.Goals as goal

pub returns-then-count-lt16-clause-digits : goal.returns-then-count-lt16-clause-digits
returns-then-count-lt16-clause-digits c =
    let found = c.leading_digits-count in
    digits_on c.args.piece.now _ c.loop-at.at found.result
    (omega arith) c.type_inv.piece c.lanes_of.ensures found.ensures.count found.ensures.few c.loop-at.invariant.digits

pub loop-at-preserved : goal.loop-at-preserved
loop-at-preserved c =
    let found = c.leading_digits-count in
    let few = found.ensures.few in
    let all : found.result ≡ 16 = omega (arith, few) in record {
      within = omega arith;
      digits = subst (λ (n : ℕ). All IsDigit (take (c.loop-at.at + n) c.args.piece.now)) all
          (digits_on c.args.piece.now _ c.loop-at.at found.result
          (omega arith) c.type_inv.piece c.lanes_of.ensures found.ensures.count found.ensures.few c.loop-at.invariant.digits);
    }
