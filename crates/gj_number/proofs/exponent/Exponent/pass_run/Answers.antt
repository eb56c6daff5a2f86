-- A magnitude past the limit stays past it.
use Rattle.gj_number.proofs.Common.{arith, take}
use Rattle.gj_number.proofs.Shorts.RunEnds.{fold_grows}
use Rattle.gj_number.proofs.exponent.Exponent.pass_run.Goals as goal

pub returns-then-self-gt-EXPONENT_LIMIT-clause-magnitude : goal.returns-then-self-gt-EXPONENT_LIMIT-clause-magnitude
returns-then-self-gt-EXPONENT_LIMIT-clause-magnitude c written e =
    let more = fold_grows written (take c.digit_run.result c.args.piece.now) in omega arith
