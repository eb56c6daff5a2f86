-- Where the number is not held, digits change nothing.
use Rattle.gj_number.proofs.Common.{arith, take}
use Rattle.gj_number.proofs.Value.UnheldNumbers.{passed_natural}
use Rattle.gj_number.proofs.digits.Digits.pass_natural.Goals as goal

pub returns-then-self-eq-FAR-clause-keeps : goal.returns-then-self-eq-FAR-clause-keeps
returns-then-self-eq-FAR-clause-keeps c whole old =
    let d = c.args.self.now in
    passed_natural d.all d.count d.pending d.places whole (take c.digit_run.result c.args.piece.now) (omega arith) c.digit_run.ensures.digits old
