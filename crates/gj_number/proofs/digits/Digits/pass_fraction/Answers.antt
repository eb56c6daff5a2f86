-- Where the number is not held digits change nothing, nor do zeros past the places that are counted.
use Rattle.gj_number.proofs.Common.{arith, length, length-take-le, take, ◌+◌, ◌≡◌}
use Rattle.gj_number.proofs.Value.UnheldNumbers.{passed_fraction}
use Rattle.gj_number.proofs.Literals.RunsOfZeros.{passed_zeros}
use Rattle.gj_number.proofs.digits.Digits.pass_fraction.Goals as goal

pub returns-then-self-eq-FAR-clause-keeps : goal.returns-then-self-eq-FAR-clause-keeps
returns-then-self-eq-FAR-clause-keeps c whole fraction old =
    let d = c.args.self.now in
    let n = c.digit_run.result in
    let many : length (take n c.args.piece.now) ≡ n = length-take-le n c.args.piece.now c.digit_run.ensures.length in
    passed_fraction d.all d.count d.pending d.places whole fraction (fraction + n) (take n c.args.piece.now) (omega arith) (omega arith)
    c.digit_run.ensures.digits old

pub returns-then-self-eq-MOST_PLACES-clause-keeps : goal.returns-then-self-eq-MOST_PLACES-clause-keeps
returns-then-self-eq-MOST_PLACES-clause-keeps c whole fraction old =
    let d = c.args.self.now in
    let n = c.zero_run.result in
    let many : length (take n c.args.piece.now) ≡ n = length-take-le n c.args.piece.now c.zero_run.ensures.length in
    passed_zeros d.all d.count d.pending d.places whole fraction (fraction + n) (take n c.args.piece.now) (omega arith) (omega arith)
    c.zero_run.ensures.digits c.zero_run.ensures.zeros old
