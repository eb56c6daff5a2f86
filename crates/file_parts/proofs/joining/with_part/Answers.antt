use Rattle.std.proofs.Common.{arith}
use Rattle.std.proofs.lemmas.Option.{IfSome_then}
use Rattle.file_parts.proofs.JoinedVerdicts.{both_fit, next_part_if, records_of_both}
use Rattle.file_parts.proofs.joining.with_part.Goals as goal

pub returns-else-part-eq0-clause-joined : goal.returns-else-part-eq0-clause-joined
returns-else-part-eq0-clause-joined c =
    next_part_if c.args.before c.args.part.now c.join.result (omega (arith, c.if-part-eq0.false)) c.join.ensures.joined

pub returns-else-part-eq0-clause-records : goal.returns-else-part-eq0-clause-records
returns-else-part-eq0-clause-records c = IfSome_then c.join.result c.join.ensures.exact
    (λ whole is. rw is (records_of_both c.args.part.now.begin c.args.before c.args.part.now.verdict))

pub returns-else-part-eq0-clause-fits : goal.returns-else-part-eq0-clause-fits
returns-else-part-eq0-clause-fits c = λ fits few.
    c.join.ensures.fits (both_fit c.args.part.now.begin c.args.before c.args.part.now.verdict fits few)
