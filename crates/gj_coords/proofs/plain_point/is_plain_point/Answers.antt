use Rattle.gj_coords.proofs.Common.{rules}
use Rattle.gj_coords.proofs.Walks.PlainPoints.{plain_point}
use Rattle.gj_coords.proofs.plain_point.is_plain_point.Goals as goal

pub returns-then-is_all_short-clause-plain : goal.returns-then-is_all_short-clause-plain
returns-then-is_all_short-clause-plain c = λ h. plain_point c.args.flat.now (c.is_all_short.ensures.short c.if-is_all_short.true) (search rules)
