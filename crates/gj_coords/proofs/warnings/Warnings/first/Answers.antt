use Rattle.gj_coords.proofs.Common.{arith, ◌∙◌}
use Rattle.gj_coords.proofs.Lists.ListsStoodFor.{first_is, first_is_none, kept_of}
use Rattle.gj_coords.proofs.warnings.Warnings.first.Goals as goal

pub returns-then-noted-eq0-clause-first : goal.returns-then-noted-eq0-clause-first
returns-then-noted-eq0-clause-first c warnings h =
    first_is_none c.kept-noted.result c.args.kind warnings (c.kept-noted.ensures ∙ kept_of c.args.self.now c.args.kind warnings h) c.if-noted-eq0.true

pub returns-else-noted-eq0-clause-first : goal.returns-else-noted-eq0-clause-first
returns-else-noted-eq0-clause-first c warnings h =
    first_is c.kept-noted.result c.args.kind warnings (c.kept-noted.ensures ∙ kept_of c.args.self.now c.args.kind warnings h) (omega arith)
