use Rattle.gj_coords.proofs.Common.{ap, ◌∙◌}
use Rattle.gj_coords.proofs.Lists.ListsStoodFor.{kept_of}
use Rattle.gj_coords.proofs.warnings.Warnings.count.Goals as goal

pub returns-clause-count : goal.returns-clause-count
returns-clause-count c warnings h = ap (λ noted. noted.count) (c.kept.ensures ∙ kept_of c.args.self.now c.args.kind warnings h)
