use Rattle.gj_coords.proofs.Common.{◌∙◌}
use Rattle.gj_coords.proofs.Lists.ListsStoodFor.{joined_stands}
use Rattle.gj_coords.proofs.warnings.Warnings.join.Goals as goal

pub returns-clause-stands : goal.returns-clause-stands
returns-clause-stands c warnings others h k = c.take.ensures ∙ joined_stands c.args.self c.args.other warnings others h k
