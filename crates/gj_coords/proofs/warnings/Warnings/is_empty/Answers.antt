use Rattle.gj_coords.proofs.Lists.ListsStoodFor.{empty_is}
use Rattle.gj_coords.proofs.warnings.Warnings.is_empty.Goals as goal

pub returns-clause-empty : goal.returns-clause-empty
returns-clause-empty c warnings h = rw c.all_zero.ensures (empty_is c.args.self.now warnings h)
