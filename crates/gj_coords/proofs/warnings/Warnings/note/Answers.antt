use Rattle.gj_coords.proofs.Lists.ListsStoodFor.{added_by_replacing}
use Rattle.gj_coords.proofs.warnings.Warnings.note.Goals as goal

pub returns : goal.returns
returns c = cc (added_by_replacing c.args.self.now c.args.kind c.args.place)
