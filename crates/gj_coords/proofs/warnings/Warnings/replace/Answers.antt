use Rattle.gj_coords.specs.Internal.WarningLaws.{replaced_is}
use Rattle.gj_coords.proofs.warnings.Warnings.replace.Goals as goal

pub returns : goal.returns
returns c = replaced_is c.args.self.now _ c.args.kind c.args.noted c.set.ensures c.set-2.ensures
