use Rattle.gj_coords.proofs.Common.{◌∙◌}
use Rattle.gj_coords.proofs.Lists.ListsStoodFor.{added_stands}
use Rattle.gj_coords.proofs.warnings.Warnings.add.Goals as goal

pub returns-clause-stands : goal.returns-clause-stands
returns-clause-stands c warnings h = c.note.ensures ∙ added_stands c.args.self c.args.kind c.args.place warnings h
