use Rattle.gj_coords.proofs.Common.{◌∙◌}
use Rattle.gj_coords.proofs.Lists.ShiftedWarnings.{shifted_stands}
use Rattle.gj_coords.proofs.warnings.Warnings.shifted.Goals as goal

pub returns-clause-stands : goal.returns-clause-stands
returns-clause-stands c warnings h = c.shift.ensures ∙ shifted_stands c.args.self c.args.by warnings h
