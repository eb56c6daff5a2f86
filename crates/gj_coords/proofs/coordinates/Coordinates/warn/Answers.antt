use Rattle.gj_coords.proofs.Common.{all_in, ap, ◌∙◌}
use Rattle.gj_coords.specs.Internal.KeptWarnings.{joined}
use Rattle.gj_coords.proofs.coordinates.Coordinates.warn.Goals as goal

pub returns : goal.returns
returns c = record { kept = λ value stands room. c.take.ensures.joined ∙ ap (joined (all_in c.args.warned.now)) (c.warned.ensures value stands room) }
