use Rattle.gj_coords.proofs.Common.{◌∙◌}
use Rattle.gj_coords.proofs.Lists.KeptOfShortValues.{kept_is, countable}
use Rattle.gj_coords.proofs.coordinates.Coordinates.warnings.Goals as goal

pub returns : goal.returns
returns c = record {
  kept = λ value stands room. c.all.ensures ∙ c.warned.ensures value stands room;
  stands = λ value stands few. c.all.ensures ∙ (c.warned.ensures value stands (countable value few) ∙ kept_is c.args.simple value few);
}
