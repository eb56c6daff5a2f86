use Rattle.gj_coords.proofs.Lists.ToldWarnings.{some_told, stood_for_told}
use Rattle.gj_coords.proofs.laws.told_warnings.Goals as goal

pub returns : goal.returns
returns c = record { some = some_told; stands = stood_for_told }
