use Rattle.gj_coords.proofs.Lists.KeptOfShortValues.{kept_is, line_kept}
use Rattle.gj_coords.proofs.laws.kept_warnings.Goals as goal

pub returns : goal.returns
returns c = record { short = kept_is; line = line_kept }
