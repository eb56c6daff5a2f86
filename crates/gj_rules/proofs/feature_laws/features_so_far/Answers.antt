use Rattle.gj_rules.proofs.Features.ByFeature.{first_of_all}
use Rattle.gj_rules.proofs.feature_laws.features_so_far.Goals as goal

pub returns : goal.returns
returns c = first_of_all
