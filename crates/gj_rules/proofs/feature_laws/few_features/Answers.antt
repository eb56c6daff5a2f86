use Rattle.gj_rules.proofs.Features.FeaturesInTime.{few_by}
use Rattle.gj_rules.proofs.feature_laws.few_features.Goals as goal

pub returns : goal.returns
returns c = few_by
