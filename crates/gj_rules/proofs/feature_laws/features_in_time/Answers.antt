use Rattle.gj_rules.proofs.Features.FeaturesInTime.{few_in_time}
use Rattle.gj_rules.proofs.feature_laws.features_in_time.Goals as goal

pub returns : goal.returns
returns c = few_in_time
