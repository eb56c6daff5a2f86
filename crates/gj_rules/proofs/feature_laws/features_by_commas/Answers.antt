use Rattle.gj_rules.proofs.Features.FeaturesByCommas.{few_by_commas}
use Rattle.gj_rules.proofs.feature_laws.features_by_commas.Goals as goal

pub returns : goal.returns
returns c = few_by_commas
