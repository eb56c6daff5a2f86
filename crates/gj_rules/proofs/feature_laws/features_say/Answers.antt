use Rattle.gj_rules.proofs.Features.FeaturesSaid.{told_says}
use Rattle.gj_rules.proofs.feature_laws.features_say.Goals as goal

pub returns : goal.returns
returns c = told_says c.kept_warnings.ensures.short
