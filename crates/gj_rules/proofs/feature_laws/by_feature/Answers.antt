use Rattle.gj_rules.proofs.Features.ByFeature.{least_of_all, all_valid, valid_all, warned_all_in}
use Rattle.gj_rules.proofs.feature_laws.by_feature.Goals as goal

pub returns-clause-least : goal.returns-clause-least
returns-clause-least c = least_of_all

pub returns-clause-valid : goal.returns-clause-valid
returns-clause-valid c = λ text h. (all_valid text h, valid_all text h)

pub returns-clause-warnings : goal.returns-clause-warnings
returns-clause-warnings c = warned_all_in
