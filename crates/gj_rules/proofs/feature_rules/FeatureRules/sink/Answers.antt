use Rattle.gj_rules.proofs.Features.FeaturesSoFar.{features_are}
use Rattle.gj_rules.proofs.feature_rules.FeatureRules.sink.Goals as goal

pub returns-clause-told : goal.returns-clause-told
returns-clause-told g c = λ text bytes n t d few h. features_are (g.S.FeatureSink.told c.args.self.now.sink) c.args.self.now.count text bytes n t d few h.1
