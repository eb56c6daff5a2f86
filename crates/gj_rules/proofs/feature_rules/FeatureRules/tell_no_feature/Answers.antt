-- It is the next one.
use Rattle.gj_rules.proofs.Common.{subst, ◌∙◌, ap}
use Rattle.gj_rules.specs.declared.feature.Feature.{Feature}
use Rattle.gj_rules.specs.Internal.FeatureSteps.{IsHeard, ended, no_feature}
use Rattle.gj_rules.proofs.feature_rules.FeatureRules.tell_no_feature.Goals as goal

pub returns-clause-heard : goal.returns-clause-heard
returns-clause-heard g c = λ at h few was.
    let new = c.tell_ended.new.self in
    subst (λ (feature : Feature). IsHeard (g.S.FeatureSink.told new.sink) new.count (ended at feature h))
    (c.no_feature.ensures ∙ ap (λ n. no_feature n c.args.place c.args.close) was.0) (c.tell_ended.ensures.heard at h few was)
