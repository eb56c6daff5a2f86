-- Before the first event no feature has ended.
use Rattle.gj_rules.proofs.Features.FeaturesSoFar.{started}
use Rattle.gj_rules.proofs.feature_rules.FeatureRules.new.Goals as goal

pub returns-clause-stands : goal.returns-clause-stands
returns-clause-stands g c = λ h.
    let count = c.new-2.ensures in
    (c.new.ensures.stands, started (g.S.FeatureSink.told c.args.sink) c.new-2.result count.index count.begun h)
