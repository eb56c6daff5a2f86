-- Before the first event no feature has ended.
use Rattle.gj_rules.proofs.Features.FeaturesSoFar.{started}
use Rattle.gj_rules.proofs.feature_rules.FeatureRules.begin_again.Goals as goal

pub returns : goal.returns
returns g c =
    let count = c.new-self.ensures in
    (c.begin_again.ensures.stands, started (g.S.FeatureSink.told c.forget.new.self) c.new-self.result count.index count.begun c.forget.ensures)
