-- One feature more has ended.
use Rattle.gj_rules.proofs.Features.FeaturesSoFar.{ended_heard}
use Rattle.gj_rules.proofs.feature_rules.FeatureRules.tell_ended.Goals as goal

pub returns-clause-heard : goal.returns-clause-heard
returns-clause-heard g c = λ at h few was.
    ended_heard (g.S.FeatureSink.told c.args.self.now.sink) (g.S.FeatureSink.told c.tell_feature.new.self) c.args.self.now.count c.end.new.self at
    c.args.feature.now h c.end.ensures.index c.end.ensures.begun c.tell_feature.ensures few was
