-- One feature more has ended.
use Rattle.gj_rules.specs.CleanFeature.{feature_of}
use Rattle.gj_rules.proofs.Features.FeaturesSoFar.{ended_heard}
use Rattle.gj_rules.proofs.feature_rules.FeatureRules.tell_clean.Goals as goal

pub returns-clause-heard : goal.returns-clause-heard
returns-clause-heard g c = λ at h few was.
    ended_heard (g.S.FeatureSink.told c.args.self.now.sink) (g.S.FeatureSink.told c.tell_clean.new.self) c.args.self.now.count c.end.new.self at
    (feature_of c.args.clean.now) h c.end.ensures.index c.end.ensures.begun c.tell_clean.ensures few was
