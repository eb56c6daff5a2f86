-- What the features were reported to is handed out as it lies.
use Rattle.gj_rules.proofs.Common.{feature_findings, subst, sym, ◌∙◌}
use Rattle.gj_rules.specs.FeaturesTold.{TellFindings}
use Rattle.gj_rules.proofs.feature_linter.FeatureLinter.finish.Goals as goal

pub returns-clause-told : goal.returns-clause-told
returns-clause-told g c = λ bytes text h a.
    subst (λ sink. TellFindings (g.S.FeatureSink.told sink) (feature_findings text)) (sym c.into_sink.ensures) (c.end-verdict.ensures.told bytes text h a)

pub returns-clause-refused : goal.returns-clause-refused
returns-clause-refused g c = λ fault e. c.into_sink.ensures ∙ c.end-verdict.ensures.refused fault e
