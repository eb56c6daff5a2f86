-- What holds of the features holds of the other sink.
use Rattle.gj_rules.proofs.feature_rules.FeatureRules.set_sink.Goals as goal

pub returns-clause-stands : goal.returns-clause-stands
returns-clause-stands g c = λ more events h. (
  h.0,
  λ text done rest all at deep few.
      let are = h.1 text done rest all at deep few in
      (are.0, are.1, rw (c.replace.ensures.after) (more _ are.2)),
)
