-- The events were the same.
use Rattle.gj_rules.specs.FeatureLinter.{StandsFor}
use Rattle.gj_rules.proofs.feature_linter.FeatureLinter.set_sink.Goals as goal

pub returns-clause-stands : goal.returns-clause-stands
unfolding StandsFor
returns-clause-stands g c = λ more bytes h.
    (h.0, record { events = h.1.events; told = c.set_sink.ensures.stands more h.1.events h.1.told; complete = h.1.complete })
