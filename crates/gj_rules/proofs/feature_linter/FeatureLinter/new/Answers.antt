-- Before the first byte no event has come.
use Rattle.gj_rules.proofs.Common.{Stand}
use Rattle.gj_rules.specs.FeatureLinter.{StandsFor}
use Rattle.gj_rules.proofs.Texts.LinterEvents.{new_told}
use Rattle.gj_rules.proofs.feature_linter.FeatureLinter.new.Goals as goal

pub returns-clause-stands : goal.returns-clause-stands
unfolding StandsFor
returns-clause-stands g c = λ h. (
  c.new-2.ensures.stands,
  new_told c.new-2.result (Stand (g.S.FeatureSink.told c.new.result.sink) c.new.result.rules c.new.result.count) c.new-2.ensures.offset
      (c.new.ensures.stands h) c.new-2.ensures.events,
)
