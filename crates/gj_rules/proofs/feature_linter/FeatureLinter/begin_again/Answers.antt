-- Before the first byte no event has come.
use Rattle.gj_rules.proofs.Common.{Stand}
use Rattle.gj_rules.specs.FeatureLinter.{StandsFor}
use Rattle.gj_rules.proofs.Texts.LinterEvents.{new_told}
use Rattle.gj_rules.proofs.feature_linter.FeatureLinter.begin_again.Goals as goal

pub returns-clause-stands : goal.returns-clause-stands
unfolding StandsFor
returns-clause-stands g c =
    let rules = c.begin_again.new.self in (
      c.begin_again-2.ensures.stands,
      new_told c.begin_again-2.new.self
          (Stand (g.S.FeatureSink.told rules.sink) rules.rules rules.count) c.begin_again-2.ensures.offset c.begin_again.ensures c.begin_again-2.ensures.events,
    )
