-- Before the first byte no event has come.
use Rattle.gj_rules.proofs.Texts.LinterEvents.{new_told}
use Rattle.gj_rules.specs.Linter.{StandsFor}
use Rattle.gj_rules.specs.Rules.{StandsFor as RulesStandFor}
use Rattle.gj_rules.proofs.linter.Linter.begin_again.Goals as goal

pub returns-clause-stands : goal.returns-clause-stands
unfolding StandsFor
returns-clause-stands c = (
  c.begin_again-2.ensures.stands,
  new_told c.begin_again-2.new.self
      (RulesStandFor c.begin_again.new.self) c.begin_again-2.ensures.offset c.begin_again.ensures.stands c.begin_again-2.ensures.events,
)
