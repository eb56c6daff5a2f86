-- Before the first byte no event has come.
use Rattle.gj_rules.proofs.Texts.LinterEvents.{new_told}
use Rattle.gj_rules.specs.Linter.{StandsFor}
use Rattle.gj_rules.specs.Rules.{StandsFor as RulesStandFor}
use Rattle.gj_rules.proofs.linter.Linter.new.Goals as goal

pub returns-clause-stands : goal.returns-clause-stands
unfolding StandsFor
returns-clause-stands c =
    (c.new-2.ensures.stands, new_told c.new-2.result (RulesStandFor c.new.result) c.new-2.ensures.offset c.new.ensures.stands c.new-2.ensures.events)
