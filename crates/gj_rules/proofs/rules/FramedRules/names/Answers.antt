use Rattle.gj_rules.proofs.Common.{◌∙◌}
use Rattle.gj_rules.proofs.Objects.RestingSummaries.{rests}
use Rattle.gj_rules.proofs.rules.FramedRules.names.Goals as goal

pub returns-in-Name-clause-core : goal.returns-in-Name-clause-core
returns-in-Name-clause-core g c = rw c.in-Name.is (c.renew.ensures.core ∙ c.name.ensures)

pub returns-in_default-clause-holds : goal.returns-in_default-clause-holds
returns-in_default-clause-holds g c = rests c.pop.new.self c.pop.ensures.rests
