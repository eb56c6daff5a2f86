use Rattle.gj_rules.proofs.Common.{refl, ◌∙◌}
use Rattle.gj_rules.proofs.Objects.RestingSummaries.{rests, skips}
use Rattle.gj_rules.proofs.rules.FramedRules.take.Goals as goal

pub returns-then-self-gt0-clause-core : goal.returns-then-self-gt0-clause-core
returns-then-self-gt0-clause-core g c =
    λ few room. c.renew.ensures.core ∙ (c.skip.ensures few ∙ skips c.args.self.now c.args.what c.args.place c.if-self-gt0.true)

pub returns-in-Due-clause-holds : goal.returns-in-Due-clause-holds
returns-in-Due-clause-holds g c = λ e. rests c.value.new.self c.value.ensures.rests

pub returns-in-Elements-clause-holds : goal.returns-in-Elements-clause-holds
returns-in-Elements-clause-holds g c = λ e. rests c.element.new.self (c.element.ensures.rests (rw c.in-Elements.is refl))
