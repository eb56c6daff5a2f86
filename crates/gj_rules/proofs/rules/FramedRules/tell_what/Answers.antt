use Rattle.gj_rules.proofs.Common.{sym, ◌∙◌}
use Rattle.gj_rules.proofs.Texts.OneEventMore.{told_on, steps_fed, steps_taken}
use Rattle.gj_rules.proofs.rules.FramedRules.tell_what.Goals as goal

pub returns-then-is_feeding : goal.returns-then-is_feeding
returns-then-is_feeding g c = λ events h.
    told_on c.args.self.now c.feed.new.self _ events
    (steps_fed c.args.self.now c.feed.new.self _ (sym c.is_feeding.ensures ∙ c.if-is_feeding.true) c.feed.ensures) h

pub returns-else-is_feeding : goal.returns-else-is_feeding
returns-else-is_feeding g c = λ events h.
    told_on c.args.self.now c.take.new.self _ events
    (steps_taken c.args.self.now c.take.new.self _ (sym c.is_feeding.ensures ∙ c.if-is_feeding.false)
    c.take.ensures.core (c.take.ensures.holds (sym c.is_feeding.ensures ∙ c.if-is_feeding.false))) h
