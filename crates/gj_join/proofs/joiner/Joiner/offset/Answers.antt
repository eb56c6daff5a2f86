use Rattle.std.proofs.Common.{◌∙◌}
use Rattle.gj_join.specs.Joiner.{Joins}
use Rattle.gj_join.proofs.joiner.Joiner.offset.Goals as goal

pub returns-clause-taken : goal.returns-clause-taken
unfolding Joins
returns-clause-taken c = λ bytes h e. c.offset.ensures.taken h.0 h.1 e ∙ h.2.long

pub returns-clause-refused : goal.returns-clause-refused
unfolding Joins
returns-clause-refused c = λ bytes fault h e. c.offset.ensures.refused h.0 fault h.1 e
