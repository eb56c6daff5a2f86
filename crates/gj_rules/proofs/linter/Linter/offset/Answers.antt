-- The bytes that were taken are those of the reader.
use Rattle.gj_rules.specs.Linter.{StandsFor}
use Rattle.gj_rules.proofs.linter.Linter.offset.Goals as goal

pub returns-clause-taken : goal.returns-clause-taken
unfolding StandsFor
returns-clause-taken c = λ bytes h e. c.offset.ensures.taken bytes h.0 e

pub returns-clause-refused : goal.returns-clause-refused
unfolding StandsFor
returns-clause-refused c = λ bytes fault h e. c.offset.ensures.refused bytes fault h.0 e
