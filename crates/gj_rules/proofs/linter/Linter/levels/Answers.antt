-- The containers that are open are those of the reader.
use Rattle.gj_rules.specs.Linter.{StandsFor}
use Rattle.gj_rules.proofs.linter.Linter.levels.Goals as goal

pub returns-clause-open : goal.returns-clause-open
unfolding StandsFor
returns-clause-open c = λ bytes rest text h t. c.levels.ensures.open bytes rest text h.0 t
