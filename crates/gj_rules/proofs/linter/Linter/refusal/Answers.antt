-- That of the reader.
use Rattle.gj_rules.specs.Linter.{StandsFor}
use Rattle.gj_rules.proofs.linter.Linter.refusal.Goals as goal

pub returns-clause-lasting : goal.returns-clause-lasting
unfolding StandsFor
returns-clause-lasting c = λ bytes more fault h e. c.refusal.ensures.lasting bytes more fault h.0 e
