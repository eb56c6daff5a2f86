-- The bytes that were taken are those of the reader.
use Rattle.gj_rules.specs.FeatureLinter.{StandsFor}
use Rattle.gj_rules.proofs.feature_linter.FeatureLinter.offset.Goals as goal

pub returns-clause-taken : goal.returns-clause-taken
unfolding StandsFor
returns-clause-taken g c = λ bytes h e. c.offset.ensures.taken bytes h.0 e

pub returns-clause-refused : goal.returns-clause-refused
unfolding StandsFor
returns-clause-refused g c = λ bytes fault h e. c.offset.ensures.refused bytes fault h.0 e

pub returns-clause-within : goal.returns-clause-within
unfolding StandsFor
returns-clause-within g c = λ bytes h. rw (c.offset.ensures.value) (c.bytes_taken.ensures.within c.args.self.now.reader bytes h.0)
