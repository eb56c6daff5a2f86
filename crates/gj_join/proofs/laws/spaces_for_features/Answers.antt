use Rattle.gj_join.proofs.RunsRead.{as_refused, as_viable, run_after}
use Rattle.gj_join.proofs.laws.spaces_for_features.Goals as goal

pub returns-clause-viable : goal.returns-clause-viable
returns-clause-viable c = as_viable

pub returns-clause-refused : goal.returns-clause-refused
returns-clause-refused c = as_refused

pub returns-clause-on : goal.returns-clause-on
returns-clause-on c = run_after
