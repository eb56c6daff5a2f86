use Rattle.gj_number.proofs.Value.OneDenotation.{value_held, value_not_held}
use Rattle.gj_number.proofs.laws.value_where_held.Goals as goal

pub returns-clause-held : goal.returns-clause-held
returns-clause-held c = value_held

pub returns-clause-not_held : goal.returns-clause-not_held
returns-clause-not_held c = value_not_held
