use Rattle.gj_number.proofs.Value.SameDecimals.{same_value}
use Rattle.gj_number.proofs.laws.one_form.Goals as goal

pub returns-clause-same : goal.returns-clause-same
returns-clause-same c = same_value
