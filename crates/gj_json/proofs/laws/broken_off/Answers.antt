use Rattle.gj_json.proofs.Machine.BrokenTexts
use Rattle.gj_json.proofs.laws.broken_off.Goals as goal

pub returns-clause-within : goal.returns-clause-within
returns-clause-within c = BrokenTexts.viable_within

pub returns-clause-any : goal.returns-clause-any
returns-clause-any c = BrokenTexts.viable
