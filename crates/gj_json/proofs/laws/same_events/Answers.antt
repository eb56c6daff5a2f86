use Rattle.gj_json.proofs.Machine.ReachedStates.{alike}
use Rattle.gj_json.proofs.laws.same_events.Goals as goal

pub returns-clause-events : goal.returns-clause-events
returns-clause-events c = λ bytes more other first second h k. (alike bytes more other first second h k).0

pub returns-clause-open : goal.returns-clause-open
returns-clause-open c = λ bytes more other first second h k. (alike bytes more other first second h k).1
