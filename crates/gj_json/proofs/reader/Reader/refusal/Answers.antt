-- What was refused goes on to be refused.
use Rattle.gj_json.proofs.Readers.CallsInTurn.{kept_answer}
use Rattle.gj_json.proofs.reader.Reader.refusal.Goals as goal

pub returns-clause-lasting : goal.returns-clause-lasting
returns-clause-lasting c = λ bytes more fault h e. (kept_answer c.args.self.now bytes fault e h).1 more
