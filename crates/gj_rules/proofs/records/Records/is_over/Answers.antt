-- One has come beyond the limit where they are more.
use Rattle.gj_rules.proofs.Parts.RecordSteps.{over_more, over_where, where_over}
use Rattle.gj_rules.proofs.records.Records.is_over.Goals as goal

pub returns-clause-beyond : goal.returns-clause-beyond
returns-clause-beyond c = λ bytes found s. (over_where c.args.self.now bytes found s, where_over c.args.self.now bytes found s)

pub returns-clause-lasting : goal.returns-clause-lasting
returns-clause-lasting c = λ bytes more found s over. over_more c.args.self.now bytes more found over s
