-- Those before the limit.
use Rattle.gj_rules.proofs.Common.{◌∙◌}
use Rattle.gj_rules.proofs.Parts.RecordSteps.{taken_so_far}
use Rattle.gj_rules.proofs.records.Records.offset.Goals as goal

pub returns : goal.returns
returns c = λ bytes found s. c.end.ensures.value ∙ taken_so_far c.args.self.now bytes found s
