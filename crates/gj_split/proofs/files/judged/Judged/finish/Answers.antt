use Rattle.std.proofs.Common.{subst}
use Rattle.gj_json.specs.Limits.{Allowed}
use Rattle.gj_rules.specs.Sequence.{IsSequenceVerdict}
use Rattle.gj_split.proofs.files.judged.Judged.finish.Goals as goal

pub returns-clause-verdict : goal.returns-clause-verdict
returns-clause-verdict g c = λ bytes s.
    subst (λ (l : Allowed). IsSequenceVerdict l bytes c.finish.result) c.args.self.wide (c.finish.ensures bytes s)
