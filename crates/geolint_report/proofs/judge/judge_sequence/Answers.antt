use Rattle.std.proofs.Common.{◌∙◌}
use Rattle.gj_rules.specs.Sequence.{IsSequenceVerdict}
use Rattle.gj_rules.specs.SequenceStands.{StandsFor, limits_of}
use Rattle.geolint_report.specs.Fed.{IsDecidedSequence}
use Rattle.geolint_report.proofs.FileVerdicts.{Judges-fed}
use Rattle.geolint_report.proofs.judge.judge_sequence.Goals as goal

pub returns-in-Ok-clause-verdict : goal.returns-in-Ok-clause-verdict
returns-in-Ok-clause-verdict g c =
    let sequence = c.read.new.fed in
    let limits = c.new-sequence.ensures.limits in
    Judges-fed IsSequenceVerdict c.one_sequence_verdict.ensures.one (StandsFor sequence) (IsDecidedSequence (limits_of sequence))
    (limits_of sequence) c.args.limits (c.read.ensures.limits ∙ limits) _ _ c.in-Ok.field-0 _
    (c.in-Ok.ensures.ends c.new-sequence.ensures.stands limits) c.finish.ensures
    (λ read decided. let (place, verdict, settled) = decided in (verdict, settled.lasting))
