use Rattle.std.proofs.Common.{◌∙◌}
use Rattle.gj_rules.specs.SequenceStands.{StandsFor, limits_of}
use Rattle.geolint.proofs.DecidedSequences.{sequence-read}
use Rattle.geolint.proofs.sequence.lint_sequence.Goals as goal

pub returns-in-Ok-clause-verdict : goal.returns-in-Ok-clause-verdict
returns-in-Ok-clause-verdict g c =
    let sequence = c.read.new.fed in
    let limits = c.new-sequence.ensures.limits in
    sequence-read c.one_sequence_verdict.ensures.one c.one_sequence_verdict.ensures.said (StandsFor sequence) (limits_of sequence) c.args.limits
    (c.read.ensures.limits ∙ limits) _ _ c.in-Ok.field-0 _
    (c.in-Ok.ensures.ends c.new-sequence.ensures.stands limits) c.finish.ensures

pub returns-in-Ok-clause-stops : goal.returns-in-Ok-clause-stops
returns-in-Ok-clause-stops g c = c.read.ensures.stops c.new-sequence.ensures.stands c.new-sequence.ensures.limits

pub returns-in-Err-clause-stops : goal.returns-in-Err-clause-stops
returns-in-Err-clause-stops g c = c.read.ensures.stops c.new-sequence.ensures.stands c.new-sequence.ensures.limits
