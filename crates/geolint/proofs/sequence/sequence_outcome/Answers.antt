use Rattle.std.proofs.Common.{◌≡◌}
use Rattle.gj_rules.specs.Verdict.{valid}
use Rattle.geolint.specs.Sequence.{sequence_outcome}
use Rattle.geolint.proofs.DecidedSequences.{for_all_valid}
use Rattle.geolint.proofs.sequence.sequence_outcome.Goals as goal

pub returns-in-Valid : goal.returns-in-Valid
returns-in-Valid c =
    for_all_valid (λ judgement. c.outcome_of.result ≡ sequence_outcome c.args.strict judgement) c.args.verdict c.in-Valid.records c.in-Valid.warnings
    c.in-Valid.is
    (λ records all stands. c.outcome_of.ensures (valid all) stands)
