use Rattle.std.proofs.Common.{◌≡◌}
use Rattle.gj_rules.specs.Verdict.{valid}
use Rattle.geolint.specs.Quick.{quick_outcome}
use Rattle.geolint.proofs.QuickReadings.{for_some}
use Rattle.geolint.proofs.quick.quick_outcome.Goals as goal

pub returns-in-Some : goal.returns-in-Some
returns-in-Some c = for_some (λ warnings. c.outcome_of.result ≡ quick_outcome c.args.strict warnings) c.args.valid c.in-Some.warnings c.in-Some.is
    (λ all stands. c.outcome_of.ensures (valid all) stands)
