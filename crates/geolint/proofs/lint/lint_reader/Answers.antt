use Rattle.std.proofs.Common.{◌∙◌}
use Rattle.gj_rules.specs.Linter.{StandsFor, limits_of}
use Rattle.geolint.proofs.ReadVerdicts.{text-read}
use Rattle.geolint.proofs.lint.lint_reader.Goals as goal

pub returns-in-Ok-clause-verdict : goal.returns-in-Ok-clause-verdict
returns-in-Ok-clause-verdict g c =
    let linter = c.read.new.fed in
    let limits = c.new-linter.ensures.limits in
    text-read c.one_verdict.ensures.one (StandsFor linter) (limits_of linter) c.args.limits (c.read.ensures.limits ∙ limits) _ _ c.in-Ok.field-0 _
    (c.in-Ok.ensures.ends c.new-linter.ensures.stands limits) c.finish_and_begin.ensures.verdict

pub returns-in-Ok-clause-stops : goal.returns-in-Ok-clause-stops
returns-in-Ok-clause-stops g c = c.read.ensures.stops c.new-linter.ensures.stands c.new-linter.ensures.limits

pub returns-in-Err-clause-stops : goal.returns-in-Err-clause-stops
returns-in-Err-clause-stops g c = c.read.ensures.stops c.new-linter.ensures.stands c.new-linter.ensures.limits
