use Rattle.geolint_report.proofs.Common.{◌∙◌, IsVerdict}
use Rattle.gj_rules.specs.declared.verdict.Verdict.TheVariants.{NotJson}
use Rattle.gj_rules.specs.Linter.{StandsFor, limits_of}
use Rattle.geolint_report.specs.Fed.{IsRefused}
use Rattle.geolint_report.proofs.FileVerdicts.{Judges-fed}
use Rattle.geolint_report.proofs.judge.judge_text.Goals as goal

pub returns-in-Ok-clause-verdict : goal.returns-in-Ok-clause-verdict
returns-in-Ok-clause-verdict g c =
    let linter = c.read.new.fed in
    let limits = c.finish_and_begin-left.ensures.limits in
    Judges-fed IsVerdict c.one_verdict.ensures.one (StandsFor linter) (IsRefused (limits_of linter)) (limits_of linter) c.args.limits
    (c.read.ensures.limits ∙ limits) _ _ c.in-Ok.field-0 _
    (c.in-Ok.ensures.ends c.finish_and_begin-left.ensures.stands limits) c.verdict_of.ensures (λ read decided. (NotJson decided.0, decided.1))
