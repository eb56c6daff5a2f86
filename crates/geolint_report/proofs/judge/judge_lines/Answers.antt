use Rattle.geolint_report.proofs.Common.{[], refl, ◌∙◌, IsWholeVerdict}
use Rattle.gj_rules.specs.declared.records.framing.Framing.TheVariants.{Lines}
use Rattle.gj_rules.specs.RecordsStand.{limits_of}
use Rattle.geolint_report.specs.Fed.{AreLines, AreDecidedLines}
use Rattle.geolint_report.proofs.FileVerdicts.{Judges-fed}
use Rattle.geolint_report.proofs.LineVerdicts.{one-whole, whole-told}
use Rattle.geolint_report.proofs.judge.judge_lines.Goals as goal

pub returns-in-Ok-clause-verdict : goal.returns-in-Ok-clause-verdict
returns-in-Ok-clause-verdict g c =
    let lines = c.read.new.fed in
    let limits = c.new-lines.ensures.limits in
    Judges-fed (IsWholeVerdict Lines) (one-whole c.one_finding.ensures.one) (AreLines lines) (AreDecidedLines (limits_of lines)) (limits_of lines) c.args.limits
    (c.read.ensures.limits ∙ limits) _ _ c.in-Ok.field-0 _
    (c.in-Ok.ensures.ends (([], c.new-lines.ensures.stands), c.new-lines.ensures.framing) limits)
    (λ read stands. let ((found, told), kind) = stands in whole-told _ _ _ _ read found _ kind refl (c.finish.ensures.told read [] found told tt))
    (λ read decided. decided)
