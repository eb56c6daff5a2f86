use Rattle.geolint_report.proofs.Common.{◌∙◌, sym, subst, Option}
use Rattle.gj_coords.specs.declared.warnings.Warnings.{Warnings}
use Rattle.gj_rules.specs.Linter.{StandsFor, limits_of}
use Rattle.geolint_report.specs.Judged.{JudgesQuickly}
use Rattle.geolint_report.proofs.QuickFiles.{quick-open, quick-decided}
use Rattle.geolint_report.proofs.judge.judge_quickly.Goals as goal

pub returns-in-Ok-Open-clause-valid : goal.returns-in-Ok-Open-clause-valid
returns-in-Ok-Open-clause-valid g c =
    let linter = c.read.new.fed in
    let limits = c.finish_and_begin-left.ensures.limits in
    subst (λ (valid : Option Warnings). JudgesQuickly c.args.limits (g.S.Source.remaining c.args.reader.now) (g.S.Source.remaining c.read.new.reader) valid)
    (sym c.valid_in.ensures)
    (quick-open c.one_verdict.ensures.one (StandsFor linter) (limits_of linter) c.args.limits (c.read.ensures.limits ∙ limits) _ _ _
    (rw (c.in-Ok-Open.field-0-is) at (c.in-Ok-Open.ensures.ends c.finish_and_begin-left.ensures.stands limits)) c.finish_and_begin.ensures.verdict)

pub returns-in-Ok-Decided-clause-valid : goal.returns-in-Ok-Decided-clause-valid
returns-in-Ok-Decided-clause-valid g c =
    let linter = c.read.new.fed in
    let limits = c.finish_and_begin-left.ensures.limits in
    quick-decided (StandsFor linter) (limits_of linter) c.args.limits (c.read.ensures.limits ∙ limits) _ _
    (rw (c.in-Ok-Decided.field-0-is) at (c.in-Ok-Decided.ensures.ends c.finish_and_begin-left.ensures.stands limits))
