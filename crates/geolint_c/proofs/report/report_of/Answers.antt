use Rattle.geolint_c.proofs.ReportsOfVerdicts.{reports_valid, reports_broken, reports_refused}
use Rattle.geolint_c.proofs.report.report_of.Goals as goal

pub returns-in-Valid-clause-judged : goal.returns-in-Valid-clause-judged
returns-in-Valid-clause-judged c =
    λ limits bytes. reports_valid limits bytes c.args.verdict.now c.in-Valid.warnings c.report_of_valid.result c.in-Valid.is c.report_of_valid.ensures

pub returns-in-Broken-clause-judged : goal.returns-in-Broken-clause-judged
returns-in-Broken-clause-judged c =
    λ limits bytes. reports_broken limits bytes c.args.verdict.now c.in-Broken.fault c.report_of_broken.result c.in-Broken.is c.report_of_broken.ensures

pub returns-in-NotJson-clause-judged : goal.returns-in-NotJson-clause-judged
returns-in-NotJson-clause-judged c =
    λ limits bytes. reports_refused limits bytes c.args.verdict.now c.in-NotJson.fault c.report_of_refusal.result c.in-NotJson.is c.report_of_refusal.ensures
