-- There is a warning.
use Rattle.geolint_c.proofs.ReportsOfVerdicts.{with_warnings}
use Rattle.geolint_c.proofs.report.report_of_warned.Goals as goal

pub returns : goal.returns
returns c = λ all stands some. with_warnings all c.all_warned.result (c.all_warned.ensures all stands) some
