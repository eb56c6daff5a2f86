use Rattle.std.proofs.lemmas.Result.{IfOk-weaker}
use Rattle.geolint_files.proofs.cut.join_all.Goals as goal

pub returns : goal.returns
returns g c = IfOk-weaker c.report_given.result _ _ (λ ended report. (c.in_ok-given.given.lines.items, _, report)) c.report_given.ensures
