-- `geolint_finish` meets its contract: a call of `Handle::finish`, but at null.
use Rattle.geolint_c.proofs.HandleCalls.{calls, HandleRow, [], refused}
use Rattle.geolint_c.specs.Handle.{IsFinished}
use Rattle.geolint_c.proofs.handle.Handle.finish.Met.{met}
use Rattle.geolint_c.specs.Report.{no_report}
use Rattle.geolint_c.proofs.report.Report.TheLaws.{the_row_laws as RR_laws}
use Rattle.geolint_c.proofs.report.no_report.Met.{met as no_met}
use Rattle.geolint_c.proofs.handle.geolint_finish.Statement.{statement}
use Rattle.geolint_c.proofs.handle.geolint_finish.Code as code

pub geolint_finish_spec : {M : Type 1} → statement M
geolint_finish_spec 𝓤 𝓛 𝓜 𝓡 wired = calls 𝓤 𝓛 𝓜 𝓡 0 [] tt HandleRow (refused 𝓤 𝓛 𝓜 𝓡 (RR_laws.lawful 𝓛) no_report _
    (no_met 𝓤 𝓛 𝓜 𝓡 (code.calls-geolint_c::report::no_report 𝓡.env wired))) (λ x. IsFinished)
    _ _ (met 𝓤 𝓛 𝓜 𝓡 (code.calls-geolint_c::handle::Handle::finish 𝓡.env wired)) (code.unfolded 𝓤 𝓛.H 𝓜 𝓡 wired)
