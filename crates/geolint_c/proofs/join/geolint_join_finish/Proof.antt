-- `geolint_join_finish` meets its contract: a call of `JoinHandle::finish`, but at null.
use Rattle.geolint_c.proofs.HandleCalls.{calls, JoinRow, [], refused}
use Rattle.geolint_c.specs.Join.{IsFinished}
use Rattle.geolint_c.proofs.join.JoinHandle.finish.Met.{met}
use Rattle.geolint_c.specs.Report.{no_report}
use Rattle.geolint_c.proofs.report.Report.TheLaws.{the_row_laws as RR_laws}
use Rattle.geolint_c.proofs.report.no_report.Met.{met as no_met}
use Rattle.geolint_c.proofs.join.geolint_join_finish.Statement.{statement}
use Rattle.geolint_c.proofs.join.geolint_join_finish.Code as code

pub geolint_join_finish_spec : {M : Type 1} → statement M
geolint_join_finish_spec 𝓤 𝓛 𝓜 𝓡 wired = calls 𝓤 𝓛 𝓜 𝓡 0 [] tt JoinRow (refused 𝓤 𝓛 𝓜 𝓡 (RR_laws.lawful 𝓛) no_report _
    (no_met 𝓤 𝓛 𝓜 𝓡 (code.calls-geolint_c::report::no_report 𝓡.env wired))) (λ x. IsFinished)
    _ _ (met 𝓤 𝓛 𝓜 𝓡 (code.calls-geolint_c::join::JoinHandle::finish 𝓡.env wired)) (code.unfolded 𝓤 𝓛.H 𝓜 𝓡 wired)
