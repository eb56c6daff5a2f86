-- `geolint_records_finish` meets its contract: a call of `RecordHandle::finish`, but at null.
use Rattle.geolint_c.proofs.HandleCalls.{calls, RecordRow, [], refused}
use Rattle.geolint_c.specs.Records.{IsFinished}
use Rattle.geolint_c.proofs.records.RecordHandle.finish.Met.{met}
use Rattle.geolint_c.specs.Finding.{no_whole}
use Rattle.geolint_c.proofs.finding.Whole.TheLaws.{the_row_laws as RR_laws}
use Rattle.geolint_c.proofs.finding.no_whole.Met.{met as no_met}
use Rattle.geolint_c.proofs.records.geolint_records_finish.Statement.{statement}
use Rattle.geolint_c.proofs.records.geolint_records_finish.Code as code

pub geolint_records_finish_spec : {M : Type 1} → statement M
geolint_records_finish_spec 𝓤 𝓛 𝓜 𝓡 wired = calls 𝓤 𝓛 𝓜 𝓡 0 [] tt RecordRow (refused 𝓤 𝓛 𝓜 𝓡 (RR_laws.lawful 𝓛) no_whole _
    (no_met 𝓤 𝓛 𝓜 𝓡 (code.calls-geolint_c::finding::no_whole 𝓡.env wired))) (λ x. IsFinished)
    _ _ (met 𝓤 𝓛 𝓜 𝓡 (code.calls-geolint_c::records::RecordHandle::finish 𝓡.env wired)) (code.unfolded 𝓤 𝓛.H 𝓜 𝓡 wired)
