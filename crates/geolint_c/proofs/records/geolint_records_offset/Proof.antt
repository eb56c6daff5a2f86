-- `geolint_records_offset` meets its contract: a call of `RecordHandle::offset`, but at null.
use Rattle.geolint_c.proofs.HandleCalls.{calls, RecordRow, [], zero_at_null, w64}
use Rattle.geolint_c.specs.Records.{IsOffset}
use Rattle.geolint_c.proofs.records.RecordHandle.offset.Met.{met}
use Rattle.geolint_c.proofs.records.geolint_records_offset.Statement.{statement}
use Rattle.geolint_c.proofs.records.geolint_records_offset.Code as code

pub geolint_records_offset_spec : {M : Type 1} → statement M
geolint_records_offset_spec 𝓤 𝓛 𝓜 𝓡 wired = calls 𝓤 𝓛 𝓜 𝓡 0 [] tt RecordRow (zero_at_null 𝓤 𝓛 𝓜 𝓡 w64 tt) (λ x. IsOffset)
    _ _ (met 𝓤 𝓛 𝓜 𝓡 (code.calls-geolint_c::records::RecordHandle::offset 𝓡.env wired)) (code.unfolded 𝓤 𝓛.H 𝓜 𝓡 wired)
