-- `geolint_records_begin_again` meets its contract: a call of `RecordHandle::begin_again`, but at null.
use Rattle.geolint_c.proofs.HandleCalls.{calls, RecordRow, status, numbers, uint, ◌∷◌, w32}
use Rattle.geolint_c.specs.Records.{IsBegun, BegunStatus}
use Rattle.geolint_c.proofs.records.RecordHandle.begin_again.Met.{met}
use Rattle.geolint_c.proofs.records.geolint_records_begin_again.Statement.{statement}
use Rattle.geolint_c.proofs.records.geolint_records_begin_again.Code as code

pub geolint_records_begin_again_spec : {M : Type 1} → statement M
geolint_records_begin_again_spec 𝓤 𝓛 𝓜 𝓡 wired = calls 𝓤 𝓛 𝓜 𝓡 0 (uint 𝓛 w32 ∷ numbers 𝓛) tt RecordRow (status 𝓤 𝓛 𝓜 𝓡) (λ x held st new. IsBegun x.0 x.1.0 x.1.1.0 new × BegunStatus x.0 x.1.0 x.1.1.0 st)
    _ _ (met 𝓤 𝓛 𝓜 𝓡 (code.calls-geolint_c::records::RecordHandle::begin_again 𝓡.env wired)) (code.unfolded 𝓤 𝓛.H 𝓜 𝓡 wired)
