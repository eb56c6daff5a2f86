-- `geolint_records_begin` meets its contract: what `RecordHandle::begun` gives is written, but at null.
use Rattle.geolint_c.proofs.HandleCalls.{begins, numbers, are_made, refl, uint, uint_Makes, ◌∷◌, w32}
use Rattle.geolint_c.specs.Records.{IsBegun, BegunStatus}
use Rattle.geolint_c.proofs.records.RecordHandle.TheLaws.{the_row_laws as R_laws}
use Rattle.geolint_c.proofs.records.RecordHandle.begun.Met.{met}
use Rattle.geolint_c.proofs.records.begun_status.Met.{met as status_met}
use Rattle.geolint_c.proofs.records.geolint_records_begin.Statement.{statement}
use Rattle.geolint_c.proofs.records.geolint_records_begin.Code as code

pub geolint_records_begin_spec : {M : Type 1} → statement M
geolint_records_begin_spec 𝓤 𝓛 𝓜 𝓡 wired = begins 𝓤 𝓛 𝓜 𝓡 (uint 𝓛 w32 ∷ numbers 𝓛) tt tt (uint_Makes 𝓛 w32, are_made 𝓛) (R_laws.lawful 𝓛) refl
    (λ x. IsBegun x.0 x.1.0 x.1.1.0) (λ x. BegunStatus x.0 x.1.0 x.1.1.0) _ _ _ (met 𝓤 𝓛 𝓜 𝓡 (code.calls-geolint_c::records::RecordHandle::begun 𝓡.env wired))
    (status_met 𝓤 𝓛 𝓜 𝓡 (code.calls-geolint_c::records::begun_status 𝓡.env wired)) (code.unfolded 𝓤 𝓛.H 𝓜 𝓡 wired)
