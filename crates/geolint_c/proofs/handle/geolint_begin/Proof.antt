-- `geolint_begin` meets its contract: what `Handle::begun` gives is written, but at null.
use Rattle.geolint_c.proofs.HandleCalls.{begins, numbers, are_made, refl}
use Rattle.geolint_c.specs.Handle.{IsBegun, BegunStatus}
use Rattle.geolint_c.proofs.handle.Handle.TheLaws.{the_row_laws as R_laws}
use Rattle.geolint_c.proofs.handle.Handle.begun.Met.{met}
use Rattle.geolint_c.proofs.handle.begun_status.Met.{met as status_met}
use Rattle.geolint_c.proofs.handle.geolint_begin.Statement.{statement}
use Rattle.geolint_c.proofs.handle.geolint_begin.Code as code

pub geolint_begin_spec : {M : Type 1} → statement M
geolint_begin_spec 𝓤 𝓛 𝓜 𝓡 wired = begins 𝓤 𝓛 𝓜 𝓡 (numbers 𝓛) tt tt (are_made 𝓛) (R_laws.lawful 𝓛) refl
    (λ x. IsBegun x.0 x.1.0) (λ x. BegunStatus x.0 x.1.0) _ _ _ (met 𝓤 𝓛 𝓜 𝓡 (code.calls-geolint_c::handle::Handle::begun 𝓡.env wired))
    (status_met 𝓤 𝓛 𝓜 𝓡 (code.calls-geolint_c::handle::begun_status 𝓡.env wired)) (code.unfolded 𝓤 𝓛.H 𝓜 𝓡 wired)
