-- `geolint_features_begin` meets its contract: what `FeatureHandle::begun` gives is written, but at null.
use Rattle.geolint_c.proofs.HandleCalls.{begins, numbers, are_made, refl}
use Rattle.geolint_c.specs.Features.{IsBegun}
use Rattle.geolint_c.specs.Handle.{BegunStatus}
use Rattle.geolint_c.proofs.features.FeatureHandle.TheLaws.{the_row_laws as R_laws}
use Rattle.geolint_c.proofs.features.FeatureHandle.begun.Met.{met}
use Rattle.geolint_c.proofs.handle.begun_status.Met.{met as status_met}
use Rattle.geolint_c.proofs.features.geolint_features_begin.Statement.{statement}
use Rattle.geolint_c.proofs.features.geolint_features_begin.Code as code

pub geolint_features_begin_spec : {M : Type 1} → statement M
geolint_features_begin_spec 𝓤 𝓛 𝓜 𝓡 wired = begins 𝓤 𝓛 𝓜 𝓡 (numbers 𝓛) tt tt (are_made 𝓛) (R_laws.lawful 𝓛) refl
    (λ x. IsBegun x.0 x.1.0) (λ x. BegunStatus x.0 x.1.0) _ _ _ (met 𝓤 𝓛 𝓜 𝓡 (code.calls-geolint_c::features::FeatureHandle::begun 𝓡.env wired))
    (status_met 𝓤 𝓛 𝓜 𝓡 (code.calls-geolint_c::handle::begun_status 𝓡.env wired)) (code.unfolded 𝓤 𝓛.H 𝓜 𝓡 wired)
