-- `geolint_features_begin_again` meets its contract: a call of `FeatureHandle::begin_again`, but at null.
use Rattle.geolint_c.proofs.HandleCalls.{calls, FeatureRow, status, numbers}
use Rattle.geolint_c.specs.Features.{IsBegun}
use Rattle.geolint_c.specs.Handle.{BegunStatus}
use Rattle.geolint_c.proofs.features.FeatureHandle.begin_again.Met.{met}
use Rattle.geolint_c.proofs.features.geolint_features_begin_again.Statement.{statement}
use Rattle.geolint_c.proofs.features.geolint_features_begin_again.Code as code

pub geolint_features_begin_again_spec : {M : Type 1} → statement M
geolint_features_begin_again_spec 𝓤 𝓛 𝓜 𝓡 wired = calls 𝓤 𝓛 𝓜 𝓡 0 (numbers 𝓛) tt FeatureRow (status 𝓤 𝓛 𝓜 𝓡) (λ x held st new. IsBegun x.0 x.1.0 new × BegunStatus x.0 x.1.0 st)
    _ _ (met 𝓤 𝓛 𝓜 𝓡 (code.calls-geolint_c::features::FeatureHandle::begin_again 𝓡.env wired)) (code.unfolded 𝓤 𝓛.H 𝓜 𝓡 wired)
