-- `geolint_features_feed` meets its contract: a call of `FeatureHandle::feed`, but at null.
use Rattle.geolint_c.proofs.HandleCalls.{calls, FeatureRow, bytes, [], ◌∷◌, refused}
use Rattle.geolint_c.specs.Features.{IsFed}
use Rattle.geolint_c.proofs.features.FeatureHandle.feed.Met.{met}
use Rattle.geolint_c.specs.Finding.{no_progress}
use Rattle.geolint_c.proofs.finding.Progress.TheLaws.{the_row_laws as RR_laws}
use Rattle.geolint_c.proofs.finding.no_progress.Met.{met as no_met}
use Rattle.geolint_c.proofs.features.geolint_features_feed.Statement.{statement}
use Rattle.geolint_c.proofs.features.geolint_features_feed.Code as code

pub geolint_features_feed_spec : {M : Type 1} → statement M
geolint_features_feed_spec 𝓤 𝓛 𝓜 𝓡 wired = calls 𝓤 𝓛 𝓜 𝓡 1 (bytes 𝓛 ∷ []) tt FeatureRow (refused 𝓤 𝓛 𝓜 𝓡 (RR_laws.lawful 𝓛) no_progress _
    (no_met 𝓤 𝓛 𝓜 𝓡 (code.calls-geolint_c::finding::no_progress 𝓡.env wired))) (λ x held. IsFed held x.0)
    _ _ (met 𝓤 𝓛 𝓜 𝓡 (code.calls-geolint_c::features::FeatureHandle::feed 𝓡.env wired)) (code.unfolded 𝓤 𝓛.H 𝓜 𝓡 wired)
