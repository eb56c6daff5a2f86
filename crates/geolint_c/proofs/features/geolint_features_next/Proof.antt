-- `geolint_features_next` meets its contract: a call of `FeatureHandle::next`, but at null.
use Rattle.geolint_c.proofs.HandleCalls.{calls, FeatureRow, [], refused}
use Rattle.geolint_c.specs.Features.{IsNext}
use Rattle.geolint_c.proofs.features.FeatureHandle.next.Met.{met}
use Rattle.geolint_c.specs.Finding.{no_finding}
use Rattle.geolint_c.proofs.finding.Finding.TheLaws.{the_row_laws as RR_laws}
use Rattle.geolint_c.proofs.finding.no_finding.Met.{met as no_met}
use Rattle.geolint_c.proofs.features.geolint_features_next.Statement.{statement}
use Rattle.geolint_c.proofs.features.geolint_features_next.Code as code

pub geolint_features_next_spec : {M : Type 1} → statement M
geolint_features_next_spec 𝓤 𝓛 𝓜 𝓡 wired = calls 𝓤 𝓛 𝓜 𝓡 0 [] tt FeatureRow (refused 𝓤 𝓛 𝓜 𝓡 (RR_laws.lawful 𝓛) no_finding _
    (no_met 𝓤 𝓛 𝓜 𝓡 (code.calls-geolint_c::finding::no_finding 𝓡.env wired))) (λ x. IsNext)
    _ _ (met 𝓤 𝓛 𝓜 𝓡 (code.calls-geolint_c::features::FeatureHandle::next 𝓡.env wired)) (code.unfolded 𝓤 𝓛.H 𝓜 𝓡 wired)
