-- `geolint_locator_feed` meets its contract: a call of `LocatorHandle::feed`, but at null.
use Rattle.geolint_c.proofs.HandleCalls.{calls, LocatorRow, bytes, [], ◌∷◌, status}
use Rattle.geolint_c.specs.Locator.{IsFed}
use Rattle.geolint_c.proofs.locator.LocatorHandle.feed.Met.{met}
use Rattle.geolint_c.proofs.locator.geolint_locator_feed.Statement.{statement}
use Rattle.geolint_c.proofs.locator.geolint_locator_feed.Code as code

pub geolint_locator_feed_spec : {M : Type 1} → statement M
geolint_locator_feed_spec 𝓤 𝓛 𝓜 𝓡 wired = calls 𝓤 𝓛 𝓜 𝓡 1 (bytes 𝓛 ∷ []) tt LocatorRow (status 𝓤 𝓛 𝓜 𝓡) (λ x held. IsFed held x.0)
    _ _ (met 𝓤 𝓛 𝓜 𝓡 (code.calls-geolint_c::locator::LocatorHandle::feed 𝓡.env wired)) (code.unfolded 𝓤 𝓛.H 𝓜 𝓡 wired)
