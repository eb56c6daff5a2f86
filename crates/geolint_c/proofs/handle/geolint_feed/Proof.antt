-- `geolint_feed` meets its contract: a call of `Handle::feed`, but at null.
use Rattle.geolint_c.proofs.HandleCalls.{calls, HandleRow, bytes, [], ◌∷◌, status}
use Rattle.geolint_c.specs.Handle.{IsFed}
use Rattle.geolint_c.proofs.handle.Handle.feed.Met.{met}
use Rattle.geolint_c.proofs.handle.geolint_feed.Statement.{statement}
use Rattle.geolint_c.proofs.handle.geolint_feed.Code as code

pub geolint_feed_spec : {M : Type 1} → statement M
geolint_feed_spec 𝓤 𝓛 𝓜 𝓡 wired = calls 𝓤 𝓛 𝓜 𝓡 1 (bytes 𝓛 ∷ []) tt HandleRow (status 𝓤 𝓛 𝓜 𝓡) (λ x held. IsFed held x.0)
    _ _ (met 𝓤 𝓛 𝓜 𝓡 (code.calls-geolint_c::handle::Handle::feed 𝓡.env wired)) (code.unfolded 𝓤 𝓛.H 𝓜 𝓡 wired)
