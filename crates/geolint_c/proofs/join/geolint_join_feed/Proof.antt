-- `geolint_join_feed` meets its contract: a call of `JoinHandle::feed`, but at null.
use Rattle.geolint_c.proofs.HandleCalls.{calls, JoinRow, bytes, [], ◌∷◌, status}
use Rattle.geolint_c.specs.Join.{IsFed}
use Rattle.geolint_c.proofs.join.JoinHandle.feed.Met.{met}
use Rattle.geolint_c.proofs.join.geolint_join_feed.Statement.{statement}
use Rattle.geolint_c.proofs.join.geolint_join_feed.Code as code

pub geolint_join_feed_spec : {M : Type 1} → statement M
geolint_join_feed_spec 𝓤 𝓛 𝓜 𝓡 wired = calls 𝓤 𝓛 𝓜 𝓡 1 (bytes 𝓛 ∷ []) tt JoinRow (status 𝓤 𝓛 𝓜 𝓡) (λ x held. IsFed held x.0)
    _ _ (met 𝓤 𝓛 𝓜 𝓡 (code.calls-geolint_c::join::JoinHandle::feed 𝓡.env wired)) (code.unfolded 𝓤 𝓛.H 𝓜 𝓡 wired)
