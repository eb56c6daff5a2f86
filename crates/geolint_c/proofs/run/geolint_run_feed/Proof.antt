-- `geolint_run_feed` meets its contract: a call of `RunHandle::feed`, but at null.
use Rattle.geolint_c.proofs.HandleCalls.{calls, RunRow, bytes, [], ◌∷◌, status}
use Rattle.geolint_c.specs.Run.{IsFed}
use Rattle.geolint_c.proofs.run.RunHandle.feed.Met.{met}
use Rattle.geolint_c.proofs.run.geolint_run_feed.Statement.{statement}
use Rattle.geolint_c.proofs.run.geolint_run_feed.Code as code

pub geolint_run_feed_spec : {M : Type 1} → statement M
geolint_run_feed_spec 𝓤 𝓛 𝓜 𝓡 wired = calls 𝓤 𝓛 𝓜 𝓡 1 (bytes 𝓛 ∷ []) tt RunRow (status 𝓤 𝓛 𝓜 𝓡) (λ x held. IsFed held x.0)
    _ _ (met 𝓤 𝓛 𝓜 𝓡 (code.calls-geolint_c::run::RunHandle::feed 𝓡.env wired)) (code.unfolded 𝓤 𝓛.H 𝓜 𝓡 wired)
