-- `geolint_doomed` meets its contract: a call of `Handle::doomed`, but at null.
use Rattle.geolint_c.proofs.HandleCalls.{calls, HandleRow, [], zero_at_null, w32}
use Rattle.geolint_c.specs.Handle.{IsDoomed}
use Rattle.geolint_c.proofs.handle.Handle.doomed.Met.{met}
use Rattle.geolint_c.proofs.handle.geolint_doomed.Statement.{statement}
use Rattle.geolint_c.proofs.handle.geolint_doomed.Code as code

pub geolint_doomed_spec : {M : Type 1} → statement M
geolint_doomed_spec 𝓤 𝓛 𝓜 𝓡 wired = calls 𝓤 𝓛 𝓜 𝓡 0 [] tt HandleRow (zero_at_null 𝓤 𝓛 𝓜 𝓡 w32 tt) (λ x. IsDoomed)
    _ _ (met 𝓤 𝓛 𝓜 𝓡 (code.calls-geolint_c::handle::Handle::doomed 𝓡.env wired)) (code.unfolded 𝓤 𝓛.H 𝓜 𝓡 wired)
