-- `geolint_offset` meets its contract: a call of `Handle::offset`, but at null.
use Rattle.geolint_c.proofs.HandleCalls.{calls, HandleRow, [], zero_at_null, w64}
use Rattle.geolint_c.specs.Handle.{IsOffset}
use Rattle.geolint_c.proofs.handle.Handle.offset.Met.{met}
use Rattle.geolint_c.proofs.handle.geolint_offset.Statement.{statement}
use Rattle.geolint_c.proofs.handle.geolint_offset.Code as code

pub geolint_offset_spec : {M : Type 1} → statement M
geolint_offset_spec 𝓤 𝓛 𝓜 𝓡 wired = calls 𝓤 𝓛 𝓜 𝓡 0 [] tt HandleRow (zero_at_null 𝓤 𝓛 𝓜 𝓡 w64 tt) (λ x. IsOffset)
    _ _ (met 𝓤 𝓛 𝓜 𝓡 (code.calls-geolint_c::handle::Handle::offset 𝓡.env wired)) (code.unfolded 𝓤 𝓛.H 𝓜 𝓡 wired)
