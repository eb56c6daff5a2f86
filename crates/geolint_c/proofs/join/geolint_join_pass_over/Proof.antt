-- `geolint_join_pass_over` meets its contract: a call of `JoinHandle::pass_over`, but at null.
use Rattle.geolint_c.proofs.HandleCalls.{calls, JoinRow, at, [], ◌∷◌, zero_at_null, w32}
use Rattle.geolint_c.specs.Join.{IsPassed}
use Rattle.geolint_c.specs.contracts.sum.Sum.{the_row as S}
use Rattle.geolint_c.proofs.join.JoinHandle.pass_over.Met.{met}
use Rattle.geolint_c.proofs.join.geolint_join_pass_over.Statement.{statement}
use Rattle.geolint_c.proofs.join.geolint_join_pass_over.Code as code

pub geolint_join_pass_over_spec : {M : Type 1} → statement M
geolint_join_pass_over_spec 𝓤 𝓛 𝓜 𝓡 wired = calls 𝓤 𝓛 𝓜 𝓡 1 (at 𝓛 S (λ _. tt) (λ _. tt) ∷ []) tt JoinRow (zero_at_null 𝓤 𝓛 𝓜 𝓡 w32 tt) (λ x held. IsPassed held x.0)
    _ _ (met 𝓤 𝓛 𝓜 𝓡 (code.calls-geolint_c::join::JoinHandle::pass_over 𝓡.env wired)) (code.unfolded 𝓤 𝓛.H 𝓜 𝓡 wired)
