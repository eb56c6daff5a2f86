-- `geolint_run_sum` meets its contract: a call of `RunHandle::sum`, but at null.
use Rattle.geolint_c.proofs.HandleCalls.{calls, RunRow, [], refused}
use Rattle.geolint_c.specs.Run.{IsTold}
use Rattle.geolint_c.proofs.run.RunHandle.sum.Met.{met}
use Rattle.geolint_c.specs.Sum.{no_sum}
use Rattle.geolint_c.proofs.sum.Sum.TheLaws.{the_row_laws as RR_laws}
use Rattle.geolint_c.proofs.sum.no_sum.Met.{met as no_met}
use Rattle.geolint_c.proofs.run.geolint_run_sum.Statement.{statement}
use Rattle.geolint_c.proofs.run.geolint_run_sum.Code as code

pub geolint_run_sum_spec : {M : Type 1} → statement M
geolint_run_sum_spec 𝓤 𝓛 𝓜 𝓡 wired = calls 𝓤 𝓛 𝓜 𝓡 0 [] tt RunRow (refused 𝓤 𝓛 𝓜 𝓡 (RR_laws.lawful 𝓛) no_sum _
    (no_met 𝓤 𝓛 𝓜 𝓡 (code.calls-geolint_c::sum::no_sum 𝓡.env wired))) (λ x. IsTold)
    _ _ (met 𝓤 𝓛 𝓜 𝓡 (code.calls-geolint_c::run::RunHandle::sum 𝓡.env wired)) (code.unfolded 𝓤 𝓛.H 𝓜 𝓡 wired)
