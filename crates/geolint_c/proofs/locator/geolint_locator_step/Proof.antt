-- `geolint_locator_step` meets its contract: a call of `LocatorHandle::step`, but at null.
use Rattle.geolint_c.proofs.HandleCalls.{calls, LocatorRow, uint, w32, [], ◌∷◌, nothing_told}
use Rattle.geolint_c.specs.Locator.{IsStep, no_step}
use Rattle.geolint_c.proofs.locator.LocatorHandle.step.Met.{met}
use Rattle.geolint_c.proofs.locator.StepText.TheLaws.{the_row_laws as RR_laws}
use Rattle.geolint_c.proofs.locator.no_step.Met.{met as no_met}
use Rattle.geolint_c.proofs.locator.geolint_locator_step.Statement.{statement}
use Rattle.geolint_c.proofs.locator.geolint_locator_step.Code as code

pub geolint_locator_step_spec : {M : Type 1} → statement M
geolint_locator_step_spec 𝓤 𝓛 𝓜 𝓡 wired = calls 𝓤 𝓛 𝓜 𝓡 0 (uint 𝓛 w32 ∷ []) tt LocatorRow (nothing_told 𝓤 𝓛 𝓜 𝓡 (RR_laws.lawful 𝓛) no_step _
    (no_met 𝓤 𝓛 𝓜 𝓡 (code.calls-geolint_c::locator::no_step 𝓡.env wired))) (λ x held. IsStep held x.0)
    _ _ (met 𝓤 𝓛 𝓜 𝓡 (code.calls-geolint_c::locator::LocatorHandle::step 𝓡.env wired)) (code.unfolded 𝓤 𝓛.H 𝓜 𝓡 wired)
