use Rattle.std.proofs.Common.{refl}
use Rattle.geolint_report.proofs.FoundSites.{IsSpot-longer}
use Rattle.geolint_report.proofs.every.spots.SpotsFollower.mark_at.Goals as goal

pub returns-in-Some : goal.returns-in-Some
returns-in-Some c = (refl, refl, λ bytes more are. IsSpot-longer bytes more _ _ (rw (c.in-Some.is) at (c.known.ensures bytes are)))
