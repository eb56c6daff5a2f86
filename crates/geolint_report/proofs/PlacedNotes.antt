-- The lines and columns that are known of notes stay right with more bytes.
use Rattle.std.proofs.Common.{arith, ◌≡◌, ◌<◌, ◌++◌, ◌∷◌, [], ℕ, zero, suc, List, length, get_or}
use Rattle.std.specs.Prelude.{Option, Some, None, Bool, true, false, if◌then◌else◌}
use Rattle.geolint_report.specs.declared.every.spots.Placed.{Placed}
use Rattle.geolint_report.specs.declared.sites.Spot.{Spot}
use Rattle.geolint_report.specs.Spots.{IsRight, AreAllRight}
use Rattle.geolint_report.proofs.FoundSites.{IsSpot-longer}

IsRight-longer : (bytes more : List ℕ) (place : ℕ) (spot : Option Spot) → IsRight bytes place spot → IsRight (bytes ++ more) place spot
IsRight-longer bytes more place None is = tt
IsRight-longer bytes more place (Some spot) is = IsSpot-longer bytes more place spot is

pub AreAllRight-longer : (bytes more : List ℕ) (placed : List Placed) → AreAllRight bytes placed → AreAllRight (bytes ++ more) placed
AreAllRight-longer bytes more [] are = tt
AreAllRight-longer bytes more (one ∷ rest) (is, are) = (IsRight-longer bytes more one.place one.spot is, AreAllRight-longer bytes more rest are)

AreAllRight-add : (bytes : List ℕ) (placed : List Placed) (last : Placed) → AreAllRight bytes placed → IsRight bytes last.place last.spot
    → AreAllRight bytes (placed ++ last ∷ [])
AreAllRight-add bytes [] last are is = (is, tt)
AreAllRight-add bytes (one ∷ rest) last (first, are) is = (first, AreAllRight-add bytes rest last are is)

pub AreAllRight-at : (bytes : List ℕ) (placed : List Placed) (i : ℕ) (d : Placed) → i < length placed → AreAllRight bytes placed
    → IsRight bytes (get_or placed i d).place (get_or placed i d).spot
AreAllRight-at bytes [] i d within are = absurd (omega (arith, within))
AreAllRight-at bytes (one ∷ rest) zero d within (is, are) = is
AreAllRight-at bytes (one ∷ rest) (suc i) d within (is, are) = AreAllRight-at bytes rest i d (omega (arith, within)) are

-- one more is added, or none where the memory does not suffice
pub AreAllRight-kept : (bytes : List ℕ) (kept : Bool) (placed new : List Placed) (last : Placed) → new ≡ (if kept then placed ++ last ∷ [] else placed)
    → AreAllRight bytes placed → IsRight bytes last.place last.spot → AreAllRight bytes new
AreAllRight-kept bytes true placed new last same are is = rw same (AreAllRight-add bytes placed last are is)
AreAllRight-kept bytes false placed new last same are is = rw same are
