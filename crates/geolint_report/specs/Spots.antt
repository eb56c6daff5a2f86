-- Where notes stand in a source that is read once.
use Rattle.std.specs.Prelude.{◌≡◌, ◌≤◌, ◌<◌, ◌+◌, ◌-◌, ◌^◌, ℕ, List, [], ◌∷◌, ◌++◌, length, Option, Some, None, ⊤}
use Rattle.std.specs.Io.KnownBytes.{Consumes}
use Rattle.gj_places.specs.Recalling.{Recalls, KeepsMost}
use Rattle.geolint_report.specs.declared.every.cursor.Mark.{Mark}
use Rattle.geolint_report.specs.declared.every.listing.Note.{Note}
use Rattle.geolint_report.specs.declared.every.spots.Placed.{Placed}
use Rattle.geolint_report.specs.declared.every.spots.Spots.{Spots}
use Rattle.geolint_report.specs.declared.sites.Spot.{Spot}
use Rattle.geolint_report.specs.Sites.{IsSpot}

-- the line and the column, where they are known, are those of the place in these bytes
abbrev pub IsRight : List ℕ → ℕ → Option Spot → Type 0
IsRight bytes place None = ⊤
IsRight bytes place (Some spot) = IsSpot bytes place spot

-- of each place
abbrev pub AreAllRight : List ℕ → List Placed → Type 0
AreAllRight bytes [] = ⊤
AreAllRight bytes (placed ∷ more) = IsRight bytes placed.place placed.spot × AreAllRight bytes more

-- these bytes came, of which the last are kept
abbrev pub AreSpots : Spots → List ℕ → Type 0
AreSpots spots bytes = Recalls spots.recent bytes × KeepsMost spots.recent × AreAllRight bytes spots.placed.items

-- a place among the last bytes of as many as are surely kept
abbrev pub IsAmongLast : List ℕ → ℕ → Type 0
IsAmongLast bytes place = (place ≤ length bytes) × (length bytes ≤ place + 49152) × (length bytes < 2 ^ 64 - 1)

-- a mark of a note has its place, no path, and the line and the column that the place has in each text that begins with the bytes that came
abbrev pub SaysSpot : Spots → Note → Option Mark → Type 0
SaysSpot spots note None = ⊤
SaysSpot spots note (Some mark) =
    (mark.place ≡ note.told.place) × (mark.path ≡ None)
    × ((bytes more : List ℕ) → AreSpots spots bytes → IsSpot (bytes ++ more) mark.place mark.spot)

-- the bytes that were read between two states of a source came to it
abbrev pub FollowedFrom : Option (List ℕ) → Option (List ℕ) → (List ℕ → Type 0) → Type 0
FollowedFrom had left Follows = (read : List ℕ) × Consumes had left read × Follows read
