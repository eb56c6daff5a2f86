-- What is found of places among the last bytes of a text that is read once.
use Rattle.std.specs.Prelude.{◌⊎◌, ◌≤◌, ◌<◌, ◌+◌, ℕ, List, length, Option}
use Rattle.std.specs.List.{Contains}
use Rattle.gj_json.specs.Limits.{Allowed}
use Rattle.gj_rules.specs.declared.records.framing.Framing.{Framing}
use Rattle.geolint_report.specs.declared.every.spots.Spots.{Spots}
use Rattle.geolint_report.specs.declared.judge.Finding.{Finding}
use Rattle.geolint_report.specs.declared.judge.Reading.{Reading}
use Rattle.geolint_report.specs.declared.sites.Sites.{Sites}
use Rattle.geolint_report.specs.Judged.{framing_in}
use Rattle.geolint_report.specs.Sites.{AreRight, ArePaths, AreTold, AreToldInTexts, AllFound, IsExcerpt, NoneFound, sought}
use Rattle.geolint_report.specs.Sought.{AreSoughtFor}
use Rattle.geolint_report.specs.Spots.{AreSpots, FollowedFrom}

-- all that is sought, as by a second reading of the text; in a longer one than this, not each path is told
pub record AreFoundIn (limits : Allowed) (framing : Option Framing) (text : List ℕ) (sites : Sites) : Type 0 where
  pub right : AreRight text sites.sites
  pub paths : ArePaths framing text sites.sites
  pub found : AllFound text sites
  pub excerpt : IsExcerpt text sites
  pub told : length text ≤ 48896 → AreTold limits framing text sites.sites × AreToldInTexts limits framing text sites.sites

-- a place that is sought is further from the end of the text than this
abbrev pub IsFar : List ℕ → Sites → Type 0
IsFar text sites = (place : ℕ) × Contains (sought sites) place × (place + 48896 < length text)

-- all is found, or nothing where one of the places is far from the end
abbrev pub AreHeldIn : Allowed → Option Framing → List ℕ → Sites → Type 0
AreHeldIn limits framing text sites = AreFoundIn limits framing text sites ⊎ (NoneFound sites.sites × IsFar text sites)

-- the places of a finding, in what came to these spots
abbrev pub AreHeldBy : Spots → Finding → Reading → Allowed → Sites → Type 0
AreHeldBy spots finding reading limits sites =
    AreSoughtFor finding sites × ((bytes : List ℕ) → AreSpots spots bytes → AreHeldIn limits (framing_in reading) bytes sites)

-- the places of a finding, in what was read between two states of a source
abbrev pub AreHeld : Finding → Reading → Allowed → Option (List ℕ) → Option (List ℕ) → Sites → Type 0
AreHeld finding reading limits had left sites =
    AreSoughtFor finding sites × FollowedFrom had left (λ read. AreHeldIn limits (framing_in reading) read sites)
