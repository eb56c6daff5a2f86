-- What a second reading finds of the places of a finding.
use Rattle.std.specs.Prelude.{◌≡◌, ◌<◌, ◌+◌, ◌-◌, ◌^◌, ◌⊎◌, ℕ, List, Option}
use Rattle.std.specs.Io.Iter.{u64_saturate}
use Rattle.std.specs.List.{Contains}
use Rattle.gj_json.specs.Limits.{Allowed}
use Rattle.geolint_report.specs.declared.judge.Finding.{Finding}
use Rattle.geolint_report.specs.declared.judge.Reading.{Reading}
use Rattle.geolint_report.specs.declared.sites.Sites.{Sites}
use Rattle.geolint_report.specs.Judged.{framing_in}
use Rattle.geolint_report.specs.Report.{IsToldPlace}
use Rattle.geolint_report.specs.Sites.{AreSitesIn, NoneFound, sought}

-- the places that are sought are those that are reported, as far as a u64 goes
pub record AreSoughtFor (finding : Finding) (sites : Sites) : Type 0 where
  pub all : (place : ℕ) → IsToldPlace finding place → place < 2 ^ 64 - 1 → Contains (sought sites) place
  pub only : (place : ℕ) → Contains (sought sites) place → IsToldPlace finding place

-- A second reading of these bytes found the sites; `failed` and `now_failed` say how many calls of the source had failed before
-- and after. Where one failed, or the file is no more as it was, none is found.
abbrev pub AreSought : Finding → Reading → Allowed → Option (List ℕ) → (failed now_failed : ℕ) → Sites → Type 0
AreSought finding reading limits text failed now_failed sites =
    ((now_failed ≡ failed) × AreSoughtFor finding sites × AreSitesIn limits (framing_in reading) text sites)
    ⊎ ((now_failed ≡ u64_saturate (failed + 1)) × NoneFound sites.sites)
