-- Which features are kept of those that were reported.
use Rattle.std.specs.Prelude.{◌≡◌, ℕ, ◌+◌, ◌≤◌, ◌<◌, ◌^◌, ◌%◌, List, length, Some, slice_get}
use Rattle.gj_rules.specs.declared.feature.Feature.{Feature}
use Rattle.geolint_c.specs.declared.latest.LatestFeatures.{LatestFeatures}
use Rattle.geolint_c.specs.declared.latest.TheConstants.{ROOM}

-- These features were reported to it: it counts them, and keeps the last ones, as long as there are fewer than 2^64.
pub record KeepsAll (latest : LatestFeatures) (features : List Feature) : Type 0 where
  pub told : latest.told ≡ length features
  pub kept : (number : ℕ) (feature : Feature) → slice_get features number ≡ Some feature → length features ≤ number + ROOM
      → slice_get latest.features (number % ROOM) ≡ Some feature

abbrev pub Keeps : LatestFeatures → List Feature → Type 0
Keeps latest features = length features < 2 ^ 64 → KeepsAll latest features
