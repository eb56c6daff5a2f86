-- What a loop over positions that come as their cut values gathers of them.
use Rattle.std.specs.Prelude.{◌≡◌, ◌≢◌, ◌==◌, ◌+◌, ◌^◌, ◌-◌, ℕ, if◌then◌else◌, Some}
use Rattle.gj_json.specs.declared.cut_position.CutPosition.{CutPosition}
use Rattle.gj_json.specs.declared.flat.Flat.{Flat}
use Rattle.gj_coords.specs.declared.cuts.AddedCuts.{AddedCuts}
use Rattle.gj_coords.specs.declared.cuts.PreciseNumbers.{PreciseNumbers}
use Rattle.gj_coords.specs.declared.kind_warnings.KindWarnings.{KindWarnings}
use Rattle.gj_coords.specs.declared.warned.Warned.{Warned}
use Rattle.gj_coords.specs.declared.winding.Corner.{Corner}
use Rattle.gj_coords.specs.Internal.FlatPosition.{flat_position, flat_values, precise_noted}
use Rattle.gj_coords.specs.Internal.KeptWarnings.{noted_as, nothing_noted}
use Rattle.gj_coords.specs.Internal.PositionGather.{precise_with, corner_in, sound_noted}
use Rattle.gj_coords.specs.Internal.WindingGather.{sum_added}

abbrev pub most_at_once : ℕ
most_at_once = 2 ^ 30

-- ---- numbers that are too precise

-- the greatest place
abbrev pub nowhere : ℕ
nowhere = 2 ^ 64 - 1

abbrev pub none_counted : PreciseNumbers
none_counted = record { count = 0; first = nowhere }

-- where there are none, no place is greater
abbrev pub HasLeast : PreciseNumbers → Type 0
HasLeast numbers = numbers.count ≡ 0 → numbers.first ≡ nowhere

-- what is kept of them
abbrev pub counted_noted : PreciseNumbers → KindWarnings
counted_noted numbers = if numbers.count == 0 then nothing_noted else noted_as numbers.count numbers.first

-- with those of a position
abbrev pub pair_with : CutPosition → KindWarnings → KindWarnings
pair_with position noted = precise_with position.second_precise (position.place + position.second_at)
    (precise_with position.first_precise (position.place + position.first_at) noted)

-- as many more as a position in range has, whatever they are noted with
abbrev pub HasCounted : Flat → PreciseNumbers → PreciseNumbers → Type 0
HasCounted flat old new =
    (warned : Warned) → precise_noted warned (counted_noted new) ≡ sound_noted (precise_noted warned (counted_noted old)) (flat_position flat)

-- ---- positions after others

-- a position in range more, whose corner is not this one
pub record IsAdded (flat : Flat) (start : Corner) (old new : AddedCuts) : Type 0 where
  pub corner : Corner
  pub in_range : corner_in (flat_values flat) ≡ Some corner
  pub apart : start ≢ corner
  pub sum : new.sum ≡ sum_added old.sum corner
  pub counted : HasCounted flat old.precise new.precise
