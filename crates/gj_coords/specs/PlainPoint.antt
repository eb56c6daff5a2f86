-- Positions of which the way they are written shows that nothing is wrong with them as the coordinates of a Point.
use Rattle.std.specs.Prelude.{◌≡◌, ◌≤◌, Some, None, IfSome, IsTrue, is_some}
use Rattle.gj_number.specs.Short.{exact_of}
use Rattle.gj_json.specs.declared.flat.Flat.{Flat}
use Rattle.gj_json.specs.declared.flat.Numbered.{Numbered}
use Rattle.gj_json.specs.Tree.{Tree}
use Rattle.gj_json.specs.Events.{value_events}
use Rattle.gj_json.specs.Flat.{flat_events}
use Rattle.gj_coords.specs.declared.simple.Simple.TheVariants.{Point}
use Rattle.gj_coords.specs.declared.warnings.Warnings.{Warnings}
use Rattle.gj_coords.specs.Fault.{least}
use Rattle.gj_coords.specs.Shape.{coordinates_faults}
use Rattle.gj_coords.specs.Winding.{corner_of}
use Rattle.gj_coords.specs.Internal.KeptWarnings.{no_warnings}
use Rattle.gj_coords.specs.Internal.CoordinatesKept.{coordinates_kept}

-- as the coordinates of a Point it breaks no rule and deserves these warnings
abbrev pub IsPointWith : Warnings → Flat → Type 0
IsPointWith warnings flat =
    (value : Tree) → value_events value ≡ flat_events flat → (least (coordinates_faults Point value) ≡ None) × (coordinates_kept Point value ≡ warnings)

-- it deserves none
abbrev pub IsPlainPoint : Flat → Type 0
IsPlainPoint = IsPointWith no_warnings

-- a number is written with at most seven decimal places
abbrev pub IsNumberShort : Numbered → Type 0
IsNumberShort number = number.value.places ≤ 7

-- each number is
pub record IsWrittenShort (flat : Flat) : Type 0 where
  pub first : IsNumberShort flat.first
  pub second : IsNumberShort flat.second
  pub third : IfSome flat.third IsNumberShort

-- each number is, and the position is in range
pub record IsWrittenPlain (flat : Flat) : Type 0 where
  pub short : IsWrittenShort flat
  pub in_range : IsTrue (is_some (corner_of (Some (exact_of flat.first.value)) (Some (exact_of flat.second.value))))
