-- What is likely wrong in use with a bounding box that breaks no rule (RFC 7946, section 5).
use Rattle.std.specs.Prelude.{List, [], ◌∷◌, Option, Some, Bool, false, not, if◌then◌else◌, int_le, ℤ}
use Rattle.gj_json.specs.Tree.{Tree}
use Rattle.gj_coords.specs.declared.kind.Kind.TheVariants.{W8}
use Rattle.gj_coords.specs.Items.{elements_of, place_of}
use Rattle.gj_coords.specs.Ring.{exact_value}
use Rattle.gj_coords.specs.Warnings.{Warning, warning_at}
use Rattle.gj_coords.specs.Winding.{cut_value}

-- both cut numbers are there, and the first is above the second
abbrev pub is_above : Option ℤ → Option ℤ → Bool
is_above (Some south) (Some north) = not (int_le south north)
is_above _ _ = false

abbrev pub cut_number : Tree → Option ℤ
cut_number value = cut_value (exact_value value)

-- of four numbers the second is the south and the fourth the north, of six the second and the fifth
abbrev pub south_above_north : List Tree → Bool
south_above_north (west ∷ south ∷ east ∷ north ∷ []) = is_above (cut_number south) (cut_number north)
south_above_north (west ∷ south ∷ least ∷ east ∷ north ∷ greatest ∷ []) = is_above (cut_number south) (cut_number north)
south_above_north _ = false

abbrev pub bbox_warnings : Tree → List Warning
bbox_warnings value = if south_above_north (elements_of value) then warning_at (place_of value) W8 ∷ [] else []
