-- What is wrong with the value of `bbox`, a bounding box (RFC 7946, section 5).
use Rattle.std.specs.Prelude.{ℕ, List, [], ◌∷◌, ◌++◌, Bool, ◌||◌, ◌==◌, ◌%◌, if◌then◌else◌, nat_lt, length}
use Rattle.std.specs.List.{flat_map}
use Rattle.gj_json.specs.Tree.{Tree, array}
use Rattle.gj_coords.specs.declared.fault.Fault.{Fault}
use Rattle.gj_coords.specs.declared.fault.Rule.TheVariants.{G20, G21}
use Rattle.gj_coords.specs.Fault.{fault_at}
use Rattle.gj_coords.specs.Items.{items, place_of}
use Rattle.gj_coords.specs.Shape.{number_or}

-- not two numbers for each of two dimensions or more
abbrev pub is_wrong_length : ℕ → Bool
is_wrong_length n = nat_lt n 4 || n % 2 == 1

abbrev pub bbox_faults : Tree → List Fault
bbox_faults (array place elements close) =
    (if is_wrong_length (length (items elements)) then fault_at place G21 ∷ [] else []) ++ flat_map (number_or G20) (items elements)
bbox_faults value = fault_at (place_of value) G20 ∷ []
