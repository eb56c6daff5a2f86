-- When a linear ring is closed: its first and its last position have the same values (RFC 7946, section 3.1.6).
use Rattle.std.specs.Prelude.{List, [], ◌∷◌, Option, None, Bool, map, take}
use Rattle.std.specs.Option.{option_eq}
use Rattle.std.specs.Cmp.Lexicographic.{pointwise}
use Rattle.gj_number.specs.Exact.{Exact, same_parts}
use Rattle.gj_number.specs.Value.{value_of}
use Rattle.gj_json.specs.Tree.{Tree, number}
use Rattle.gj_coords.specs.Items.{elements_of}

-- the exact value of a number that is held
abbrev pub exact_value : Tree → Option Exact
exact_value (number place literal end) = value_of literal
exact_value _ = None

-- the exact values of a position's first three numbers
abbrev pub first_values : Tree → List (Option Exact)
first_values value = map exact_value (take 3 (elements_of value))

-- as many values, and the same
abbrev pub agree : Tree → Tree → Bool
agree a b = pointwise (option_eq same_parts) (first_values a) (first_values b)

-- the last of a value and those after it
abbrev pub last_of : Tree → List Tree → Tree
last_of value [] = value
last_of value (next ∷ more) = last_of next more
