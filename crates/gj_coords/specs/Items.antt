-- The elements of an array as a list.
use Rattle.std.specs.Prelude.{List, [], ◌∷◌}
pub use Rattle.gj_json.specs.Tree.{place_of}
use Rattle.gj_json.specs.Tree.{Tree, array, Elements, end_of_array, element}

abbrev pub items : Elements → List Tree
items end_of_array = []
items (element value more) = value ∷ items more

-- those of a value, which has none where it is no array
abbrev pub elements_of : Tree → List Tree
elements_of (array place elements close) = items elements
elements_of _ = []
