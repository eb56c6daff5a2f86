-- The path from the root of a text to the value that a prefix of the text leads to.
use Rattle.std.specs.Prelude.{ℕ, ◌+◌, ◌==◌, ◌&&◌, if◌then◌else◌, nat_lt, nat_le, List, [], ◌∷◌, take, Option, Some, None, unwrap_or, option_map}
use Rattle.std.specs.Option.{option_or}
use Rattle.gj_json.specs.declared.path.PathStep.{PathStep}
use Rattle.gj_json.specs.declared.path.Path.{Path}
use Rattle.gj_json.specs.Tree.{Tree, array, object, Elements, end_of_array, element, Members, end_of_object, member, Text, place_of}
use Rattle.gj_json.specs.Names.{known_of}

-- the steps of a path, the outermost first
abbrev pub steps_of : Path → List PathStep
steps_of path = take path.count path.steps

-- A prefix of n bytes leads into a value, by these steps from it, or it does not: None. It leads into an array or an object that
-- is open in it, with the opening bracket and without the closing one: to what it leads to inside, or else to the container.
abbrev pub to_container : ℕ → (place close : ℕ) → Option (List PathStep) → Option (List PathStep)
to_container n place close inside = if nat_lt place n && nat_le n close then Some (unwrap_or inside []) else None

-- one step, and then these
abbrev pub by_step : PathStep → Option (List PathStep) → Option (List PathStep)
by_step step inside = option_map (λ steps. step ∷ steps) inside

abbrev mutual
  pub path_in : ℕ → Tree → Option (List PathStep)
  path_in n (array place elements close) = to_container n place close (elements_path n 0 elements)
  path_in n (object place members close) = to_container n place close (members_path n members)
  -- to another value, where that begins with the last byte of the prefix
  path_in n value = if place_of value + 1 == n then Some [] else None

  -- through one of these elements, of which the first has the index i
  pub elements_path : ℕ → ℕ → Elements → Option (List PathStep)
  elements_path n i end_of_array = None
  elements_path n i (element value more) = option_or (by_step (PathStep.Index i) (path_in n value)) (elements_path n (i + 1) more)

  pub members_path : ℕ → Members → Option (List PathStep)
  members_path n end_of_object = None
  members_path n (member place name end value more) = option_or (by_step (PathStep.Member (known_of name)) (path_in n value)) (members_path n more)

-- the path that the first n bytes of the text lead to; where they lead nowhere else, it leads to the root
abbrev pub path_at : ℕ → Text → List PathStep
path_at n text = unwrap_or (path_in n text.value) []
