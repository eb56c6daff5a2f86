-- How many arrays and objects are open in a prefix of a text.
use Rattle.std.specs.Prelude.{ℕ, ◌+◌, if◌then◌else◌, ◌&&◌, nat_le, nat_lt}
use Rattle.gj_json.specs.Tree.{Tree, array, object, Elements, end_of_array, element, Members, end_of_object, member, Text}

-- 1 where a container is open in a prefix of n bytes: its opening bracket stands there, and its closing one does not
abbrev pub is_open : ℕ → ℕ → ℕ → ℕ
is_open n place close = if nat_lt place n && nat_le n close then 1 else 0

abbrev mutual
  pub open_in : ℕ → Tree → ℕ
  open_in n (array place elements close) = is_open n place close + elements_open n elements
  open_in n (object place members close) = is_open n place close + members_open n members
  open_in n _ = 0

  pub elements_open : ℕ → Elements → ℕ
  elements_open n end_of_array = 0
  elements_open n (element value more) = open_in n value + elements_open n more

  pub members_open : ℕ → Members → ℕ
  members_open n end_of_object = 0
  members_open n (member place name end value more) = open_in n value + members_open n more

-- the containers of the text that are open in its first n bytes
abbrev pub open_at : ℕ → Text → ℕ
open_at n text = open_in n text.value
