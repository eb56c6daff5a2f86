-- Which objects have a role by their position, whatever the types of the objects around them (RFC 7946, sections 3.1.8,
-- 3.2 and 3.3), and how many of them are open in a prefix of a text.
use Rattle.std.specs.Prelude.{ℕ, ◌+◌, Bool, true, false, not, ◌&&◌, List, [], ◌∷◌}
use Rattle.gj_json.specs.declared.names.Known.{Known}
use Rattle.gj_json.specs.declared.names.Known.TheVariants.{Geometries, Geometry, Features}
use Rattle.gj_json.specs.Names.{known_of}
use Rattle.gj_json.specs.Open.{is_open}
use Rattle.gj_json.specs.Tree.{Tree, constant, number, string, array, object, Elements, end_of_array, element, Members, end_of_object, member, Text}
use Rattle.gj_rules.specs.declared.role.Role.{Role}
use Rattle.gj_rules.specs.Members.{mentions}

-- whether a member gives its value, or the elements of its value, a role in an object with this one: `geometry` in the
-- text's object and in a feature, `geometries` in the text's object and in a geometry, `features` in the text's object
abbrev pub gives : Role → Known → Bool
gives Role.Root Geometry = true
gives Role.Feature Geometry = true
gives Role.Root Geometries = true
gives Role.Geometry Geometries = true
gives Role.Part Geometries = true
gives Role.Root Features = true
gives _ _ = false

-- of a member that gives a role, the value's count as a geometry, as a list of geometries or as a list of features
abbrev pub counted : Known → Bool → ℕ → ℕ → ℕ → ℕ
counted Geometry true geometry geometries features = geometry
counted Geometries true geometry geometries features = geometries
counted Features true geometry geometries features = features
counted _ _ geometry geometries features = 0

abbrev mutual
  -- the open objects with a role, in a value with a role
  pub judged_in : ℕ → Role → Tree → ℕ
  judged_in n role (object place members close) = is_open n place close + members_judged n role [] members
  judged_in n role (constant which place) = 0
  judged_in n role (number place literal end) = 0
  judged_in n role (string place content end) = 0
  judged_in n role (array place elements close) = 0

  -- in a value whose elements have a role
  pub list_judged : ℕ → Role → Tree → ℕ
  list_judged n role (array place elements close) = elements_judged n role elements
  list_judged n role (constant which place) = 0
  list_judged n role (number place literal end) = 0
  list_judged n role (string place content end) = 0
  list_judged n role (object place members close) = 0

  pub elements_judged : ℕ → Role → Elements → ℕ
  elements_judged n role end_of_array = 0
  elements_judged n role (element value more) = judged_in n role value + elements_judged n role more

  -- in the first member of each name, after members of the names `before`
  pub members_judged : ℕ → Role → List Known → Members → ℕ
  members_judged n role before end_of_object = 0
  members_judged n role before (member place name end value more) =
      counted (known_of name) (not (mentions before (known_of name)) && gives role (known_of name))
      (judged_in n Role.Geometry value) (list_judged n Role.Part value) (list_judged n Role.Feature value)
      + members_judged n role (known_of name ∷ before) more

-- the objects with a role that are open in the first n bytes of the text
abbrev pub judged_at : ℕ → Text → ℕ
judged_at n text = judged_in n Role.Root text.value
