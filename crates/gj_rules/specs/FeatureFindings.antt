-- What is found in each feature of a text: in each element of the array that the first `features` of the text's object holds
-- (RFC 7946, section 3.3), whatever the object's type says and wherever it stands.
use Rattle.std.specs.Prelude.{ℕ, ◌+◌, nat_le, nat_eq, ◌≡◌, if◌then◌else◌, Bool, List, [], ◌∷◌, length, Option, Some, None}
use Rattle.std.specs.List.{flat_map, count_by}
use Rattle.gj_json.specs.Bytes.{comma}
use Rattle.gj_json.specs.declared.names.Known.TheVariants.{Features, Id}
use Rattle.gj_json.specs.declared.names.Word.{Word}
use Rattle.gj_json.specs.Grammar.{letters_of}
use Rattle.gj_json.specs.Names.{known_of}
use Rattle.gj_json.specs.Tree.{Tree, constant, number, string, array, object, end_of_array, Members, end_of_object, member, Text}
use Rattle.gj_coords.specs.declared.fault.Fault.{Fault}
use Rattle.gj_coords.specs.Fault.{lesser, least}
use Rattle.gj_coords.specs.Items.{place_of, elements_of}
use Rattle.gj_coords.specs.Warnings.{Warning}
use Rattle.gj_rules.specs.declared.member_slots.TypeValue.{TypeValue}
use Rattle.gj_rules.specs.declared.role.Role.{Role}
use Rattle.gj_rules.specs.Members.{same, first_type}
use Rattle.gj_rules.specs.Faults.{faults, text_faults}
use Rattle.gj_rules.specs.TextWarnings.{first_value, warnings, text_warnings}

-- ---- one feature

-- `index` counts the elements from 0. `place` is that of the element's first byte, `end` that after its last, `close` that of its
-- closing bracket, where it is an object or an array, and `id` that of the first byte of the value of its first member `id`, where
-- it has one.
pub record FeatureFinding : Type 0 where
  pub index : ℕ
  pub place : ℕ
  pub end : ℕ
  pub close : Option ℕ
  pub id : Option ℕ
  pub fault : Option Fault
  pub warnings : List Warning

-- the place after the last byte of a value
abbrev pub end_of : Tree → ℕ
end_of (constant which place) = place + length (letters_of which)
end_of (number place literal end) = end
end_of (string place content end) = end
end_of (array place elements close) = close + 1
end_of (object place members close) = close + 1

-- the place of its closing bracket, where it has one
abbrev pub closing_of : Tree → Option ℕ
closing_of (array place elements close) = Some close
closing_of (object place members close) = Some close
closing_of _ = None

abbrev pub place_if : Option Tree → Option ℕ
place_if None = None
place_if (Some value) = Some (place_of value)

abbrev pub id_place : Tree → Option ℕ
id_place (object place members close) = place_if (first_value Id members)
id_place _ = None

-- warnings are reported of a feature that breaks no rule
abbrev pub unless_broken : Option Fault → List Warning → List Warning
unless_broken None all = all
unless_broken (Some fault) all = []

-- the least of its faults as a feature, or where it has none its warnings
abbrev pub finding_of : ℕ → Tree → FeatureFinding
finding_of index value = record {
  index = index;
  place = place_of value;
  end = end_of value;
  close = closing_of value;
  id = id_place value;
  fault = least (faults Role.Feature value);
  warnings = unless_broken (least (faults Role.Feature value)) (warnings Role.Feature value);
}

-- ---- the features of a text

abbrev pub elements_if : Option Tree → List Tree
elements_if None = []
elements_if (Some value) = elements_of value

-- the elements of the array `features`, and none where the text's object has no array of that name
abbrev pub features_of : Tree → List Tree
features_of (object place members close) = elements_if (first_value Features members)
features_of _ = []

-- of elements that follow so many others
abbrev pub findings_from : ℕ → List Tree → List FeatureFinding
findings_from index [] = []
findings_from index (value ∷ more) = finding_of index value ∷ findings_from (index + 1) more

abbrev pub feature_findings : Text → List FeatureFinding
feature_findings text = findings_from 0 (features_of text.value)

-- ---- in the first bytes of a text

-- in how many bytes of the text a value is complete: only the byte after a number shows that it has ended
abbrev pub complete_at : Tree → ℕ
complete_at (number place literal end) = end + 1
complete_at value = end_of value

-- the elements up to the first that is not complete in n bytes
abbrev pub complete_in : ℕ → List Tree → List Tree
complete_in n [] = []
complete_in n (value ∷ more) = if nat_le (complete_at value) n then value ∷ complete_in n more else []

-- what is found in the features that are complete in the first n bytes
abbrev pub findings_by : ℕ → Text → List FeatureFinding
findings_by n text = findings_from 0 (complete_in n (features_of text.value))

-- ---- in a run of bytes

abbrev pub is_comma : ℕ → Bool
is_comma byte = nat_eq byte comma

-- how many of these bytes are commas
abbrev pub commas : List ℕ → ℕ
commas bytes = count_by is_comma bytes

-- ---- the text without its features

abbrev pub emptied : Tree → Tree
emptied (array place elements close) = array place end_of_array close
emptied value = value

abbrev pub members_emptied : Members → Members
members_emptied end_of_object = end_of_object
members_emptied (member place name end value more) =
    if same Features (known_of name) then member place name end (emptied value) more else member place name end value (members_emptied more)

abbrev pub without_features : Tree → Tree
without_features (object place members close) = object place (members_emptied members) close
without_features value = value

-- the text with its places, where `features` has no elements
abbrev pub own_text : Text → Text
own_text text = record { marked = text.marked; value = without_features text.value }

-- the faults and the warnings that a text has of its own, and not by a feature
abbrev pub own_faults : Text → List Fault
own_faults text = text_faults (own_text text)

abbrev pub own_warnings : Text → List Warning
own_warnings text = text_warnings (own_text text)

-- ---- a FeatureCollection

abbrev pub names_collection : Option TypeValue → Type 0
names_collection None = ⊥
names_collection (Some value) = value.word ≡ Word.FeatureCollection

abbrev pub IsCollection : Tree → Type 0
IsCollection (object place members close) = names_collection (first_type members)
IsCollection _ = ⊥

-- ---- of all findings together

abbrev pub least_found : List FeatureFinding → Option Fault
least_found [] = None
least_found (finding ∷ more) = lesser finding.fault (least_found more)

abbrev pub warnings_found : List FeatureFinding → List Warning
warnings_found findings = flat_map (λ finding. finding.warnings) findings
