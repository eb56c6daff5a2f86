-- What is reported of rules, kinds of warning and causes: their names and their texts.
use Rattle.std.specs.Prelude.{Bool, true, false, List, ℕ, Option, None, Some, codes, option_map, slice_get}
use Rattle.std.specs.Str.{str_eq_ignore_ascii_case}
use Rattle.gj_coords.specs.Texts.{rule_text, kind_text}
use Rattle.gj_json.specs.Texts.{cause_text}
use Rattle.geolint_report.specs.Slots.{slot_of}
use Rattle.geolint_report.specs.declared.texts.Code.{Code}
use Rattle.geolint_report.specs.declared.texts.TheConstants.{NAMES}
pub use Rattle.gj_json.specs.Texts.{cause_number}

abbrev pub code_text : Code → List ℕ
code_text (Code.Rule rule) = rule_text rule
code_text (Code.Kind kind) = kind_text kind
code_text (Code.Cause cause) = cause_text cause
code_text Code.NotValid = codes "not valid"

-- as G15: the one that stands at its place in the table
-- a text of a table, or another
abbrev pub text_or : List ℕ → Option (List ℕ) → List ℕ
text_or other (Some text) = text
text_or other None = other

unfoldable pub code_name : Code → List ℕ
code_name code = text_or (codes "not-valid") (option_map (λ name. name.now) (slice_get NAMES (slot_of code)))

-- in capitals or not
abbrev pub is_named : List ℕ → Code → Bool
is_named name code = str_eq_ignore_ascii_case (code_name code) name

-- it stands in the table
abbrev pub is_listed : Code → Bool
is_listed Code.NotValid = false
is_listed code = true

-- it refuses the bytes: they are no JSON
abbrev pub is_cause : Code → Bool
is_cause (Code.Cause cause) = true
is_cause code = false
