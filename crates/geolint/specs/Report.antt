-- The bytes of the report: a line that says what the input is; after `valid` a line for each kind of warning that there is; after
-- `broken` a line with the path, where there is one.
use Rattle.std.specs.Prelude.{ℕ, List, [], ◌++◌, Option, Some, None, codes}
use Rattle.std.specs.List.{flat_map}
use Rattle.std.specs.Fmt.{decimal}
use Rattle.gj_coords.specs.declared.fault.Fault.{Fault}
use Rattle.gj_coords.specs.Fault.{number_of}
use Rattle.gj_coords.specs.Texts.{rule_text, kind_text}
use Rattle.gj_json.specs.Texts.{cause_text}
use Rattle.gj_coords.specs.declared.kind.Kind.{Kind}
use Rattle.gj_coords.specs.Warnings.{Warning, kind_number, kinds, count_of, first_of}
use Rattle.gj_json.specs.declared.fault.JsonFault.{JsonFault}
use Rattle.gj_json.specs.declared.path.Path.{Path}
use Rattle.gj_json.specs.Path.{steps_of}
use Rattle.gj_rules.specs.Verdict.{Judgement, valid, broken, refused}
unfoldable pub use Rattle.gj_json.specs.Texts.{steps_text}
pub use Rattle.gj_json.specs.Texts.{step_text}

-- the place is decimal, without leading zeros
abbrev pub refusal_line : JsonFault → List ℕ
refusal_line fault = codes "not JSON at " ++ (decimal fault.place ++ (codes ": " ++ (cause_text fault.cause ++ codes "\n")))

abbrev pub broken_line : Fault → List ℕ
broken_line fault =
    codes "broken G" ++ (decimal (number_of fault.rule) ++ (codes " at " ++ (decimal fault.place ++ (codes ": " ++ (rule_text fault.rule ++ codes "\n")))))

-- how many warnings of a kind there are, and the least place; nothing where there is none
abbrev pub warning_line : Kind → ℕ → Option ℕ → List ℕ
warning_line kind count None = []
warning_line kind count (Some place) =
    codes "warning W" ++ (decimal (kind_number kind) ++ (codes " count " ++ (decimal count
    ++ (codes " first " ++ (decimal place ++ (codes ": " ++ (kind_text kind ++ codes "\n")))))))

-- in the order of the kinds' numbers
unfoldable pub warning_lines : List Warning → List ℕ
warning_lines warnings = flat_map (λ kind. warning_line kind (count_of kind warnings) (first_of kind warnings)) kinds

abbrev pub valid_report : List Warning → List ℕ
valid_report warnings = codes "valid\n" ++ warning_lines warnings

-- ---- the path

unfoldable pub path_line_if : Option Path → List ℕ
path_line_if None = []
path_line_if (Some path) = codes "path $" ++ (steps_text (steps_of path) ++ codes "\n")

abbrev pub report : Judgement → Option Path → List ℕ
report (valid warnings) path = valid_report warnings
report (broken fault) path = broken_line fault ++ path_line_if path
report (refused fault) path = refusal_line fault

-- what the program says of itself
abbrev pub version_line : List ℕ
version_line = codes "geolint 0.1.0\n"
