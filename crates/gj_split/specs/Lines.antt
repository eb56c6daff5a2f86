-- The line of JSON about a feature or a record of the second part.
use Rattle.std.specs.Prelude.{ℕ, List, [], ◌++◌, Option, Some, None, codes}
use Rattle.std.specs.Fmt.{decimal}
use Rattle.gj_coords.specs.declared.fault.Fault.{Fault}
use Rattle.gj_coords.specs.Fault.{number_of}
use Rattle.gj_coords.specs.Texts.{rule_text}
use Rattle.gj_json.specs.declared.fault.JsonFault.{JsonFault}
use Rattle.gj_json.specs.Texts.{cause_text}
use Rattle.gj_rules.specs.declared.feature.Feature.{Feature}
use Rattle.gj_rules.specs.declared.records.record.Record.{Record}
use Rattle.gj_rules.specs.declared.verdict.Verdict.{Verdict}
pub use Rattle.gj_json.specs.Texts.{cause_number}

-- its end, as {..,"rule":"G6","text":"geometry missing","at":42}
unfoldable pub reason_text : List ℕ → ℕ → List ℕ → ℕ → List ℕ
reason_text letter number text place =
    codes ",\"rule\":\"" ++ (letter ++ (decimal number ++ (codes "\",\"text\":\"" ++ (text ++ (codes "\",\"at\":" ++ (decimal place ++ codes "}\n"))))))

abbrev pub fault_text : Fault → List ℕ
fault_text fault = reason_text (codes "G") (number_of fault.rule) (rule_text fault.rule) fault.place

abbrev pub refusal_text : JsonFault → List ℕ
refusal_text fault = reason_text (codes "J") (cause_number fault.cause) (cause_text fault.cause) fault.place

-- ---- of a feature: how many are before it, and the place of its first byte

unfoldable pub feature_head : Feature → List ℕ
feature_head feature = codes "{\"index\":" ++ (decimal feature.index ++ (codes ",\"offset\":" ++ decimal feature.place))

abbrev pub line_by : List ℕ → Option Fault → List ℕ
line_by head None = []
line_by head (Some fault) = head ++ fault_text fault

abbrev pub feature_line : Feature → List ℕ
feature_line feature = line_by (feature_head feature) feature.fault

-- ---- of a record: its number, and the place of its first byte

unfoldable pub record_head : Record → List ℕ
record_head found = codes "{\"record\":" ++ (decimal found.number ++ (codes ",\"offset\":" ++ decimal found.place))

abbrev pub line_for : List ℕ → Verdict → List ℕ
line_for head (Verdict.Valid warnings) = []
line_for head (Verdict.Broken fault) = head ++ fault_text fault
line_for head (Verdict.NotJson fault) = head ++ refusal_text fault

abbrev pub record_line : Record → List ℕ
record_line found = line_for (record_head found) found.verdict
