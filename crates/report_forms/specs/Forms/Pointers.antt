-- A path as a JSON pointer (RFC 6901, section 3).
use Rattle.std.specs.Prelude.{ℕ, Bool, true, false, List, ◌++◌, codes, if◌then◌else◌}
use Rattle.std.specs.Fmt.{decimal}
use Rattle.std.specs.List.{flat_map, list_all}
use Rattle.gj_json.specs.declared.names.Known.{Known}
use Rattle.gj_json.specs.declared.path.PathStep.{PathStep}
use Rattle.gj_json.specs.Texts.{name_text}

-- of a foreign member no name is kept
abbrev pub is_named : PathStep → Bool
is_named (PathStep.Member Known.Other) = false
is_named step = true

abbrev pub pointer_step : PathStep → List ℕ
pointer_step (PathStep.Index index) = codes "/" ++ decimal index
pointer_step (PathStep.Member name) = codes "/" ++ name_text name

-- as a string
unfoldable pub pointer : List PathStep → List ℕ
pointer steps = codes "\"" ++ (flat_map pointer_step steps ++ codes "\"")

abbrev pub pointer_or_null : List PathStep → List ℕ
pointer_or_null steps = if list_all is_named steps then pointer steps else codes "null"
