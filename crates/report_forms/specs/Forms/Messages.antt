-- The text of a path, and what a message may say besides its text.
use Rattle.std.specs.Prelude.{ℕ, Bool, List, [], ◌++◌, Option, Some, None, codes, if◌then◌else◌, nat_lt}
use Rattle.std.specs.Fmt.{decimal}
use Rattle.gj_json.specs.declared.path.Path.{Path}
use Rattle.gj_json.specs.declared.path.PathStep.{PathStep}
use Rattle.gj_json.specs.Path.{steps_of}
use Rattle.geolint_report.specs.declared.texts.Code.{Code}
unfoldable pub use Rattle.gj_json.specs.Texts.{steps_text}
pub use Rattle.gj_json.specs.Texts.{step_text}

-- ---- a path, from the root

unfoldable pub path_text : List PathStep → List ℕ
path_text steps = codes "$" ++ steps_text steps

-- ---- messages

abbrev pub and_record : Option ℕ → List ℕ
and_record (Some number) = codes ", record " ++ decimal number
and_record None = []

abbrev pub and_times : ℕ → List ℕ
and_times count = if nat_lt 1 count then codes ", " ++ (decimal count ++ codes " times") else []

unfoldable pub path_behind : List PathStep → List ℕ
path_behind steps = codes ", " ++ path_text steps

abbrev pub and_path : Option Path → List ℕ
and_path (Some path) = path_behind (steps_of path)
and_path None = []

-- none where no place is reported
abbrev pub if_placed : Code → List ℕ → List ℕ
if_placed Code.NotValid bytes = []
if_placed code bytes = bytes

-- of a warning, which fails a file or not
abbrev pub level_of : Bool → List ℕ
level_of fails = if fails then codes "error" else codes "warning"
