-- The form `text`: under the name of a file, the report of the program for one.
use Rattle.std.specs.Prelude.{ℕ, List, [], ◌++◌, Option, Some, None, codes}
use Rattle.std.specs.Fmt.{decimal}
use Rattle.std.specs.List.{flat_map}
use Rattle.gj_coords.specs.declared.kind.Kind.{Kind}
use Rattle.gj_coords.specs.declared.warnings.Warnings.{Warnings}
use Rattle.gj_coords.specs.Warnings.{kinds}
use Rattle.gj_json.specs.declared.path.Path.{Path}
use Rattle.gj_json.specs.declared.path.PathStep.{PathStep}
use Rattle.gj_json.specs.Path.{steps_of}
use Rattle.geolint_report.specs.declared.every.cursor.Mark.{Mark}
use Rattle.geolint_report.specs.declared.judge.Finding.{Finding}
use Rattle.geolint_report.specs.declared.report.Report.{Report}
use Rattle.geolint_report.specs.declared.report.Told.{Told}
use Rattle.geolint_report.specs.declared.sites.Spot.{Spot}
use Rattle.geolint_report.specs.declared.texts.Code.{Code}
use Rattle.geolint_report.specs.Finding.{fault_of, warnings_of, record_of, records_of}
use Rattle.geolint_report.specs.Report.{warning_of, of_warning, path_of}
use Rattle.geolint_report.specs.Texts.{code_name, code_text}
use Rattle.report_forms.specs.declared.every.Entry.{Entry}
use Rattle.report_forms.specs.Names.{shown_name}
use Rattle.report_forms.specs.Forms.Features.{and_more, id_behind, item_text, note_word, path_at, spot_at}
use Rattle.report_forms.specs.Forms.Messages.{and_path, path_text}

-- a line with a number, where there is one
abbrev pub number_line : List ℕ → Option ℕ → List ℕ
number_line text (Some number) = text ++ (decimal number ++ codes "\n")
number_line text None = []

unfoldable pub path_line : List PathStep → List ℕ
path_line steps = codes "path " ++ (path_text steps ++ codes "\n")

abbrev pub path_line_of : Option Path → List ℕ
path_line_of (Some path) = path_line (steps_of path)
path_line_of None = []

unfoldable pub broken : Code → List ℕ
broken code = codes "broken " ++ code_name code

abbrev pub broken_or_refused : Code → List ℕ
broken_or_refused (Code.Cause cause) = codes "not JSON"
broken_or_refused code = broken code

unfoldable pub text_fault : Report → Told → List ℕ
text_fault report told =
    broken_or_refused told.code
    ++ (codes " at " ++ (decimal told.place ++ (codes ": " ++ (code_text told.code ++ (codes "\n" ++ path_line_of (path_of report told))))))

-- a kind of warning with its least place, given so often
unfoldable pub text_warning : Told → ℕ → List ℕ
text_warning told count =
    codes "warning "
    ++ (code_name told.code
    ++ (codes " count " ++ (decimal count ++ (codes " first " ++ (decimal told.place ++ (codes ": " ++ (code_text told.code ++ codes "\n")))))))

abbrev pub text_kind : Warnings → Kind → List ℕ
text_kind warnings kind = of_warning text_warning (warning_of kind warnings)

unfoldable pub text_warnings : Warnings → List ℕ
text_warnings warnings = flat_map (text_kind warnings) kinds

unfoldable pub text_valid : Finding → Warnings → List ℕ
text_valid finding warnings = codes "valid\n" ++ (number_line (codes "records ") (records_of finding) ++ text_warnings warnings)

abbrev pub text_rest : Finding → Option Warnings → List ℕ
text_rest finding (Some warnings) = text_valid finding warnings
text_rest finding None = codes "not valid\n"

abbrev pub text_found : Report → Option Told → List ℕ
text_found report (Some told) = text_fault report told
text_found report None = text_rest report.finding (warnings_of report.finding)

-- the lines of a file
unfoldable pub text_told : Report → List ℕ
text_told report =
    codes "==> "
    ++ (shown_name report.name.now
    ++ (codes " <==\n" ++ (number_line (codes "record ") (record_of report.finding) ++ text_found report (fault_of report.finding))))

-- ---- a feature or a record

abbrev pub text_spot : Option Spot → List ℕ
text_spot (Some spot) = codes ", line " ++ (decimal spot.line ++ (codes ", column " ++ decimal spot.column))
text_spot None = []

-- where it stands
unfoldable pub text_place : ℕ → Option Mark → List ℕ
text_place place mark = codes " at " ++ (decimal place ++ (text_spot (spot_at mark) ++ (and_path (path_at mark) ++ codes ": ")))

unfoldable pub text_entry : Entry → List ℕ
text_entry entry =
    item_text entry.note.item
    ++ (id_behind (codes " id ") entry.id.now
    ++ (codes " " ++ (note_word entry.note.told.code
    ++ (codes " " ++ (code_name entry.note.told.code ++ (text_place entry.note.told.place entry.mark ++ (code_text entry.note.told.code ++ codes "\n")))))))

unfoldable pub text_more : ℕ → List ℕ
text_more count = and_more count ++ codes "\n"
