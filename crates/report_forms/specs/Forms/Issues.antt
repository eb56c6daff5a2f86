-- The issues of a file, and what is said of each: what the forms for programs that gather issues have in common.
use Rattle.std.specs.Prelude.{ℕ, Bool, true, false, List, [], ◌∷◌, ◌++◌, Option, Some, None, codes}
use Rattle.std.specs.Fmt.{decimal}
use Rattle.std.specs.List.{flat_map}
use Rattle.gj_coords.specs.declared.kind.Kind.{Kind}
use Rattle.gj_coords.specs.declared.warnings.Warnings.{Warnings}
use Rattle.gj_coords.specs.Warnings.{kinds}
use Rattle.geolint_report.specs.declared.found.Found.{Found}
use Rattle.geolint_report.specs.declared.judge.Finding.{Finding}
use Rattle.geolint_report.specs.declared.report.Report.{Report}
use Rattle.geolint_report.specs.declared.report.Told.{Told}
use Rattle.geolint_report.specs.declared.texts.Code.{Code}
use Rattle.geolint_report.specs.Finding.{fault_of, record_of, warnings_of}
use Rattle.geolint_report.specs.Found.{found_bytes}
use Rattle.geolint_report.specs.Report.{warning_of, path_of}
use Rattle.geolint_report.specs.Texts.{code_text}
use Rattle.report_forms.specs.declared.formats.issues.Issue.{Issue}
use Rattle.report_forms.specs.declared.options.Strictness.{Strictness}
use Rattle.report_forms.specs.Forms.Hints.{and_hint, hint_on}
use Rattle.report_forms.specs.Forms.Messages.{and_record, and_times, and_path, if_placed}
use Rattle.report_forms.specs.Names.{shown_name}
use Rattle.report_forms.specs.Passing.{fails}

-- one of a kind, or none where there is no warning of it
abbrev pub issues_with : Bool → Option (Told × ℕ) → List Issue
issues_with is_failure (Some warning) = record { told = warning.0; count = warning.1; is_failure = is_failure } ∷ []
issues_with is_failure None = []

abbrev pub issues_of_kind : Strictness → Warnings → Kind → List Issue
issues_of_kind strictness warnings kind = issues_with (fails strictness kind) (warning_of kind warnings)

unfoldable pub issues_of_warnings : Strictness → Warnings → List Issue
issues_of_warnings strictness warnings = flat_map (issues_of_kind strictness warnings) kinds

-- what fails the file
abbrev pub failing : Told → List Issue
failing told = record { told = told; count = 1; is_failure = true } ∷ []

-- its fault, or each kind of warning in turn; of one that is not valid no more may be known
abbrev pub issues_from : Strictness → Option Told → Option Warnings → List Issue
issues_from strictness (Some told) warnings = failing told
issues_from strictness None (Some warnings) = issues_of_warnings strictness warnings
issues_from strictness None None = failing (record { code = Code.NotValid; place = 0 })

abbrev pub issues_of : Finding → Strictness → List Issue
issues_of finding strictness = issues_from strictness (fault_of finding) (warnings_of finding)

-- ---- what is said of one

-- before the text
abbrev pub text_mark : Code → List ℕ
text_mark (Code.Cause cause) = codes "not JSON: "
text_mark code = []

unfoldable pub some_found : Found → List ℕ
some_found found = codes ", found: " ++ shown_name (found_bytes found)

abbrev pub and_found : Option Found → List ℕ
and_found (Some found) = some_found found
and_found None = []

-- how often, where, what was found there, and what may be of help
unfoldable pub issue_details : Report → Issue → List ℕ
issue_details report issue =
    and_record (record_of report.finding)
    ++ (and_times issue.count
    ++ (codes ", at byte "
    ++ (decimal issue.told.place
    ++ (and_path (path_of report issue.told) ++ (and_found report.found ++ and_hint report.name.now (hint_on issue.told.code report.hint))))))

unfoldable pub issue_text : Report → Issue → List ℕ
issue_text report issue = text_mark issue.told.code ++ (code_text issue.told.code ++ if_placed issue.told.code (issue_details report issue))

-- ---- the results of all files in one text

-- what stands between two
abbrev pub break_unless : Bool → List ℕ
break_unless true = []
break_unless false = codes ",\n"

abbrev pub behind_breaks : List (List ℕ) → List ℕ
behind_breaks items = flat_map (λ item. codes ",\n" ++ item) items

-- the first of all has no comma before it
abbrev pub next_results : Bool → List (List ℕ) → List ℕ
next_results is_first [] = []
next_results is_first (first ∷ more) = break_unless is_first ++ (first ++ behind_breaks more)
