-- The form `github`: commands of GitHub, which shows them at the line.
use Rattle.std.specs.Prelude.{ℕ, List, [], ◌∷◌, ◌++◌, Option, Some, None, codes, if◌then◌else◌, nat_eq}
use Rattle.std.specs.Fmt.{decimal}
use Rattle.std.specs.List.{flat_map}
use Rattle.geolint_report.specs.declared.report.Report.{Report}
use Rattle.geolint_report.specs.declared.sites.Spot.{Spot}
use Rattle.geolint_report.specs.declared.texts.Code.{Code}
use Rattle.geolint_report.specs.Report.{spot_of}
use Rattle.geolint_report.specs.Texts.{code_name}
use Rattle.report_forms.specs.declared.every.Entry.{Entry}
use Rattle.report_forms.specs.declared.formats.issues.Issue.{Issue}
use Rattle.report_forms.specs.declared.options.Strictness.{Strictness}
use Rattle.report_forms.specs.Forms.Features.{and_more, entry_text, spot_at}
use Rattle.report_forms.specs.Forms.Issues.{issue_text, issues_of}
use Rattle.report_forms.specs.Forms.Messages.{level_of}
use Rattle.report_forms.specs.Names.{shown_name}

-- what stands for a byte in a message, and in the value of a property
abbrev pub escaped_in_message : ℕ → List ℕ
escaped_in_message byte = if nat_eq byte 37 then codes "%25" else if nat_eq byte 13 then codes "%0D" else if nat_eq byte 10 then codes "%0A" else byte ∷ []

abbrev pub escaped_in_property : ℕ → List ℕ
escaped_in_property byte = if nat_eq byte 58 then codes "%3A" else if nat_eq byte 44 then codes "%2C" else escaped_in_message byte

-- the level and the file, as its name is shown
unfoldable pub github_file : List ℕ → List ℕ → List ℕ
github_file level name = codes "::" ++ (level ++ (codes " file=" ++ flat_map escaped_in_property (shown_name name)))

abbrev pub github_spot : Option Spot → List ℕ
github_spot (Some spot) = codes ",line=" ++ (decimal spot.line ++ (codes ",col=" ++ decimal spot.column))
github_spot None = []

abbrev pub github_title : Code → List ℕ
github_title Code.NotValid = []
github_title code = codes ",title=" ++ code_name code

unfoldable pub github_command : List ℕ → List ℕ → Option Spot → Code → List ℕ → List ℕ
github_command level name spot code text =
    github_file level name ++ (github_spot spot ++ (github_title code ++ (codes "::" ++ (flat_map escaped_in_message text ++ codes "\n"))))

abbrev pub github_issue : Report → Issue → List ℕ
github_issue report issue =
    github_command (level_of issue.is_failure) report.name.now (spot_of report issue.told.place) issue.told.code (issue_text report issue)

-- the commands of a file
abbrev pub github_told : Report → Strictness → List ℕ
github_told report strictness = flat_map (github_issue report) (issues_of report.finding strictness)

-- the command of a file that could not be opened or read
unfoldable pub github_unread : List ℕ → List ℕ → List ℕ
github_unread name reason = github_file (codes "error") name ++ (codes "::" ++ (flat_map escaped_in_message reason ++ codes "\n"))

-- ---- a feature or a record

abbrev pub github_entry : List ℕ → Entry → List ℕ
github_entry level entry = github_command level entry.name.now (spot_at entry.mark) entry.note.told.code (entry_text entry)

unfoldable pub github_more : List ℕ → ℕ → List ℕ
github_more name count = github_file (codes "notice") name ++ (codes "::" ++ (and_more count ++ codes "\n"))
