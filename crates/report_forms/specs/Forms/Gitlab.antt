-- The form `gitlab`: an array of issues, as GitLab's Code Quality reads it.
use Rattle.std.specs.Prelude.{ℕ, Bool, List, ◌++◌, Option, Some, None, codes, if◌then◌else◌}
use Rattle.std.specs.Fmt.{decimal}
use Rattle.hex.specs.Hex.{encode_lower}
use Rattle.sha2.specs.Sha256.{sha256}
use Rattle.geolint_report.specs.declared.report.Report.{Report}
use Rattle.geolint_report.specs.declared.sites.Spot.{Spot}
use Rattle.geolint_report.specs.Report.{spot_of}
use Rattle.geolint_report.specs.Texts.{code_name}
use Rattle.report_forms.specs.declared.every.Entry.{Entry}
use Rattle.report_forms.specs.declared.formats.issues.Issue.{Issue}
use Rattle.report_forms.specs.declared.options.Strictness.{Strictness}
use Rattle.report_forms.specs.Forms.Features.{and_more, entry_text, note_fails, spot_at}
use Rattle.report_forms.specs.Forms.Issues.{issue_text}
use Rattle.report_forms.specs.Names.{in_json, shown_name}

-- a rule, a place and a file
unfoldable pub identity_of : List ℕ → ℕ → List ℕ → List ℕ
identity_of check place name = check ++ (codes " " ++ (decimal place ++ (codes " " ++ name)))

abbrev pub fingerprint_of : List ℕ → ℕ → List ℕ → List ℕ
fingerprint_of check place name = encode_lower (sha256 (identity_of check place name))

-- what fails a file, or does not
abbrev pub severity_of : Bool → List ℕ
severity_of fails = if fails then codes "major" else codes "minor"

-- GitLab wants a line, and has the first one where none is known
abbrev pub line_of : Option Spot → ℕ
line_of (Some spot) = spot.line
line_of None = 1

unfoldable pub gitlab_object : List ℕ → List ℕ → List ℕ → ℕ → List ℕ → Option Spot → List ℕ
gitlab_object severity check text place name spot =
    codes "{\"description\":"
    ++ (in_json text
    ++ (codes ",\"check_name\":\""
    ++ (check
    ++ (codes "\",\"fingerprint\":\""
    ++ (fingerprint_of check place name
    ++ (codes "\",\"severity\":\""
    ++ (severity
    ++ (codes "\",\"location\":{\"path\":"
    ++ (in_json (shown_name name) ++ (codes ",\"lines\":{\"begin\":" ++ (decimal (line_of spot) ++ codes "}}}")))))))))))

abbrev pub gitlab_issue : Report → Issue → List ℕ
gitlab_issue report issue =
    gitlab_object (severity_of issue.is_failure) (code_name issue.told.code) (issue_text report issue) issue.told.place report.name.now
    (spot_of report issue.told.place)

-- that of a file that could not be opened or read
abbrev pub gitlab_unread : List ℕ → List ℕ → List ℕ
gitlab_unread name reason = gitlab_object (codes "major") (codes "not-read") (shown_name reason) 0 name None

-- ---- a feature or a record

abbrev pub severity_in : Strictness → Entry → List ℕ
severity_in strictness entry = severity_of (note_fails strictness entry.note.told.code)

abbrev pub gitlab_entry : List ℕ → Entry → List ℕ
gitlab_entry severity entry =
    gitlab_object severity (code_name entry.note.told.code) (entry_text entry) entry.note.told.place entry.name.now (spot_at entry.mark)

abbrev pub gitlab_more : List ℕ → ℕ → List ℕ
gitlab_more name count = gitlab_object (codes "info") (codes "more") (and_more count) 0 name None
