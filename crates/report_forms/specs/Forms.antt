-- The forms of the report: what each has before the files, of each file, of its features or records, and after the last one.
pub mod Messages
pub mod Pointers
pub mod Hints
pub mod Features
pub mod Issues
pub mod Text
pub mod Lines
pub mod Json
pub mod Github
pub mod Gitlab
pub mod Sarif
use Rattle.std.specs.Prelude.{◌≡◌, ℕ, Bool, true, false, List, [], ◌++◌, map, Option, Vec, codes, if◌then◌else◌, nat_eq}
use Rattle.std.specs.Cmp.Lexicographic.{pointwise}
use Rattle.std.specs.declared.alloc.Global.{Global}
use Rattle.gj_places.specs.Strings.{SpellsString}
use Rattle.geolint_report.specs.declared.every.tally.Tally.{Tally}
use Rattle.geolint_report.specs.declared.judge.Finding.{Finding}
use Rattle.geolint_report.specs.declared.report.Report.{Report}
use Rattle.geolint_report.specs.Finding.{fault_of}
use Rattle.geolint_report.specs.Line.{Adds}
use Rattle.report_forms.specs.declared.every.Entry.{Entry}
use Rattle.report_forms.specs.declared.formats.Format.{Format}
use Rattle.report_forms.specs.declared.formats.issues.Issue.{Issue}
use Rattle.report_forms.specs.declared.formats.lines.Style.{Style}
use Rattle.report_forms.specs.declared.options.Strictness.{Strictness}
use Rattle.report_forms.specs.Forms.Features.{level_in}
use Rattle.report_forms.specs.Forms.Github.{github_entry, github_more, github_told, github_unread}
use Rattle.report_forms.specs.Forms.Gitlab.{gitlab_entry, gitlab_issue, gitlab_more, gitlab_unread, severity_in}
use Rattle.report_forms.specs.Forms.Issues.{break_unless, issues_of, next_results}
use Rattle.report_forms.specs.Forms.Json.{IsJsonFound, json_entry, json_line, json_more, json_unread}
use Rattle.report_forms.specs.Forms.Lines.{AreLines, lines_calls, lines_entry, lines_found, lines_hint, lines_more}
use Rattle.report_forms.specs.Forms.Sarif.{next_unread, sarif_begin, sarif_end, sarif_entry, sarif_more, sarif_result}
use Rattle.report_forms.specs.Forms.Text.{text_entry, text_more, text_told}

-- the form of this name: lines, where it is none
abbrev pub format_named : List ℕ → Format
format_named word =
    if pointwise nat_eq word (codes "text")
    then Format.Text
    else (if pointwise nat_eq word (codes "json")
    then Format.Json
    else (if pointwise nat_eq word (codes "github")
    then Format.Github
    else (if pointwise nat_eq word (codes "gitlab")
    then Format.Gitlab
    else (if pointwise nat_eq word (codes "sarif") then Format.Sarif else Format.Lines))))

-- for people the summary follows the report; beside a report for programs it is on standard error
abbrev pub is_for_people : Format → Bool
is_for_people Format.Text = true
is_for_people Format.Lines = true
is_for_people format = false

-- before the first file
abbrev pub begin_of : Format → List ℕ
begin_of Format.Gitlab = codes "["
begin_of Format.Sarif = sarif_begin
begin_of format = []

-- an issue of a file, in a form that gathers those of all files
abbrev pub logged_issue : Format → Report → Issue → List ℕ
logged_issue Format.Gitlab report issue = gitlab_issue report issue
logged_issue format report issue = sarif_result report issue

abbrev pub logged : Format → Report → Strictness → List (List ℕ)
logged format report strictness = map (logged_issue format report) (issues_of report.finding strictness)

-- the report of a file that was checked; in a log the first result has no comma before it
abbrev pub IsReport : Format → Style → Bool → Report → Strictness → List ℕ → Type 0
IsReport Format.Text style is_first report strictness bytes = bytes ≡ text_told report
IsReport Format.Lines style is_first report strictness bytes =
    (lines : List ℕ) × AreLines style report (fault_of report.finding) lines × (bytes ≡ lines ++ (lines_found report.found ++ lines_hint report.name.now report.hint))
IsReport Format.Json style is_first report strictness bytes =
    (name found : List ℕ) × SpellsString report.name.now name × IsJsonFound report.found found × (bytes ≡ json_line name found report)
IsReport Format.Github style is_first report strictness bytes = bytes ≡ github_told report strictness
IsReport Format.Gitlab style is_first report strictness bytes = bytes ≡ next_results is_first (logged Format.Gitlab report strictness)
IsReport Format.Sarif style is_first report strictness bytes = bytes ≡ next_results is_first (logged Format.Sarif report strictness)

abbrev pub TellsReport : Format → Style → Bool → Report → Strictness → Vec ℕ Global → Vec ℕ Global → Type 0
TellsReport format style is_first report strictness old new =
    (bytes : List ℕ) × IsReport format style is_first report strictness bytes × Adds old new bytes

-- the report of one that could not be opened or read: for people nothing, who read it on standard error; a log reports it at its end
abbrev pub IsUnreadReport : Format → Bool → List ℕ → List ℕ → List ℕ → Type 0
IsUnreadReport Format.Json is_first name reason bytes =
    (file why : List ℕ) × SpellsString name file × SpellsString reason why × (bytes ≡ json_unread file why)
IsUnreadReport Format.Github is_first name reason bytes = bytes ≡ github_unread name reason
IsUnreadReport Format.Gitlab is_first name reason bytes = bytes ≡ break_unless is_first ++ gitlab_unread name reason
IsUnreadReport format is_first name reason bytes = bytes ≡ []

abbrev pub TellsUnread : Format → Bool → List ℕ → List ℕ → Vec ℕ Global → Vec ℕ Global → Type 0
TellsUnread format is_first name reason old new = (bytes : List ℕ) × IsUnreadReport format is_first name reason bytes × Adds old new bytes

-- and what a log keeps of one, for its end
abbrev pub KeepsUnread : Format → List ℕ → List ℕ → List ℕ → List ℕ → Type 0
KeepsUnread Format.Sarif name reason old new = (why : List ℕ) × SpellsString reason why × (new ≡ old ++ next_unread old name why)
KeepsUnread format name reason old new = new ≡ old

-- the line on a feature or a record
abbrev pub IsEntry : Format → Style → Bool → Entry → Strictness → List ℕ → Type 0
IsEntry Format.Text style is_first entry strictness bytes = bytes ≡ text_entry entry
IsEntry Format.Lines style is_first entry strictness bytes = bytes ≡ lines_entry style entry
IsEntry Format.Json style is_first entry strictness bytes =
    (name id : List ℕ) × SpellsString entry.name.now name × SpellsString entry.id.now id × (bytes ≡ json_entry name id entry)
IsEntry Format.Github style is_first entry strictness bytes = bytes ≡ github_entry (level_in strictness entry) entry
IsEntry Format.Gitlab style is_first entry strictness bytes = bytes ≡ break_unless is_first ++ gitlab_entry (severity_in strictness entry) entry
IsEntry Format.Sarif style is_first entry strictness bytes =
    (id : List ℕ) × SpellsString entry.id.now id × (bytes ≡ break_unless is_first ++ sarif_entry (level_in strictness entry) id entry)

abbrev pub TellsEntry : Format → Style → Bool → Entry → Strictness → Vec ℕ Global → Vec ℕ Global → Type 0
TellsEntry format style is_first entry strictness old new = (bytes : List ℕ) × IsEntry format style is_first entry strictness bytes × Adds old new bytes

-- the line on those that are not reported
abbrev pub IsMore : Format → Style → Bool → List ℕ → ℕ → List ℕ → Type 0
IsMore Format.Text style is_first name count bytes = bytes ≡ text_more count
IsMore Format.Lines style is_first name count bytes = bytes ≡ lines_more style name count
IsMore Format.Json style is_first name count bytes = (spelled : List ℕ) × SpellsString name spelled × (bytes ≡ json_more spelled count)
IsMore Format.Github style is_first name count bytes = bytes ≡ github_more name count
IsMore Format.Gitlab style is_first name count bytes = bytes ≡ break_unless is_first ++ gitlab_more name count
IsMore Format.Sarif style is_first name count bytes = bytes ≡ break_unless is_first ++ sarif_more name count

abbrev pub TellsMore : Format → Style → Bool → List ℕ → ℕ → Vec ℕ Global → Vec ℕ Global → Type 0
TellsMore format style is_first name count old new = (bytes : List ℕ) × IsMore format style is_first name count bytes × Adds old new bytes

-- after the last file
abbrev pub end_of : Format → Style → List (Option Finding) → List Tally → List ℕ → List ℕ
end_of Format.Gitlab style files tallies unread = codes "]\n"
end_of Format.Sarif style files tallies unread = sarif_end unread
end_of Format.Lines style files tallies unread = lines_calls style files tallies
end_of format style files tallies unread = []
