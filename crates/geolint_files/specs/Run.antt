-- What a run reports: of each file in turn its report and the lines of its features, at the end a summary, and the worst of the outcomes.
use Rattle.std.specs.Prelude.{◌≡◌, ◌&&◌, ℕ, Bool, true, if◌then◌else◌, List, [], ◌∷◌, ◌++◌, map, Option, Some, None}
use Rattle.geolint_report.specs.declared.every.tally.Tally.{Tally}
use Rattle.geolint_report.specs.declared.judge.Finding.{Finding}
use Rattle.geolint_report.specs.declared.report.Report.{Report}
use Rattle.report_forms.specs.declared.every.Entry.{Entry}
use Rattle.report_forms.specs.declared.formats.Format.{Format}
use Rattle.report_forms.specs.declared.formats.lines.Style.{Style}
use Rattle.report_forms.specs.declared.options.Every.{Every}
use Rattle.report_forms.specs.declared.options.Options.{Options}
use Rattle.report_forms.specs.Passing.{passes}
use Rattle.report_forms.specs.Forms.{IsEntry, IsMore, IsReport, IsUnreadReport, KeepsUnread, begin_of, end_of, is_for_people}
use Rattle.report_forms.specs.Forms.Features.{is_nothing}
use Rattle.report_forms.specs.Items.{items_summary}
use Rattle.report_forms.specs.Summary.{summary_of}
use Rattle.geolint_files.specs.declared.outcome.Outcome.{Outcome}
use Rattle.geolint_files.specs.declared.outcome.Outcome.TheVariants.{Unread}
use Rattle.geolint_files.specs.Outcome.{outcome_of, worst}

-- a line about a feature of a file, or about how many others there are
pub data FeatureLine : Type 0 where
  feature_line : (entry : Entry) → FeatureLine
  others_line : (name : List ℕ) → (count : ℕ) → FeatureLine

-- a file whose report is written, or one that could not be opened or read, for this reason, or one whose features are reported and counted too
pub data ToldFile : Type 0 where
  judged : (report : Report) → ToldFile
  not_read : (name reason : List ℕ) → ToldFile
  listed : (report : Report) → (lines : List FeatureLine) → (tally : Tally) → ToldFile

-- what a summary counts
abbrev pub finding_in : ToldFile → Option Finding
finding_in (judged report) = Some report.finding
finding_in (not_read name reason) = None
finding_in (listed report lines tally) = Some report.finding

abbrev pub outcome_in : Options → ToldFile → Outcome
outcome_in options (judged report) = outcome_of (passes options.strictness report.finding)
outcome_in options (not_read name reason) = Unread
outcome_in options (listed report lines tally) = outcome_of (passes options.strictness report.finding)

-- what is counted of the features or records of files, where they are reported
abbrev pub tallies_in : List ToldFile → List Tally
tallies_in [] = []
tallies_in (listed report lines tally ∷ more) = tally ∷ tallies_in more
tallies_in (file ∷ more) = tallies_in more

-- the outcome of a run that reported these files
abbrev pub worst_of : Options → List ToldFile → Outcome
worst_of options files = worst (map (outcome_in options) files)

-- ---- the bytes

-- what is written of a report under way: its bytes, whether none is of a file yet, and what a log keeps for its end
pub record Written : Type 0 where
  pub bytes : List ℕ
  pub is_first : Bool
  pub unread : List ℕ

-- what one file adds
pub record AddsReport (options : Options) (style : Style) (report : Report) (before after : Written) : Type 0 where
  pub passes : report.passes ≡ passes options.strictness report.finding
  pub told : List ℕ
  pub is_report : IsReport options.format style before.is_first report options.strictness told
  pub bytes : after.bytes ≡ before.bytes ++ told
  pub first : after.is_first ≡ (before.is_first && is_nothing told)
  pub unread : after.unread ≡ before.unread

pub record AddsUnread (options : Options) (name reason : List ℕ) (before after : Written) : Type 0 where
  pub told : List ℕ
  pub is_report : IsUnreadReport options.format before.is_first name reason told
  pub bytes : after.bytes ≡ before.bytes ++ told
  pub first : after.is_first ≡ (before.is_first && is_nothing told)
  pub unread : KeepsUnread options.format name reason before.unread after.unread

abbrev pub IsLine : Options → Style → Bool → FeatureLine → List ℕ → Type 0
IsLine options style is_first (feature_line entry) bytes = IsEntry options.format style is_first entry options.strictness bytes
IsLine options style is_first (others_line name count) bytes = IsMore options.format style is_first name count bytes

-- what a line about a feature adds
pub record AddsLine (options : Options) (style : Style) (line : FeatureLine) (before after : Written) : Type 0 where
  pub told : List ℕ
  pub is_line : IsLine options style before.is_first line told
  pub bytes : after.bytes ≡ before.bytes ++ told
  pub first : after.is_first ≡ (before.is_first && is_nothing told)
  pub unread : after.unread ≡ before.unread

abbrev pub AddsLines : Options → Style → List FeatureLine → Written → Written → Type 0
AddsLines options style [] before after = after ≡ before
AddsLines options style (line ∷ more) before after = (middle : Written) × AddsLine options style line before middle × AddsLines options style more middle after

-- features are reported only where that is asked for
pub record AddsListed (options : Options) (style : Style) (report : Report) (lines : List FeatureLine) (before after : Written) : Type 0 where
  pub asked : options.every ≡ Every.Nothing → ⊥
  pub middle : Written
  pub report_told : AddsReport options style report before middle
  pub lines_told : AddsLines options style lines middle after

abbrev pub AddsFile : Options → Style → ToldFile → Written → Written → Type 0
AddsFile options style (judged report) before after = AddsReport options style report before after
AddsFile options style (not_read name reason) before after = AddsUnread options name reason before after
AddsFile options style (listed report lines tally) before after = AddsListed options style report lines before after

-- what files add, one after the other
abbrev pub AddsFiles : Options → Style → List ToldFile → Written → Written → Type 0
AddsFiles options style [] before after = after ≡ before
AddsFiles options style (file ∷ more) before after = (middle : Written) × AddsFile options style file before middle × AddsFiles options style more middle after

abbrev pub begun : Format → Written
begun format = record { bytes = begin_of format; is_first = true; unread = [] }

-- features and records are counted where they are reported
abbrev pub items_in : Every → List ToldFile → List ℕ
items_in Every.Nothing files = []
items_in every files = items_summary (tallies_in files)

abbrev pub whole_summary : Every → List ToldFile → List ℕ
whole_summary every files = summary_of (map finding_in files) ++ items_in every files

abbrev pub summary_in : Options → List ToldFile → List ℕ
summary_in options files = if options.summary && is_for_people options.format then whole_summary options.every files else []

-- the whole report of these files
pub record IsWholeReport (options : Options) (style : Style) (files : List ToldFile) (bytes : List ℕ) : Type 0 where
  pub written : Written
  pub files_told : AddsFiles options style files (begun options.format) written
  pub whole : bytes ≡ written.bytes ++ (end_of options.format style (map finding_in files) (tallies_in files) written.unread ++ summary_in options files)
