-- The bytes of a summary of files: how many are what, and of how many each rule, kind of warning and cause is reported; and the calls that explain these.
use Rattle.std.specs.Prelude.{ℕ, Bool, List, [], ◌++◌, Option, is_none, codes, if◌then◌else◌, nat_lt}
use Rattle.std.specs.Fmt.{decimal}
use Rattle.std.specs.Io.Iter.{u64_saturate}
use Rattle.std.specs.List.{count_by}
use Rattle.geolint_report.specs.declared.every.tally.Tally.{Tally}
use Rattle.geolint_report.specs.declared.judge.Finding.{Finding}
use Rattle.geolint_report.specs.declared.texts.Code.{Code}
use Rattle.geolint_report.specs.Tallies.{total, count_of}
use Rattle.report_forms.specs.CodeLines.{call_lines, code_lines}
use Rattle.report_forms.specs.Counts.{is_valid, is_warned, is_broken, is_refused, is_not_valid, tells}

-- how many of the files are of a kind, as far as a u64 goes
abbrev pub counted : (Option Finding → Bool) → List (Option Finding) → ℕ
counted test files = u64_saturate (count_by test files)

-- ---- the first line

-- where nothing more was asked of some files
abbrev pub and_not_valid : ℕ → List ℕ
and_not_valid count = if nat_lt 0 count then codes ", " ++ (decimal count ++ codes " not valid") else []

unfoldable pub files_line : List (Option Finding) → List ℕ
files_line files =
    decimal (counted is_valid files)
    ++ (codes " valid, "
    ++ (decimal (counted is_warned files)
    ++ (codes " valid with warnings, "
    ++ (decimal (counted is_broken files)
    ++ (codes " broken, "
    ++ (decimal (counted is_refused files)
    ++ (codes " not JSON, "
    ++ (decimal (counted (λ (file : Option Finding). is_none file) files)
    ++ (codes " not read" ++ (and_not_valid (counted is_not_valid files) ++ codes "\n"))))))))))

-- ---- the whole

unfoldable pub summary_of : List (Option Finding) → List ℕ
summary_of files = files_line files ++ code_lines (λ (code : Code). counted (tells code) files)

-- of these files, and of their features and records where these are counted
unfoldable pub calls_of : List (Option Finding) → List Tally → List ℕ
calls_of files tallies = call_lines (λ (code : Code). counted (tells code) files) (λ (code : Code). total (count_of code) tallies)
