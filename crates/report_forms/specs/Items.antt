-- The bytes of a summary of features and records: how many there are, how many are broken, and of how many each rule, kind of warning and cause is reported.
use Rattle.std.specs.Prelude.{ℕ, List, ◌++◌, codes}
use Rattle.std.specs.Fmt.{decimal}
use Rattle.geolint_report.specs.declared.every.tally.Tally.{Tally}
use Rattle.geolint_report.specs.declared.texts.Code.{Code}
use Rattle.geolint_report.specs.Tallies.{total, count_of}
use Rattle.report_forms.specs.CodeLines.{code_lines}

unfoldable pub items_line : ℕ → ℕ → List ℕ
items_line items broken = decimal items ++ (codes " features or records, " ++ (decimal broken ++ codes " broken\n"))

-- of the tallies of files
unfoldable pub items_summary : List Tally → List ℕ
items_summary tallies =
    items_line (total (λ (one : Tally). one.items) tallies) (total (λ (one : Tally). one.broken) tallies)
    ++ code_lines (λ (code : Code). total (count_of code) tallies)
