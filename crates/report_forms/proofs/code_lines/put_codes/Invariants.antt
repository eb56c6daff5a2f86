use Rattle.report_forms.proofs.Common.{take, ◌++◌, ◌≡◌, ℕ, flat_map, Code}
use Rattle.geolint_report.specs.declared.texts.TheConstants.{ALL}
use Rattle.report_forms.specs.CodeLines.{AreCounts, code_line}
use Rattle.report_forms.proofs.code_lines.put_codes.Given as goal

-- the lines of the codes before this one are there
abbrev pub invariant-loop-code : goal.invariant-loop-code
invariant-loop-code l = record {
  done : (count : Code → ℕ) → AreCounts l.counts count → l.line.items ≡ l.initial.line.items ++ flat_map (code_line count) (take l.code-index ALL);
}
