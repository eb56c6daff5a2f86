use Rattle.report_forms.proofs.Common.{take, ◌++◌, ◌≡◌, ℕ, flat_map, Code}
use Rattle.geolint_report.specs.declared.texts.TheConstants.{ALL}
use Rattle.report_forms.specs.CodeLines.{AreCounts, call_of}
use Rattle.report_forms.proofs.code_lines.put_calls.Given as goal

-- the calls for the codes before this one are there
abbrev pub invariant-loop-code : goal.invariant-loop-code
invariant-loop-code l = record {
  done : (of_files of_items : Code → ℕ) → AreCounts l.files of_files → AreCounts l.items of_items
      → l.line.items ≡ l.initial.line.items ++ flat_map (call_of of_files of_items) (take l.code-index ALL);
}
