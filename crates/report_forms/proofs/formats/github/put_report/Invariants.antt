use Rattle.report_forms.proofs.Common.{take, ◌++◌, ◌≡◌, flat_map}
use Rattle.report_forms.specs.Forms.Github.{github_issue}
use Rattle.report_forms.proofs.formats.github.put_report.Given as goal

-- the commands for the issues before this one are there
abbrev pub invariant-loop-issue : goal.invariant-loop-issue
invariant-loop-issue l = record {
  done : l.line.items ≡ l.initial.line.items ++ flat_map (github_issue l.report) (take l.issue-index l.issue-items);
}
