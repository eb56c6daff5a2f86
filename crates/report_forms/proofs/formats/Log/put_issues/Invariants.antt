use Rattle.report_forms.proofs.Common.{take, ◌++◌, ◌≡◌, ◌&&◌}
use Rattle.std.specs.Prelude.{map}
use Rattle.report_forms.specs.Forms.{logged_issue}
use Rattle.report_forms.specs.Forms.Issues.{next_results}
use Rattle.report_forms.specs.Internal.WrittenCommas.{is_none_yet}
use Rattle.report_forms.proofs.formats.Log.put_issues.Given as goal

-- the results of the issues before this one are there
abbrev pub invariant-loop-issue : goal.invariant-loop-issue
invariant-loop-issue l = record {
  done : l.line.items ≡ l.initial.line.items ++ next_results l.self.is_first (map (logged_issue l.format l.report) (take l.issue-index l.issue-items));
  first : l.is_first ≡ (l.self.is_first && is_none_yet (take l.issue-index l.issue-items));
}
