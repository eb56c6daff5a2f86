use Rattle.report_forms.proofs.Common.{append_assoc}
use Rattle.report_forms.specs.Forms.{logged_issue}
use Rattle.report_forms.proofs.ResultsBetween.{none-left, one-result-more}
use Rattle.report_forms.proofs.formats.Log.put_issues.Goals as goal

pub loop-issue-preserved : goal.loop-issue-preserved
loop-issue-preserved c =
    let issues = c.as_slice-issue-items.result.now in
    let was = c.args.self.now.is_first in
    record {
      done = one-result-more (logged_issue c.args.format c.args.report.now) issues c.loop-issue.issue-index _ was c.loop-issue.is_first _ _ _
          c.loop-issue-test.true c.loop-issue.invariant.done c.loop-issue.invariant.first
          (simp (append_assoc, c.in_ok-put_break_unless.ensures) at c.in_ok-put_issue.ensures);
      first = none-left was issues c.loop-issue.issue-index c.loop-issue-test.true;
    }
