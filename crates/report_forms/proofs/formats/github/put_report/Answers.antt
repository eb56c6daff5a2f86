use Rattle.report_forms.specs.Forms.Github.{github_issue}
use Rattle.report_forms.proofs.JoinedElements.{one-more}
use Rattle.report_forms.proofs.formats.github.put_report.Goals as goal

pub loop-issue-preserved : goal.loop-issue-preserved
loop-issue-preserved c = record {
  done = one-more (github_issue c.args.report.now) c.as_slice-issue-items.result.now c.loop-issue.issue-index _ _ _ _ c.loop-issue-test.true
      c.loop-issue.invariant.done c.in_ok-put_issue.ensures;
}
