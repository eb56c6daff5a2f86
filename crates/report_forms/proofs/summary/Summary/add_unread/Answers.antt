use Rattle.report_forms.proofs.FileCounts.{Counts-unread}
use Rattle.report_forms.proofs.summary.Summary.add_unread.Goals as goal

pub returns : goal.returns
returns c = λ files counts. Counts-unread c.args.self.now files _ c.saturating_add-self.ensures counts
