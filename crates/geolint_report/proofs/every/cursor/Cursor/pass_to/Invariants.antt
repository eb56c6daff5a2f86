use Rattle.std.proofs.Common.{◌-◌, ◌≤◌, ◌≡◌}
use Rattle.geolint_report.specs.Cursors.{StandsBy}
use Rattle.geolint_report.proofs.every.cursor.Cursor.pass_to.Given as goal

abbrev pub invariant-loop-self : goal.invariant-loop-self
invariant-loop-self g l = record {
  stands : StandsBy (g.S.Source.text l.initial.source) l.initial.self → StandsBy (g.S.Source.text l.initial.source) l.self;
  text : g.S.Source.text l.source ≡ g.S.Source.text l.initial.source;
  framing : l.self.text_path.framing ≡ l.initial.self.text_path.framing;
  unfailed : g.S.Source.failed_reads l.source ≡ g.S.Source.failed_reads l.initial.source;
  under : l.initial.self.passed ≤ l.fn.place → l.self.passed ≤ l.fn.place;
}

abbrev pub decreases-loop-self : goal.decreases-loop-self
decreases-loop-self g l = l.fn.place - l.self.passed
