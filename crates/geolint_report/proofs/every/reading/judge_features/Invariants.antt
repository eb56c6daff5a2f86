use Rattle.geolint_report.proofs.Common.{ℕ, [], List, length, ◌-◌, ◌≤◌, ◌≡◌, Consumes}
use Rattle.gj_rules.specs.FeatureLinter.{StandsFor, limits_of}
use Rattle.geolint_report.specs.Every.{KeepsNotes}
use Rattle.geolint_report.proofs.every.reading.judge_features.Given as goal

abbrev pub invariant-loop-error : goal.invariant-loop-error
invariant-loop-error g l = record {
  read : (read : List ℕ) × Consumes (g.S.Source.remaining l.initial.reader) (g.S.Source.remaining l.reader) read × (length read ≡ l.offset)
      × StandsFor KeepsNotes l.linter read × (g.F.Follower.follows l.initial.follower [] → g.F.Follower.follows l.follower read);
  limits : limits_of l.linter ≡ l.fn.limits;
  unfailed : g.S.Source.failed_reads l.reader ≡ g.S.Source.failed_reads l.initial.reader;
  text : g.S.Source.text l.reader ≡ g.S.Source.text l.initial.reader;
  within : l.offset ≤ l.fn.limits.bytes;
}

abbrev pub decreases-loop-error : goal.decreases-loop-error
decreases-loop-error g l = l.fn.limits.bytes - l.offset
