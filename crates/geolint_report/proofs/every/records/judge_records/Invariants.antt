use Rattle.geolint_report.proofs.Common.{ℕ, [], List, length, ◌-◌, ◌≤◌, ◌≡◌, Consumes}
use Rattle.gj_rules.specs.declared.records.record.Record.{Record}
use Rattle.gj_rules.specs.RecordsStand.{StandsFor, limits_of, framing_of}
use Rattle.geolint_report.specs.Every.{KeepsRecords}
use Rattle.geolint_report.proofs.every.records.judge_records.Given as goal

abbrev pub invariant-loop-error : goal.invariant-loop-error
invariant-loop-error g l = record {
  read : (read : List ℕ) × (found : List Record) × Consumes (g.S.Source.remaining l.initial.reader) (g.S.Source.remaining l.reader) read
      × (length read ≡ l.offset)
      × StandsFor l.records read found × KeepsRecords l.listing found
      × (g.F.Follower.follows l.initial.follower [] → g.F.Follower.follows l.follower read);
  framing : framing_of l.records ≡ l.fn.framing;
  limits : limits_of l.records ≡ l.fn.limits;
  unfailed : g.S.Source.failed_reads l.reader ≡ g.S.Source.failed_reads l.initial.reader;
  text : g.S.Source.text l.reader ≡ g.S.Source.text l.initial.reader;
  within : l.offset ≤ l.fn.limits.bytes;
}

abbrev pub decreases-loop-error : goal.decreases-loop-error
decreases-loop-error g l = l.fn.limits.bytes - l.offset
