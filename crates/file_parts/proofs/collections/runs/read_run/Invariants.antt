use Rattle.std.proofs.Common.{◌≡◌, ◌<◌, ◌≤◌, ◌-◌}
use Rattle.std.specs.Prelude.{IfSome, if◌then◌else◌, suc}
use Rattle.gj_join.specs.RunLinter.{limits_of}
use Rattle.file_parts.specs.Internal.Reading.{IsReading}
use Rattle.file_parts.proofs.collections.runs.read_run.Given as goal

abbrev pub invariant-loop-is_open : goal.invariant-loop-is_open
invariant-loop-is_open g l = record {
  ordered : l.begin ≤ l.run.reached;
  within : l.begin < l.run.reached → l.run.reached ≤ l.end;
  text : g.S.Source.text l.source ≡ g.S.Source.text l.fn.source;
  unfailed : g.S.Source.failed_reads l.source ≡ g.S.Source.failed_reads l.fn.source;
  under : limits_of l.linter ≡ l.fn.limits;
  reading : IfSome (g.S.Source.text l.fn.source) (λ text. IsReading l.fn.limits text l.linter l.begin l.enough l.is_open l.run);
}

abbrev pub decreases-loop-is_open : goal.decreases-loop-is_open
decreases-loop-is_open g l = if l.is_open then suc (l.end - l.run.reached) else 0
