use Rattle.std.proofs.Common.{false}
use Rattle.report_forms.specs.Internal.AddedFiles.{Adds}
use Rattle.report_forms.proofs.FileCounts.{until}
use Rattle.report_forms.proofs.summary.Summary.add_valid.Given as goal

-- the kinds before this one are counted
abbrev pub invariant-loop-kind : goal.invariant-loop-kind
invariant-loop-kind l = Adds l.initial.self l.self false false false false false (until l.kind-index l.warnings)
