use Rattle.geolint_files.proofs.Common.{◌≡◌, StandBy, framing_in, IsPlaced}
use Rattle.geolint_report.specs.Internal.FurtherReading.{StandsBy}
use Rattle.geolint_files.proofs.Runs.ListedFiles.{IsTold}
use Rattle.geolint_files.proofs.run.Run.tell_further.Given as goal

-- the notes that were read so far are told
abbrev pub invariant-loop : goal.invariant-loop
invariant-loop g l = record {
  told : StandBy (framing_in l.fn.reading) (g.S.Source.text l.initial.source) l.initial.cursors
      → IsTold g.W.Write.contents (IsPlaced (framing_in l.fn.reading) (g.S.Source.text l.initial.source)) l.name (framing_in l.fn.reading) l.asked l.most l.limits
      (g.S.Source.text l.initial.source) l.held l.told l.initial.self l.self;
  stand : StandBy (framing_in l.fn.reading) (g.S.Source.text l.initial.source) l.initial.cursors
      → StandBy (framing_in l.fn.reading) (g.S.Source.text l.initial.source) l.cursors;
  further : StandsBy (framing_in l.fn.reading) l.limits (g.S.Source.text l.initial.source) l.further;
  text : g.S.Source.text l.source ≡ g.S.Source.text l.initial.source;
}
