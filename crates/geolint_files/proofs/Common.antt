-- The names that many proofs cite, passed on from one place.
pub use Rattle.std.proofs.Common.{Bool, List, None, Option, Some, Vec, [], ap, arith, length, map, refl, subst, sym, ℕ, ◌++◌, ◌-◌, ◌∙◌, ◌∷◌, ◌≡◌}
pub use Rattle.std.specs.Io.KnownBytes.{Appends}
pub use Rattle.std.specs.declared.alloc.Global.{Global}
pub use Rattle.geolint_files.specs.Internal.RunState.{TellsFiles, TellsLines}
pub use Rattle.geolint_files.specs.Listed.{AreEntriesOf, IsPlaced, asked_in}
pub use Rattle.geolint_files.specs.Run.{judged, listed, not_read}
pub use Rattle.geolint_files.specs.declared.outcome.Outcome.{Outcome}
pub use Rattle.geolint_report.specs.Cursors.{StandBy}
pub use Rattle.geolint_report.specs.Judged.{framing_in}
pub use Rattle.geolint_report.specs.declared.judge.Finding.{Finding}
pub use Rattle.geolint_report.specs.declared.judge.Reading.{Reading}
pub use Rattle.geolint_report.specs.declared.report.Report.{Report}
pub use Rattle.report_forms.specs.FileCounts.{Counts}
pub use Rattle.report_forms.specs.declared.formats.Log.{Log}
pub use Rattle.report_forms.specs.declared.options.Options.{Options}
pub use Rattle.report_forms.specs.declared.summary.Summary.{Summary}
