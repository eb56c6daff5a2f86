use Rattle.geolint_files.proofs.Common.{subst, Option, Some, None}
use Rattle.std.proofs.lemmas.Result.{on_ok_weaker}
use Rattle.geolint_report.specs.declared.every.listing.Asked.{Asked}
use Rattle.geolint_files.specs.Listed.{IsOnceBy}
use Rattle.geolint_files.specs.Told.{reading_of, shows}
use Rattle.geolint_files.proofs.Runs.NamedFiles.{once-named}
use Rattle.geolint_files.proofs.run.Run.judge_stream.Goals as goal

pub returns-in-Some : goal.returns-in-Some
returns-in-Some g c =
    let options = c.args.self.now.options in
    let name = c.args.name.now in
    on_ok_weaker c.list_once.result (λ told. (
      told.0,
      subst (λ (asked : Option Asked). IsOnceBy asked (shows c.args.is_shown options.format) (reading_of options name) options.limits name (g.S.Source.remaining c.args.source.now)
          (g.S.Source.failed_reads c.args.source.now) (g.S.Source.failed_reads c.list_once.new.source) told.0) c.in-Some.ensures told.1,
      once-named (Some c.in-Some.asked) (shows c.args.is_shown options.format) (reading_of options name) options.limits name (g.S.Source.remaining c.args.source.now)
          (g.S.Source.failed_reads c.args.source.now) (g.S.Source.failed_reads c.list_once.new.source) told.0 told.1,
      told.2,
    )) c.list_once.ensures

pub returns-in-None : goal.returns-in-None
returns-in-None g c =
    let options = c.args.self.now.options in
    let name = c.args.name.now in
    on_ok_weaker c.judge_once.result (λ told. (
      told.0,
      subst (λ (asked : Option Asked). IsOnceBy asked (shows c.args.is_shown options.format) (reading_of options name) options.limits name (g.S.Source.remaining c.args.source.now)
          (g.S.Source.failed_reads c.args.source.now) (g.S.Source.failed_reads c.judge_once.new.source) told.0) c.in-None.ensures told.1,
      once-named None (shows c.args.is_shown options.format) (reading_of options name) options.limits name (g.S.Source.remaining c.args.source.now)
          (g.S.Source.failed_reads c.args.source.now) (g.S.Source.failed_reads c.judge_once.new.source) told.0 told.1,
      told.2,
    )) c.judge_once.ensures
