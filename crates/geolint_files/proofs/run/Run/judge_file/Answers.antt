use Rattle.geolint_files.proofs.Common.{subst, Option, Some, None}
use Rattle.std.proofs.lemmas.Result.{on_ok_weaker}
use Rattle.geolint_report.specs.declared.every.listing.Asked.{Asked}
use Rattle.geolint_files.specs.Listed.{IsTwiceBy}
use Rattle.geolint_files.specs.Told.{reading_of}
use Rattle.geolint_files.proofs.Runs.NamedFiles.{twice-named}
use Rattle.geolint_files.proofs.run.Run.judge_file.Goals as goal

pub returns-in-Some : goal.returns-in-Some
returns-in-Some g c =
    let options = c.args.self.now.options in
    let name = c.args.name.now in
    on_ok_weaker c.list_twice.result (λ told. (
      told.0,
      subst (λ (asked : Option Asked). IsTwiceBy asked options.most (reading_of options name) options.limits name (g.S.Source.remaining c.args.source.now)
          (g.S.Source.text c.args.source.now)
          (g.S.Source.failed_reads c.args.source.now) (g.S.Source.failed_reads c.list_twice.new.source) told.0) c.in-Some.ensures told.1,
      twice-named (Some c.in-Some.asked) options.most (reading_of options name) options.limits name (g.S.Source.remaining c.args.source.now) (g.S.Source.text c.args.source.now)
          (g.S.Source.failed_reads c.args.source.now) (g.S.Source.failed_reads c.list_twice.new.source) told.0 told.1,
      told.2,
    )) c.list_twice.ensures

pub returns-in-None : goal.returns-in-None
returns-in-None g c =
    let options = c.args.self.now.options in
    let name = c.args.name.now in
    on_ok_weaker c.judge_twice.result (λ told. (
      told.0,
      subst (λ (asked : Option Asked). IsTwiceBy asked options.most (reading_of options name) options.limits name (g.S.Source.remaining c.args.source.now)
          (g.S.Source.text c.args.source.now)
          (g.S.Source.failed_reads c.args.source.now) (g.S.Source.failed_reads c.judge_twice.new.source) told.0) c.in-None.ensures told.1,
      twice-named None options.most (reading_of options name) options.limits name (g.S.Source.remaining c.args.source.now) (g.S.Source.text c.args.source.now)
          (g.S.Source.failed_reads c.args.source.now) (g.S.Source.failed_reads c.judge_twice.new.source) told.0 told.1,
      told.2,
    )) c.judge_twice.ensures
