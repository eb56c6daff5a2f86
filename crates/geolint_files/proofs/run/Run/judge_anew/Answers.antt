use Rattle.geolint_files.proofs.Common.{refl, subst, sym, ℕ, Option, Some, not_read}
use Rattle.std.proofs.lemmas.Result.{on_ok_weaker}
use Rattle.geolint_files.specs.JoinedRun.{IsReadFile, readings_of}
use Rattle.geolint_files.specs.Listed.{IsTwice, asked_for}
use Rattle.geolint_files.specs.Told.{reading_of}
use Rattle.geolint_files.proofs.Runs.NamedFiles.{unread-twice}
use Rattle.geolint_files.proofs.run.Run.judge_anew.Goals as goal

pub returns-in-Ok : goal.returns-in-Ok
returns-in-Ok g c =
    on_ok_weaker c.judge_file.result (λ told.
    let (file, is, named, tells) = told in (
      file,
      subst (λ (source : Option g.row.S.Denot). IsReadFile c.args.self.now.options c.args.name.now
          (readings_of g.S.Source.text g.S.Source.failed_reads source (Some c.judge_file.new.source)) file) (sym c.in-Some.is)
          (rw (c.in-Ok.ensures.bytes, c.rewind.ensures.text, c.in-Ok.ensures.failed) at is),
      tells,
    )) c.judge_file.ensures

pub returns-in-Err : goal.returns-in-Err
returns-in-Err g c =
    let options = c.args.self.now.options in
    let name = c.args.name.now in
    let text = g.S.Source.text c.in-Some.source in
    let failed = g.S.Source.failed_reads c.in-Some.source in
    on_ok_weaker c.tell_unread.result (λ told. (
      not_read name told.0,
      subst (λ (source : Option g.row.S.Denot). IsReadFile options name
          (readings_of g.S.Source.text g.S.Source.failed_reads source (Some c.rewind.new.self)) (not_read name told.0)) (sym c.in-Some.is)
          (subst (λ (now : ℕ). IsTwice options name text text failed now (not_read name told.0)) (sym c.in-Err.ensures.failed)
          (unread-twice (asked_for options name) options.most (reading_of options name) options.limits name told.0 text text failed)),
      told.1,
    )) c.tell_unread.ensures

pub returns-in-None : goal.returns-in-None
returns-in-None g c =
    let name = c.args.name.now in
    on_ok_weaker c.tell_unread-in-None.result (λ told. (
      not_read name told.0,
      subst (λ (source : Option g.row.S.Denot). IsReadFile c.args.self.now.options name
          (readings_of g.S.Source.text g.S.Source.failed_reads source c.args.source.now) (not_read name told.0)) (sym c.in-None.is) refl,
      told.1,
    )) c.tell_unread-in-None.ensures
