use Rattle.geolint_files.proofs.Common.{sym, subst, Option, Finding}
use Rattle.std.proofs.lemmas.Result.{on_ok_weaker}
use Rattle.geolint_files.specs.JoinedRun.{IsJoinedFile, readings_of}
use Rattle.geolint_files.proofs.run.Run.tell_file.Goals as goal

pub returns-in-Some : goal.returns-in-Some
returns-in-Some g c =
    on_ok_weaker c.tell_known.result (λ told.
    let (file, is, tells) = told in (
      file,
      subst (λ (f : Option Finding). IsJoinedFile c.args.self.now.options f c.args.notes c.args.name.now
          (readings_of g.S.Source.text g.S.Source.failed_reads c.args.source.now c.tell_known.new.source) file) (sym c.in-Some.is) is,
      tells,
    )) c.tell_known.ensures

pub returns-in-None : goal.returns-in-None
returns-in-None g c =
    on_ok_weaker c.judge_anew.result (λ told.
    let (file, is, tells) = told in (
      file,
      subst (λ (f : Option Finding). IsJoinedFile c.args.self.now.options f c.args.notes c.args.name.now
          (readings_of g.S.Source.text g.S.Source.failed_reads c.args.source.now c.judge_anew.new.source) file) (sym c.in-None.is) is,
      tells,
    )) c.judge_anew.ensures
