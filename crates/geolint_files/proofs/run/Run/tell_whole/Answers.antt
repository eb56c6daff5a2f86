use Rattle.geolint_files.proofs.Common.{refl, subst, sym, None, Option, Report, Some}
use Rattle.std.proofs.lemmas.Result.{on_ok_weaker}
use Rattle.report_forms.specs.Passing.{passes}
use Rattle.geolint_files.specs.JoinedRun.{IsWholeFile, readings_of}
use Rattle.geolint_files.proofs.run.Run.tell_whole.Goals as goal

pub returns-in-Some : goal.returns-in-Some
returns-in-Some g c =
    on_ok_weaker c.tell_refused.result (λ told.
    let (report, name, finding, sites, tells) = told in (
      report,
      subst (λ (source : Option g.row.S.Denot). IsWholeFile c.args.self.now.options c.args.name.now c.args.finding
          (readings_of g.S.Source.text g.S.Source.failed_reads source (Some c.tell_refused.new.source)) report) (sym c.in-Some.is)
          (name, finding, rw c.reading-reading.ensures at sites),
      tells,
    )) c.tell_refused.ensures.told

pub returns-in-None : goal.returns-in-None
returns-in-None g c =
    let options = c.args.self.now.options in
    let finding = c.args.finding in
    let report : Report =
    record { name = c.args.name; finding = finding; sites = None; passes = passes options.strictness finding; found = None; hint = None } in
    on_ok_weaker c.tell.result (λ tells. (
      report,
      subst (λ (source : Option g.row.S.Denot). IsWholeFile options c.args.name.now finding
          (readings_of g.S.Source.text g.S.Source.failed_reads source c.args.source.now) report) (sym c.in-None.is) (refl, refl, refl),
      tells,
    )) c.tell.ensures
