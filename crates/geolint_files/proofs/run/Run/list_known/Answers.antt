use Rattle.geolint_files.proofs.Common.{refl, subst, sym, None, Option, Report, Some}
use Rattle.std.proofs.lemmas.Result.{on_ok_weaker}
use Rattle.geolint_report.specs.declared.judge.Reading.{Reading}
use Rattle.report_forms.specs.Passing.{passes}
use Rattle.geolint_files.proofs.Runs.ListedFiles.{asked-every}
use Rattle.geolint_files.specs.JoinedRun.{IsListedFile, readings_of}
use Rattle.geolint_files.proofs.run.Run.list_known.Goals as goal

pub returns-in-Some : goal.returns-in-Some
returns-in-Some g c =
    let asked = asked-every c.args.self.now.options Reading.Text c.args.asked c.requires in
    on_ok_weaker c.list_placed.result (λ told.
    let (report, name, finding, sites, (lines, are, tells)) = told in (
      report,
      lines,
      subst (λ (source : Option g.row.S.Denot). IsListedFile c.args.self.now.options c.args.name.now c.args.finding c.args.asked c.args.notes.now
          (readings_of g.S.Source.text g.S.Source.failed_reads source (Some c.list_placed.new.source)) report lines) (sym c.in-Some.is)
          ((sites.0, (name, finding, rw c.reading-reading.ensures at sites.1)), rw c.reading-reading.ensures at are),
      tells,
    )) (c.list_placed.ensures asked)

pub returns-in-None : goal.returns-in-None
returns-in-None g c =
    let options = c.args.self.now.options in
    let finding = c.args.finding in
    let report : Report =
    record { name = c.args.name; finding = finding; sites = None; passes = passes options.strictness finding; found = None; hint = None } in
    on_ok_weaker c.list_followed.result (λ told.
    let (lines, are, tells) = told in (
      report,
      lines,
      subst (λ (source : Option g.row.S.Denot). IsListedFile options c.args.name.now finding c.args.asked c.args.notes.now
          (readings_of g.S.Source.text g.S.Source.failed_reads source c.args.source.now) report lines) (sym c.in-None.is) ((refl, refl, refl), are),
      tells,
    )) (c.list_followed.ensures (asked-every options Reading.Text c.args.asked c.requires))
