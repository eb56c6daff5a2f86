use Rattle.geolint_files.proofs.Common.{refl, ◌≡◌, ◌∙◌, Some, sym, subst, Option, asked_in, listed}
use Rattle.std.proofs.lemmas.Result.{on_ok_weaker}
use Rattle.geolint_report.specs.declared.every.listing.Asked.{Asked}
use Rattle.geolint_report.specs.declared.every.listing.Notes.{Notes}
use Rattle.geolint_files.specs.JoinedRun.{IsFileOf, readings_of}
use Rattle.geolint_files.proofs.run.Run.tell_known.Goals as goal

pub returns : goal.returns
returns g c =
    let options = c.args.self.now.options in
    let notes = c.in-Some.notes in
    let name = c.args.name.now in
    let finding = c.args.finding in
    let source = readings_of g.S.Source.text g.S.Source.failed_reads c.args.source.now c.list_known.new.source in
    let asked : asked_in options ≡ Some c.in-Some-asked_in.asked = sym c.asked_in.ensures ∙ c.in-Some-asked_in.is in
    on_ok_weaker c.list_known.result (λ told.
    let (report, lines, are, tells) = told in
    let file = listed report lines notes.tally in (
      file,
      subst (λ (given : Option Notes). IsFileOf options given (asked_in options) name finding source file) (sym c.in-Some.is)
          (subst (λ (given : Option Asked). IsFileOf options (Some notes) given name finding source file) (sym asked) (refl, are)),
      tells,
    )) c.list_known.ensures
