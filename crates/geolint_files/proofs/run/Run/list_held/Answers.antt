use Rattle.std.proofs.Common.{refl}
use Rattle.std.proofs.lemmas.Result.{on_ok_weaker}
use Rattle.geolint_files.proofs.Runs.ListedFiles.{TellsFile-listed}
use Rattle.geolint_files.proofs.run.Run.list_held.Goals as goal

pub returns : goal.returns
returns g c = λ asked.
    let (report, name, finding, sites, tells) = c.in_ok-tell_once.ensures in
    on_ok_weaker c.tell_followed.result (λ told.
    let (lines, are, more) = told in (
      report,
      name,
      finding,
      sites,
      (
        lines,
        are,
        TellsFile-listed g.W.Write.contents report lines c.args.notes.now.tally c.args.self.now c.tell_once.new.self _ c.tell_followed.new.self asked tells
            (record { options = refl; style = refl; outcome = refl; summary = refl; out = refl; log = refl; line = refl; adds = c.add.ensures }) more,
      ),
    )) c.tell_followed.ensures
