use Rattle.std.proofs.Common.{refl}
use Rattle.std.proofs.lemmas.Result.{on_ok_weaker}
use Rattle.geolint_files.proofs.Runs.ListedFiles.{TellsFile-listed}
use Rattle.geolint_files.proofs.run.Run.list_followed.Goals as goal

pub returns : goal.returns
returns g c = λ asked.
    on_ok_weaker c.tell_followed.result (λ told.
    let (lines, are, tells) = told in (
      lines,
      are,
      TellsFile-listed g.W.Write.contents _ lines c.args.notes.now.tally c.args.self.now c.tell.new.self _ c.tell_followed.new.self asked
          c.in_ok-tell.ensures
          (record { options = refl; style = refl; outcome = refl; summary = refl; out = refl; log = refl; line = refl; adds = c.add.ensures }) tells,
    ))
    c.tell_followed.ensures
