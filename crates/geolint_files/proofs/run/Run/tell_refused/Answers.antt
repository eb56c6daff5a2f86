use Rattle.std.proofs.Common.{refl}
use Rattle.std.proofs.lemmas.Result.{on_ok_weaker}
use Rattle.geolint_files.proofs.Runs.ToldFiles.{TellsFile-after}
use Rattle.geolint_files.proofs.run.Run.tell_refused.Goals as goal

pub returns-clause-told : goal.returns-clause-told
returns-clause-told g c =
    on_ok_weaker c.tell_found.result (λ told.
    let (report, name, finding, sites, tells) = told in (
      report,
      name,
      finding,
      sites,
      TellsFile-after g.W.Write.contents _ c.args.self.now _ c.tell_found.new.self
          (record { same = record { options = refl; style = refl; outcome = refl; summary = refl; tally = refl }; out = refl; log = refl; line = refl }) tells,
    )) c.tell_found.ensures.told
