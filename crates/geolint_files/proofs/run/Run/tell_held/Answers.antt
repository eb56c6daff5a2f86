use Rattle.std.proofs.Common.{refl}
use Rattle.std.proofs.lemmas.Result.{on_ok_weaker}
use Rattle.geolint_report.specs.Held.{AreHeldBy}
use Rattle.geolint_files.proofs.Runs.ToldFiles.{TellsFile-after, sought-told}
use Rattle.geolint_files.proofs.run.Run.tell_held.Goals as goal

pub returns : goal.returns
returns g c =
    let old = c.args.self.now in
    let finding = c.args.finding in
    on_ok_weaker c.tell_with_hint.result (λ told.
    sought-told c.args.name.now finding (AreHeldBy c.args.spots.now finding c.args.reading old.options.limits)
    (TellsFile-after g.W.Write.contents _ old _ c.tell_with_hint.new.self
    (record { same = record { options = refl; style = refl; outcome = refl; summary = refl; tally = refl }; out = refl; log = refl; line = refl }) told)
    refl refl c.sites-sites.ensures) c.tell_with_hint.ensures
