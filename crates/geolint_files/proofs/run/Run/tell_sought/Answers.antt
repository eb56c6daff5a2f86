use Rattle.std.proofs.Common.{refl}
use Rattle.std.proofs.lemmas.Result.{on_ok_weaker}
use Rattle.geolint_report.specs.Sought.{AreSought}
use Rattle.geolint_files.proofs.Runs.ToldFiles.{TellsFile-after, sought-told}
use Rattle.geolint_files.proofs.run.Run.tell_sought.Goals as goal

pub returns-clause-told : goal.returns-clause-told
returns-clause-told g c =
    let old = c.args.self.now in
    let finding = c.args.finding in
    let failed_reads = g.S.Source.failed_reads in
    on_ok_weaker c.tell_with_hint.result (λ told.
    sought-told c.args.name.now finding
    (AreSought finding c.args.reading old.options.limits (g.S.Source.text c.args.source.now) (failed_reads c.args.source.now)
    (failed_reads c.find_sites-sites.new.source))
    (TellsFile-after g.W.Write.contents _ old _ c.tell_with_hint.new.self
    (record { same = record { options = refl; style = refl; outcome = refl; summary = refl; tally = refl }; out = refl; log = refl; line = refl }) told)
    refl refl c.find_sites-sites.ensures.sought) c.tell_with_hint.ensures
