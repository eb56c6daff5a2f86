use Rattle.geolint_files.proofs.Common.{refl, subst, Reading, judged, not_read}
use Rattle.std.proofs.lemmas.Result.{on_ok_weaker}
use Rattle.geolint_files.specs.Told.{IsToldOnce, shows}
use Rattle.geolint_files.proofs.Runs.FollowedFiles.{found-once}
use Rattle.geolint_files.proofs.Runs.ToldFiles.{TellsFile-after}
use Rattle.geolint_files.proofs.run.Run.judge_once.Goals as goal

pub returns-in-Ok : goal.returns-in-Ok
returns-in-Ok g c =
    let old = c.args.self.now in
    let limits = old.options.limits in
    let had = g.S.Source.remaining c.args.source.now in
    let failed = g.S.Source.failed_reads c.args.source.now in
    let now_failed = g.S.Source.failed_reads c.judge.new.reader in
    let Shows = shows c.args.is_shown old.options.format in
    on_ok_weaker c.tell_once.result (λ told.
    let (report, name, same, sites, tells) = told in (
      judged report,
      subst (λ (reading : Reading). IsToldOnce Shows reading limits c.args.name.now had failed now_failed (judged report)) c.reading-reading.ensures (
        name,
        c.in-Ok.ensures.failed,
        found-once Shows c.reading-reading.result limits had (g.S.Source.remaining c.judge.new.reader) c.judge.new.follower c.in-Ok.finding report same
            c.in-Ok.ensures.found (c.in-Ok.ensures.followed c.new-spots.ensures) sites,
      ),
      TellsFile-after g.W.Write.contents _ old _ c.tell_once.new.self
          (record { same = record { options = refl; style = refl; outcome = refl; summary = refl; tally = refl }; out = refl; log = refl; line = refl }) tells,
    )) c.tell_once.ensures

pub returns : goal.returns
returns g c =
    on_ok_weaker c.tell_unread.result (λ told. (
      not_read c.args.name.now told.0,
      (refl, c.in-Err.ensures.failed),
      TellsFile-after g.W.Write.contents _ c.args.self.now _ c.tell_unread.new.self
          (record { same = record { options = refl; style = refl; outcome = refl; summary = refl; tally = refl }; out = refl; log = refl; line = refl }) told.1,
    )) c.tell_unread.ensures
