use Rattle.geolint_files.proofs.Common.{refl, ap, subst, sym, ◌≡◌, ◌∙◌, Reading, framing_in, judged, not_read, listed}
use Rattle.std.proofs.lemmas.Result.{on_ok_weaker}
use Rattle.geolint_report.specs.Every.{is_no_text}
use Rattle.geolint_files.specs.Listed.{asked_in, IsListedOnce}
use Rattle.geolint_files.specs.Told.{reading_of, shows}
use Rattle.geolint_files.proofs.Runs.ListedFiles.{asked-every, asked-slowly, text-noted, refused-unnoted}
use Rattle.geolint_files.proofs.Runs.FollowedFiles.{found-once, lines-by}
use Rattle.geolint_files.proofs.Runs.ToldFiles.{TellsFile-after}
use Rattle.geolint_files.proofs.run.Run.list_once.Goals as goal

pub returns-in-Some : goal.returns-in-Some
returns-in-Some g c =
    let old = c.args.self.now in
    let limits = old.options.limits in
    let reading = c.reading-reading.result in
    let finding = c.in-Ok.found.0 in
    let notes = c.in-Some.notes in
    let kept = rw (c.in-Some.is) at c.in_ok-notes-in-Ok.ensures.notes in
    let is_text = text-noted _ (rw (c.in-Some.is) at c.in_ok-notes-in-Ok.ensures.some) in
    let had = g.S.Source.remaining c.args.source.now in
    let failed = g.S.Source.failed_reads c.args.source.now in
    let left = g.S.Source.remaining c.judge_followed.new.reader in
    let followed = c.in-Ok.ensures.followed c.new-spots.ensures in
    let asked = asked-every old.options (reading_of old.options c.args.name.now) c.args.asked c.requires in
    let Shows = shows c.args.is_shown old.options.format in
    let slow : reading ≡ Reading.Quick → ⊥ =
    λ quick. asked-slowly (reading_of old.options c.args.name.now) (asked_in old.options) c.args.asked c.requires (sym c.reading-reading.ensures ∙ quick) in
    on_ok_weaker c.list_held.result (λ told.
    let (report, name, same, sites, (lines, are, tells)) = told in (
      listed report lines notes.tally,
      subst (λ (r : Reading). IsListedOnce Shows r c.args.asked limits c.args.name.now had failed (g.S.Source.failed_reads c.judge_followed.new.reader)
          (listed report lines notes.tally)) c.reading-reading.ensures (
            ap is_no_text same ∙ is_text,
            name,
            c.in-Ok.ensures.failed,
            found-once Shows reading limits had left c.judge_followed.new.follower finding report same (c.in-Ok.ensures.found slow) followed sites,
            (
              notes.notes.items,
              notes.count,
              kept (framing_in reading) limits had c.in-Ok.ensures.listed,
              lines-by had left c.judge_followed.new.follower c.args.name.now notes.notes.items notes.count lines followed are,
            ),
          ),
      TellsFile-after g.W.Write.contents _ old _ c.list_held.new.self
          (record { same = record { options = refl; style = refl; outcome = refl; summary = refl; tally = refl }; out = refl; log = refl; line = refl }) tells,
    )) (c.list_held.ensures asked)

pub returns-in-Ok : goal.returns-in-Ok
returns-in-Ok g c =
    let old = c.args.self.now in
    let limits = old.options.limits in
    let reading = c.reading-reading.result in
    let finding = c.in-Ok.found.0 in
    let had = g.S.Source.remaining c.args.source.now in
    let failed = g.S.Source.failed_reads c.args.source.now in
    let left = g.S.Source.remaining c.judge_followed.new.reader in
    let Shows = shows c.args.is_shown old.options.format in
    let slow : reading ≡ Reading.Quick → ⊥ =
    λ quick. asked-slowly (reading_of old.options c.args.name.now) (asked_in old.options) c.args.asked c.requires (sym c.reading-reading.ensures ∙ quick) in
    let refused = refused-unnoted _ (rw (c.in-None.is) at c.in_ok-notes-in-Ok.ensures.some) in
    on_ok_weaker c.tell_once.result (λ told.
    let (report, name, same, sites, tells) = told in (
      judged report,
      subst (λ (r : Reading). IsListedOnce Shows r c.args.asked limits c.args.name.now had failed (g.S.Source.failed_reads c.judge_followed.new.reader)
          (judged report)) c.reading-reading.ensures (
            ap is_no_text same ∙ refused,
            (
              name,
              c.in-Ok.ensures.failed,
              found-once Shows reading limits had left c.judge_followed.new.follower finding report same (c.in-Ok.ensures.found slow)
                  (c.in-Ok.ensures.followed c.new-spots.ensures) sites,
            ),
          ),
      TellsFile-after g.W.Write.contents _ old _ c.tell_once.new.self
          (record { same = record { options = refl; style = refl; outcome = refl; summary = refl; tally = refl }; out = refl; log = refl; line = refl }) tells,
    )) c.tell_once.ensures

pub returns : goal.returns
returns g c =
    on_ok_weaker c.tell_unread.result (λ told. (
      not_read c.args.name.now told.0,
      (refl, c.in-Err.ensures.failed),
      TellsFile-after g.W.Write.contents _ c.args.self.now _ c.tell_unread.new.self
          (record { same = record { options = refl; style = refl; outcome = refl; summary = refl; tally = refl }; out = refl; log = refl; line = refl }) told.1,
    )) c.tell_unread.ensures
