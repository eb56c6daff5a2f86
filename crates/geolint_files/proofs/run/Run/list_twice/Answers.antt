use Rattle.geolint_files.proofs.Common.{refl, ap, subst, sym, ◌≡◌, ◌∙◌, List, ℕ, Option, Finding, Reading, judged, not_read, listed}
use Rattle.std.proofs.lemmas.Result.{on_ok_weaker}
use Rattle.geolint_files.specs.Listed.{asked_in, ArePlacedLines, IsListedTwice}
use Rattle.geolint_report.specs.Every.{is_no_text}
use Rattle.geolint_report.specs.Judged.{Finds, framing_in}
use Rattle.geolint_files.specs.Told.{reading_of, HasSites}
use Rattle.geolint_files.proofs.Runs.ListedFiles.{asked-every, asked-slowly, text-noted, refused-unnoted}
use Rattle.geolint_files.proofs.Runs.ToldFiles.{TellsFile-after}
use Rattle.geolint_files.proofs.run.Run.list_twice.Goals as goal

pub returns-in-Some : goal.returns-in-Some
returns-in-Some g c =
    let old = c.args.self.now in
    let limits = old.options.limits in
    let reading = c.reading-reading.result in
    let notes = c.in-Some.notes in
    let kept = rw (c.in-Some.is) at c.in_ok-notes-in-Ok.ensures.notes in
    let is_text = text-noted _ (rw (c.in-Some.is) at c.in_ok-notes-in-Ok.ensures.some) in
    let had = g.S.Source.remaining c.args.source.now in
    let left = g.S.Source.remaining c.judge_every.new.reader in
    let text = c.in-Ok.ensures.text in
    let asked = asked-every old.options (reading_of old.options c.args.name.now) c.args.asked c.requires in
    let slow : reading ≡ Reading.Quick → ⊥ =
    λ quick. asked-slowly (reading_of old.options c.args.name.now) (asked_in old.options) c.args.asked c.requires (sym c.reading-reading.ensures ∙ quick) in
    on_ok_weaker c.list_placed.result (λ told.
    let (report, name, finding, (middle, sites), (lines, are, tells)) = told in
    let found = subst (λ (given : Finding). Finds reading limits had left given) (sym finding) (c.in-Ok.ensures.found slow) in
    let with_text = subst (λ (t : Option (List ℕ)). HasSites reading limits t (g.S.Source.failed_reads c.judge_every.new.reader) middle report) text sites in
    let with_sites = subst (λ (n : ℕ). HasSites reading limits (g.S.Source.text c.args.source.now) n middle report) c.in-Ok.ensures.failed with_text in
    let placed = subst (λ (t : Option (List ℕ)).
    ArePlacedLines reading c.args.asked old.options.most limits c.args.name.now t notes.notes.items notes.count lines) text are in (
      listed report lines notes.tally,
      subst (λ (r : Reading). IsListedTwice r c.args.asked old.options.most limits c.args.name.now had (g.S.Source.text c.args.source.now)
          (g.S.Source.failed_reads c.args.source.now) (g.S.Source.failed_reads c.list_placed.new.source) (listed report lines notes.tally))
          c.reading-reading.ensures
          (ap is_no_text finding ∙ is_text, name, (left, found), (middle, with_sites), (notes.notes.items, notes.count, kept (framing_in reading) limits had c.in-Ok.ensures.listed, placed)),
      TellsFile-after g.W.Write.contents _ old _ c.list_placed.new.self
          (record { same = record { options = refl; style = refl; outcome = refl; summary = refl; tally = refl }; out = refl; log = refl; line = refl }) tells,
    )) (c.list_placed.ensures asked)

pub returns-in-None : goal.returns-in-None
returns-in-None g c =
    let old = c.args.self.now in
    let limits = old.options.limits in
    let reading = c.reading-reading.result in
    let had = g.S.Source.remaining c.args.source.now in
    let left = g.S.Source.remaining c.judge_every.new.reader in
    let failed_reads = g.S.Source.failed_reads in
    let after = c.tell_refused.new.source in
    let slow : reading ≡ Reading.Quick → ⊥ =
    λ quick. asked-slowly (reading_of old.options c.args.name.now) (asked_in old.options) c.args.asked c.requires (sym c.reading-reading.ensures ∙ quick) in
    on_ok_weaker c.tell_refused.result (λ told.
    let (report, name, finding, sites, tells) = told in
    let found = subst (λ (given : Finding). Finds reading limits had left given) (sym finding) (c.in-Ok.ensures.found slow) in
    let with_text = subst
    (λ (t : Option (List ℕ)). HasSites reading limits t (failed_reads c.judge_every.new.reader) (failed_reads after) report) c.in-Ok.ensures.text sites in
    let with_sites = subst
    (λ (n : ℕ). HasSites reading limits (g.S.Source.text c.args.source.now) n (failed_reads after) report) c.in-Ok.ensures.failed with_text in (
      judged report,
      subst (λ (r : Reading). IsListedTwice r c.args.asked old.options.most limits c.args.name.now had (g.S.Source.text c.args.source.now)
          (failed_reads c.args.source.now) (failed_reads after) (judged report)) c.reading-reading.ensures
          (ap is_no_text finding ∙ refused-unnoted _ (rw (c.in-None.is) at c.in_ok-notes-in-Ok.ensures.some), (name, (left, found), with_sites)),
      TellsFile-after g.W.Write.contents _ old _ c.tell_refused.new.self
          (record { same = record { options = refl; style = refl; outcome = refl; summary = refl; tally = refl }; out = refl; log = refl; line = refl }) tells,
    )) c.tell_refused.ensures.told

pub returns-in-Err : goal.returns-in-Err
returns-in-Err g c =
    on_ok_weaker c.tell_unread.result (λ told. (
      not_read c.args.name.now told.0,
      (refl, c.in-Err.ensures.failed),
      TellsFile-after g.W.Write.contents _ c.args.self.now _ c.tell_unread.new.self
          (record { same = record { options = refl; style = refl; outcome = refl; summary = refl; tally = refl }; out = refl; log = refl; line = refl }) told.1,
    )) c.tell_unread.ensures
