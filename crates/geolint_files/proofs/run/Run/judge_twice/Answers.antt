use Rattle.geolint_files.proofs.Common.{refl, sym, subst, List, ℕ, Option, Finding, Reading, judged, not_read}
use Rattle.std.proofs.lemmas.Result.{on_ok_weaker}
use Rattle.geolint_report.specs.Judged.{Finds}
use Rattle.geolint_files.specs.Told.{HasSites}
use Rattle.geolint_files.proofs.Runs.ToldFiles.{TellsFile-after}
use Rattle.geolint_files.proofs.run.Run.judge_twice.Goals as goal

pub returns-in-Ok : goal.returns-in-Ok
returns-in-Ok g c =
    let old = c.args.self.now in
    let limits = old.options.limits in
    let had = g.S.Source.remaining c.args.source.now in
    let left = g.S.Source.remaining c.judge.new.reader in
    let failed_reads = g.S.Source.failed_reads in
    let after = c.tell_found.new.source in
    on_ok_weaker c.tell_found.result (λ told.
    let (report, name, finding, sites, tells) = told in
    let found = subst (λ (reading : Reading). Finds reading limits had left report.finding) c.reading-reading.ensures
    (subst (λ (given : Finding). Finds c.reading-reading.result limits had left given) (sym finding) c.in-Ok.ensures.found) in
    let with_sites = subst
    (λ (reading : Reading). HasSites reading limits (g.S.Source.text c.args.source.now) (failed_reads c.args.source.now) (failed_reads after) report)
    c.reading-reading.ensures
    (subst (λ (text : Option (List ℕ)). HasSites c.reading-reading.result limits text (failed_reads c.args.source.now) (failed_reads after) report)
    c.in-Ok.ensures.text
    (subst (λ (failed : ℕ). HasSites c.reading-reading.result limits (g.S.Source.text c.judge.new.reader) failed (failed_reads after) report)
    c.in-Ok.ensures.failed sites)) in (
      judged report,
      (name, (left, found), with_sites),
      TellsFile-after g.W.Write.contents _ old _ c.tell_found.new.self
          (record { same = record { options = refl; style = refl; outcome = refl; summary = refl; tally = refl }; out = refl; log = refl; line = refl }) tells,
    )) c.tell_found.ensures.told

pub returns-in-Err : goal.returns-in-Err
returns-in-Err g c =
    on_ok_weaker c.tell_unread.result (λ told. (
      not_read c.args.name.now told.0,
      (refl, c.in-Err.ensures.failed),
      TellsFile-after g.W.Write.contents _ c.args.self.now _ c.tell_unread.new.self
          (record { same = record { options = refl; style = refl; outcome = refl; summary = refl; tally = refl }; out = refl; log = refl; line = refl }) told.1,
    )) c.tell_unread.ensures
