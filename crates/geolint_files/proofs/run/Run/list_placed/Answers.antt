use Rattle.geolint_files.proofs.Common.{refl, subst, List, ℕ, Option}
use Rattle.std.proofs.lemmas.Result.{on_ok_weaker}
use Rattle.geolint_files.specs.Listed.{ArePlacedLines}
use Rattle.geolint_files.proofs.Runs.ListedFiles.{TellsFile-listed}
use Rattle.geolint_files.proofs.run.Run.list_placed.Goals as goal

pub returns : goal.returns
returns g c = λ asked.
    let notes = c.args.notes.now in
    let limits = c.args.self.now.options.limits in
    let (report, name, finding, sites, tells) = c.in_ok-tell_found.ensures.told in
    on_ok_weaker c.tell_placed.result (λ told.
    let (lines, are, more) = told in
    let placed = subst (λ (text : Option (List ℕ)).
    ArePlacedLines c.args.reading c.args.asked c.args.self.now.options.most limits c.args.name.now text notes.notes.items notes.count lines)
    c.tell_found.ensures.text are in (
      report,
      name,
      finding,
      (g.S.Source.failed_reads c.tell_found.new.source, sites),
      (
        lines,
        placed,
        TellsFile-listed g.W.Write.contents report lines notes.tally c.args.self.now c.tell_found.new.self _ c.tell_placed.new.self asked tells
            (record { options = refl; style = refl; outcome = refl; summary = refl; out = refl; log = refl; line = refl; adds = c.add.ensures }) more,
      ),
    )) c.tell_placed.ensures
