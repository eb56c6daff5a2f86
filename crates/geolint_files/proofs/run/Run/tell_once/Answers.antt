use Rattle.geolint_files.proofs.Common.{refl, sym, subst, ◌∙◌, Bool, None, Report}
use Rattle.std.proofs.lemmas.Result.{on_ok_weaker}
use Rattle.geolint_report.specs.Held.{AreHeldBy}
use Rattle.report_forms.specs.Passing.{passes}
use Rattle.geolint_files.specs.Told.{HasHeldIf}
use Rattle.geolint_files.proofs.run.Run.tell_once.Goals as goal

pub returns-then-shows : goal.returns-then-shows
returns-then-shows g c =
    on_ok_weaker c.tell_held.result (λ told.
    let (report, name, finding, sites, tells) = told in
    let held = subst (λ (has : Bool). HasHeldIf has (AreHeldBy c.args.spots.now c.args.finding c.args.reading c.args.self.now.options.limits) report)
    (sym c.if-shows.true ∙ c.shows.ensures) sites in
    (report, name, finding, held, tells)) c.tell_held.ensures

pub returns-else-shows : goal.returns-else-shows
returns-else-shows g c =
    let old = c.args.self.now in
    let finding = c.args.finding in
    let report : Report =
    record {
      name = c.args.name;
      finding = finding;
      sites = None;
      passes = passes old.options.strictness finding;
      found = None;
      hint =
          None;
    } in
    let none = subst (λ (has : Bool). HasHeldIf has (AreHeldBy c.args.spots.now finding c.args.reading old.options.limits) report)
    (sym c.if-shows.false ∙ c.shows.ensures) (refl, refl) in
    on_ok_weaker c.tell.result (λ told. (report, refl, refl, none, told)) c.tell.ensures
