use Rattle.geolint_files.proofs.Common.{refl, sym, subst, ◌∙◌, Bool, None, Report}
use Rattle.std.proofs.lemmas.Result.{on_ok_weaker}
use Rattle.report_forms.specs.Passing.{passes}
use Rattle.geolint_files.specs.Told.{HasSitesIf}
use Rattle.geolint_files.proofs.run.Run.tell_found.Goals as goal

pub returns-else-has_places-clause-told : goal.returns-else-has_places-clause-told
returns-else-has_places-clause-told g c =
    let old = c.args.self.now in
    let finding = c.args.finding in
    let report : Report =
    record {
      name = c.args.name;
      finding = finding;
      sites = None;
      passes = passes old.options.strictness finding;
      found = None;
      hint =
          None;
    } in
    let text = g.S.Source.text c.args.source.now in
    let failed = g.S.Source.failed_reads c.args.source.now in
    let none = subst (λ (has : Bool). HasSitesIf has c.args.reading old.options.limits text failed failed report)
    (sym c.if-has_places.false ∙ c.has_places.ensures) (refl, refl) in
    on_ok_weaker c.tell.result (λ told. (report, refl, refl, none, told)) c.tell.ensures
