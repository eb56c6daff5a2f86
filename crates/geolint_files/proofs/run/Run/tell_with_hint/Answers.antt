use Rattle.geolint_files.proofs.Common.{refl, ap, sym, ◌∙◌, subst, ◌++◌, ◌∷◌, [], List, ℕ, Bool, Some, Vec, Global, Appends, Report, Log, Summary, Counts}
use Rattle.geolint_files.proofs.Common.{Outcome}
use Rattle.std.specs.Prelude.{◌&&◌}
use Rattle.std.proofs.KnownBytes.{Appends-kept}
use Rattle.report_forms.specs.Forms.{IsReport}
use Rattle.report_forms.specs.Forms.Features.{is_nothing}
use Rattle.geolint_files.specs.Outcome.{outcome_of, worst}
use Rattle.geolint_files.proofs.Runs.ToldFiles.{on_ok, TellsFile-of}
use Rattle.geolint_files.proofs.run.Run.tell_with_hint.Goals as goal

pub returns : goal.returns
returns g c =
    let old = c.args.self.now in
    let new = c.show.new.self in
    let contents = g.W.Write.contents in
    let (told, is_report, added) = c.in_ok-put_report.ensures in
    let report : Bool → Report =
    λ (passing : Bool). record
    { name = c.args.name; finding = c.args.finding; sites = c.args.sites; passes = passing; found = c.args.found; hint = c.args.hint } in
    on_ok c.show.result (TellsFile-of contents _ old new (record {
      options = c.show.ensures.same.options ∙ c.write.ensures.same.options;
      style = c.show.ensures.same.style ∙ c.write.ensures.same.style;
      outcome = λ outcomes is. c.show.ensures.same.outcome ∙ c.write.ensures.same.outcome ∙ c.add.ensures outcomes is
          ∙ ap (λ (o : Outcome). worst (outcomes ++ o ∷ [])) (c.of.ensures ∙ ap outcome_of c.passes-passes.ensures);
      summary = λ files counts. subst (λ (s : Summary). Counts s (files ++ Some c.args.finding ∷ []))
          (sym (c.show.ensures.same.summary ∙ c.write.ensures.same.summary)) (c.add_file.ensures files counts);
      tally = c.show.ensures.same.tally ∙ c.write.ensures.same.tally;
      none = refl;
      told = told;
      out = λ none. Appends-kept _ _ _ told
          (subst (Appends (contents old.out) (contents c.write.new.self.out)) (added ∙ ap (λ (line : List ℕ). line ++ told) none) c.in_ok-write.ensures.out)
          c.show.ensures.out;
      line = ap (λ (line : Vec ℕ Global). line.items) c.show.ensures.line ∙ c.in_ok-write.ensures.line;
      adds = λ none bytes. record {
        passes = refl;
        told = told;
        is_report = subst (λ (p : Bool). IsReport old.options.format old.style old.log.is_first (report p) old.options.strictness told)
            c.passes-passes.ensures is_report;
        bytes = refl;
        first = ap (λ (log : Log). log.is_first) c.show.ensures.log ∙ c.in_ok-write.ensures.first
            ∙ ap (λ (line : List ℕ). old.log.is_first && is_nothing line) (added ∙ ap (λ (line : List ℕ). line ++ told) none);
        unread = ap (λ (log : Log). log.unread.items) c.show.ensures.log ∙ ap (λ (kept : Vec ℕ Global). kept.items) c.write.ensures.unread;
      };
    }))
