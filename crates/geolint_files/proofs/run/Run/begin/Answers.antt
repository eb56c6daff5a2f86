use Rattle.geolint_files.proofs.Common.{refl, ap, ◌∙◌, subst, sym, ◌++◌, [], List, ℕ, Vec, Global, Appends, Summary, Counts}
use Rattle.geolint_report.specs.declared.every.tally.Tally.{Tally}
use Rattle.geolint_report.specs.Tallies.{IsTotal}
use Rattle.report_forms.specs.Forms.{begin_of}
use Rattle.geolint_files.specs.Run.{begun}
use Rattle.geolint_files.proofs.Runs.ToldFiles.{kept-Appends}
use Rattle.geolint_files.proofs.run.Run.begin.Goals as goal

pub returns : goal.returns
returns g c = λ held fresh.
    let old = c.args.self.now in
    let contents = g.W.Write.contents in
    let bytes = begin_of old.options.format in
    record {
      options_are = c.write.ensures.same.options;
      style_is = c.write.ensures.same.style;
      outcome = c.write.ensures.same.outcome ∙ fresh.outcome;
      summary = subst (λ (summary : Summary). Counts summary []) (sym c.write.ensures.same.summary) fresh.summary;
      tally = subst (λ (tally : Tally). IsTotal tally []) (sym c.write.ensures.same.tally) fresh.tally;
      written = begun old.options.format;
      files_told = refl;
      out = kept-Appends held (contents old.out) (contents c.write.new.self.out) bytes fresh.out
          (subst (Appends (contents old.out) (contents c.write.new.self.out)) (c.in_ok-put_begin.ensures ∙ ap (λ (line : List ℕ). line ++ bytes) fresh.line)
          c.in_ok-write.ensures.out);
      first = refl;
      unread = ap (λ (kept : Vec ℕ Global). kept.items) c.write.ensures.unread ∙ fresh.unread;
      line = c.in_ok-write.ensures.line;
    }
