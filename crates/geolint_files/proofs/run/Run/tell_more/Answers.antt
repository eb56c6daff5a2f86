use Rattle.geolint_files.proofs.Common.{refl, ap, ◌∙◌, subst, ◌++◌, List, ℕ, Vec, Global, Appends}
use Rattle.std.specs.Prelude.{◌&&◌}
use Rattle.report_forms.specs.Forms.Features.{is_nothing}
use Rattle.geolint_files.proofs.Runs.ListedFiles.{TellsLines-of, TellsLines-shown}
use Rattle.geolint_files.proofs.Runs.ToldFiles.{on_ok}
use Rattle.geolint_files.proofs.run.Run.tell_more.Goals as goal

pub returns : goal.returns
returns g c =
    let old = c.args.self.now in
    let new = c.write.new.self in
    let contents = g.W.Write.contents in
    let (told, is_line, added) = c.in_ok-put_more.ensures in
    on_ok c.show.result (TellsLines-shown contents _ old new c.show.new.self (TellsLines-of contents _ old new (record {
      same = record {
        options = c.write.ensures.same.options;
        style = c.write.ensures.same.style;
        outcome = c.write.ensures.same.outcome;
        summary = c.write.ensures.same.summary;
        tally = c.write.ensures.same.tally;
      };
      told = told;
      out = λ none. subst (Appends (contents old.out) (contents new.out)) (added ∙ ap (λ (line : List ℕ). line ++ told) none) c.in_ok-write.ensures.out;
      line_is = c.in_ok-write.ensures.line;
      adds = λ none bytes. record {
        told = told;
        is_line = is_line;
        bytes = refl;
        first = c.in_ok-write.ensures.first
            ∙ ap (λ (line : List ℕ). old.log.is_first && is_nothing line) (added ∙ ap (λ (line : List ℕ). line ++ told) none);
        unread = ap (λ (kept : Vec ℕ Global). kept.items) c.write.ensures.unread;
      };
    })) (record { same = c.show.ensures.same; log = c.show.ensures.log; line = c.show.ensures.line; out = c.show.ensures.out }))
