use Rattle.geolint_files.proofs.Common.{refl, ap, sym, ◌∙◌, subst, ◌++◌, ◌∷◌, [], List, ℕ, None, Vec, Global, Appends, Bool, Log, Summary, Counts}
use Rattle.std.specs.Prelude.{◌&&◌}
use Rattle.std.proofs.KnownBytes.{Appends-kept}
use Rattle.report_forms.specs.Forms.{IsUnreadReport, KeepsUnread}
use Rattle.report_forms.specs.Forms.Features.{is_nothing}
use Rattle.geolint_files.proofs.Runs.ToldFiles.{on_ok, kept-Appends, TellsFile-of}
use Rattle.geolint_files.proofs.run.Run.tell_unread.Goals as goal

pub returns : goal.returns
returns g c =
    let old = c.args.self.now in
    let new = c.show.new.self in
    let contents = g.W.Write.contents in
    let format = old.options.format in
    let reason = c.as_str-reason.result.now in
    let (told, is_report, added) = c.in_ok-put_unread.ensures in
    let first = c.keep_unread.ensures.first in
    let kept = ap (λ (log : Log). log.unread.items) c.show.ensures.log ∙ ap (λ (unread : Vec ℕ Global). unread.items) c.write.ensures.unread in
    on_ok c.show.result (
      reason,
      TellsFile-of contents _ old new (record {
        options = c.show.ensures.same.options ∙ c.write.ensures.same.options;
        style = c.show.ensures.same.style ∙ c.write.ensures.same.style;
        outcome = λ outcomes is. c.show.ensures.same.outcome ∙ c.write.ensures.same.outcome ∙ c.add.ensures outcomes is;
        summary = λ files counts. subst (λ (s : Summary). Counts s (files ++ None ∷ []))
            (sym (c.show.ensures.same.summary ∙ c.write.ensures.same.summary)) (c.add_unread.ensures files counts);
        tally = c.show.ensures.same.tally ∙ c.write.ensures.same.tally;
        none = refl;
        told = told;
        out = λ none. Appends-kept _ _ _ told
            (kept-Appends _ _ _ told c.flush.ensures.bytes
            (subst (Appends (contents c.flush.new.self) (contents c.write.new.self.out)) (added ∙ ap (λ (line : List ℕ). line ++ told) none)
            c.in_ok-write.ensures.out))
            c.show.ensures.out;
        line = ap (λ (line : Vec ℕ Global). line.items) c.show.ensures.line ∙ c.in_ok-write.ensures.line;
        adds = λ none bytes. record {
          told = told;
          is_report = subst (λ (is_first : Bool). IsUnreadReport format is_first c.args.name.now reason told) first is_report;
          bytes = refl;
          first = ap (λ (log : Log). log.is_first) c.show.ensures.log ∙ c.in_ok-write.ensures.first
              ∙ ap (λ (is_first : Bool). is_first && is_nothing c.put_unread.new.line.items) first
              ∙ ap (λ (line : List ℕ). old.log.is_first && is_nothing line) (added ∙ ap (λ (line : List ℕ). line ++ told) none);
          unread = subst (λ (unread : List ℕ). KeepsUnread format c.args.name.now reason old.log.unread.items unread) (sym kept)
              c.in_ok-keep_unread.ensures.kept;
        };
      }),
    )
