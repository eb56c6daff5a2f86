use Rattle.geolint_files.proofs.Common.{refl, ap, sym, ◌∙◌, subst, ◌++◌, ◌≡◌, List, ℕ, map, Appends, Options, Summary, Counts}
use Rattle.std.proofs.KnownBytes.{Appends-trans, Appends-kept}
use Rattle.geolint_report.specs.declared.every.tally.Tally.{Tally}
use Rattle.geolint_report.specs.Tallies.{IsTotal}
use Rattle.report_forms.specs.Forms.{end_of}
use Rattle.report_forms.specs.declared.formats.lines.Style.{Style}
use Rattle.geolint_files.specs.Run.{finding_in, tallies_in, summary_in}
use Rattle.geolint_files.proofs.run.Run.end.Goals as goal

pub returns-clause-told : goal.returns-clause-told
returns-clause-told g c = λ held options style files has.
    let old = c.args.self.now in
    let contents = g.W.Write.contents in
    let wrote = c.write.new.self in
    let told = c.tell_summary.new.self in
    let findings = map finding_in files in
    let tallies = tallies_in files in
    let end = end_of options.format style findings tallies has.written.unread in
    let summary = summary_in options files in
    let line : c.put_end.new.line.items ≡ end =
    c.in_ok-put_end.ensures findings tallies has.summary has.tally
    ∙ ap (λ (line : List ℕ). line ++ end_of old.options.format old.style findings tallies old.log.unread.items) has.line
    ∙ ap (λ (given : Options). end_of given.format old.style findings tallies old.log.unread.items) has.options_are
    ∙ ap (λ (shown : Style). end_of options.format shown findings tallies old.log.unread.items) has.style_is
    ∙ ap (end_of options.format style findings tallies) has.unread in
    let ended : Appends (contents old.out) (contents wrote.out) end = subst (Appends (contents old.out) (contents wrote.out)) line c.in_ok-write.ensures.out in
    let counts = subst (λ (counted : Summary). Counts counted findings) (sym c.write.ensures.same.summary) has.summary in
    let tallied = subst (λ (tally : Tally). IsTotal tally tallies) (sym c.write.ensures.same.tally) has.tally in
    let summed : Appends (contents wrote.out) (contents told.out) summary =
    subst (λ (given : Options). Appends (contents wrote.out) (contents told.out) (summary_in given files)) (c.write.ensures.same.options ∙ has.options_are)
    (c.in_ok-tell_summary.ensures.told files counts tallied c.in_ok-write.ensures.line) in (
      has.written.bytes ++ (end ++ summary),
      record { written = has.written; files_told = has.files_told; whole = refl },
      Appends-kept held (contents told.out) _ _
          (Appends-trans held (contents old.out) (contents told.out) has.written.bytes (end ++ summary) has.out
          (Appends-trans (contents old.out) (contents wrote.out) (contents told.out) end summary ended summed)) c.flush.ensures.bytes,
    )
