use Rattle.geolint_files.proofs.Common.{[], ◌∷◌, subst, ap, ◌∙◌, Options}
use Rattle.geolint_files.specs.JoinedRun.{IsJoinedFile, readings_of}
use Rattle.geolint_files.specs.Run.{worst_of, IsWholeReport}
use Rattle.geolint_files.proofs.run.joined.tell_joined.Goals as goal

pub returns : goal.returns
returns g c =
    let run = c.in_ok-run.run' in
    let contents = g.W.Write.contents in
    let held = contents c.args.out in
    let begun = c.in_ok-begin.ensures held c.in_ok-run.ensures.fresh in
    let (file, of_it, tells) = c.in_ok-tell_file.ensures in
    let told = tells.tells held run.options run.style [] begun in
    let (bytes, whole, out) = c.in_ok-end.ensures.told held run.options run.style (file ∷ []) told in
    record {
      file = file;
      of_it = subst (λ (options : Options). IsJoinedFile options c.args.finding c.args.notes c.args.name.now
          (readings_of g.S.Source.text g.S.Source.failed_reads c.args.source.now c.tell_file.new.source) file)
          (begun.options_are ∙ c.in_ok-run.ensures.options) of_it;
      style = run.style;
      bytes = bytes;
      whole = subst (λ (options : Options). IsWholeReport options run.style (file ∷ []) bytes) c.in_ok-run.ensures.options whole;
      out = out;
      worst_is = c.end.ensures.outcome ∙ told.outcome ∙ ap (λ (options : Options). worst_of options (file ∷ [])) c.in_ok-run.ensures.options;
    }
