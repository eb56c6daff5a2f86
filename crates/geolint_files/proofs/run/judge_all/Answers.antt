use Rattle.geolint_files.proofs.Common.{[], Bool, ◌≡◌, refl, sym, subst, ap, ◌∙◌, Options}
use Rattle.std.proofs.Common.{true, false}
use Rattle.std.proofs.lemmas.Bool.{true≢false}
use Rattle.geolint_files.specs.Run.{worst_of, IsWholeReport}
use Rattle.geolint_files.proofs.run.judge_all.Goals as goal

allowed : (b : Bool) → (b ≡ false → ⊥) → b ≡ true
allowed true never = refl
allowed false never = absurd (never refl)

pub returns : goal.returns
returns g c =
    let run = c.in_ok-run.run' in
    let contents = g.W.Write.contents in
    let held = contents c.args.out in
    let begun = c.in_ok-begin.ensures held c.in_ok-run.ensures.fresh in
    let (files, of_order, tells) = c.in_ok-judge_order.ensures in
    let told = tells.tells held run.options run.style [] begun in
    let (bytes, whole, out) = c.in_ok-end.ensures.told held run.options run.style files told in
    record {
      files = files;
      of_order = of_order;
      some = λ none. allowed c.args.order.now.allows_empty
          (λ refused. true≢false (sym ((c.lacks_files.ensures files told.summary).1 (none, refused)) ∙ c.if-lacks_files.false));
      style = run.style;
      bytes = bytes;
      whole = subst (λ (options : Options). IsWholeReport options run.style files bytes) c.in_ok-run.ensures.options whole;
      out = out;
      worst_is = c.end.ensures.outcome ∙ told.outcome ∙ ap (λ (options : Options). worst_of options files) c.in_ok-run.ensures.options;
    }
