use Rattle.std.proofs.Common.{[], ap, sym, ◌∙◌}
use Rattle.std.proofs.lemmas.List.{get_or-map}
use Rattle.report_forms.proofs.manual.text_at.Goals as goal

pub returns-in-Some : goal.returns-in-Some
returns-in-Some c =
    let found = c.in-Some.ensures.lookup.3 in
    sym (get_or-map (λ text. text.now) c.args.texts.now c.args.place c.in-Some.text.now [] found.0 ∙ ap (λ text. text.now) (sym (found.1 c.in-Some.text.now)))
