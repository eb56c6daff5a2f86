use Rattle.std.proofs.Common.{◌∙◌, ◌++◌, ap, sym, map-id, ℕ, List}
use Rattle.std.specs.List.{flat_map}
use Rattle.std.proofs.lemmas.Iterator.{YieldsList-from_chars}
use Rattle.std.proofs.lemmas.Iterator.Consumers.{YieldsList-end}
use Rattle.report_forms.specs.Names.{shown_char, shown_text}
use Rattle.report_forms.proofs.texts.put_text.Goals as goal

pub returns : goal.returns
unfolding shown_text
returns c =
    let end = YieldsList-end
    (YieldsList-from_chars c.args.text.now c.utf8.text cc) c.loop-c.yielded _ c.loop-c.yielded_by _ _ c.in-None.is c.next.ensures.steps in
    c.loop-c.invariant.done ∙ ap (λ (cs : List ℕ). c.args.line.now.items ++ flat_map shown_char cs) (sym (map-id c.loop-c.yielded) ∙ end.0)
