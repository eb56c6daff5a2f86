use Rattle.std.proofs.Common.{map, sym, ap, ◌∙◌, map-id, string_bytes, chars}
use Rattle.std.proofs.lemmas.Str.{IsUtf8-string_bytes}
use Rattle.std.proofs.lemmas.Iterator.{YieldsList-from_chars}
use Rattle.std.proofs.lemmas.Iterator.Consumers.{YieldsList-end}
use Rattle.gj_places.specs.Excerpts.{harmless}
use Rattle.gj_places.proofs.excerpt.characters_of.Goals as goal

pub returns : goal.returns
returns c =
    let end = YieldsList-end (YieldsList-from_chars (string_bytes c.in_ok-text.text) (IsUtf8-string_bytes c.in_ok-text.text) cc) c.loop-c.yielded _
    c.loop-c.yielded_by _ _ c.in-None.is c.next.ensures.steps in
    c.loop-c.invariant ∙ ap (map harmless) (sym (map-id c.loop-c.yielded) ∙ end.0 ∙ ap chars c.in_ok-text.ensures.lossy)
