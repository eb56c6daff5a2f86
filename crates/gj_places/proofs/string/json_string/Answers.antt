use Rattle.std.proofs.Common.{arith, ◌++◌, ◌∙◌, ℕ, List, ap, ap₂, sym, subst, map-id, string_bytes, encode_utf8_all}
use Rattle.std.proofs.lemmas.Str.{IsUtf8-string_bytes, encodes-chars, encode_ascii}
use Rattle.std.proofs.lemmas.Iterator.{YieldsList-from_chars}
use Rattle.std.proofs.lemmas.Iterator.Consumers.{YieldsList-end}
use Rattle.gj_places.specs.Strings.{SpellsString}
use Rattle.gj_places.proofs.Spelling.{spells_more, spells_string}
use Rattle.gj_places.proofs.string.json_string.Goals as goal

pub loop-c-preserved : goal.loop-c-preserved
loop-c-preserved c =
    let (body, is, so_far) = c.loop-c.invariant in
    let (added, spells, more) = c.in_ok-push_spelled.ensures in
    (body ++ added, more ∙ ap (λ (bytes : List ℕ). bytes ++ added) is, spells_more c.loop-c.yielded body added c.in-Some.c so_far spells)

pub returns : goal.returns
returns c =
    let (body, is, spells) = c.loop-c.invariant in
    let text = string_bytes c.in_ok-text.text in
    let utf8 = IsUtf8-string_bytes c.in_ok-text.text in
    let end = YieldsList-end (YieldsList-from_chars text utf8 cc) c.loop-c.yielded _ c.loop-c.yielded_by _ _ c.in-None.is c.next.ensures.steps in
    let whole = ap encode_utf8_all (sym (map-id c.loop-c.yielded) ∙ end.0) ∙ encodes-chars text utf8 ∙ c.in_ok-text.ensures.lossy in
    let written = c.in_ok-push-2.ensures.bytes ∙ ap₂ (λ (l r : List ℕ). l ++ r) is (encode_ascii 34 (omega arith)) in
    subst (SpellsString c.args.bytes.now) (sym written) (spells_string c.args.bytes.now (encode_utf8_all c.loop-c.yielded) body whole spells)
