use Rattle.std.proofs.Common.{rules, ◌++◌, ◌∙◌, ap, sym, append_assoc, ℕ, List, string_bytes, encode_utf8}
use Rattle.gj_places.proofs.KeptLines.{encodes-more}
use Rattle.gj_places.proofs.excerpt.push_all.Goals as goal

pub loop-c-preserved : goal.loop-c-preserved
loop-c-preserved c =
    let shown = c.args.shown.now in
    let i = c.loop-c.c-index in
    let start = string_bytes c.args.text.now in
    let one = c.c-item.result in
    let more = encodes-more shown i one (search rules) c.c-item.is in
    c.in_ok-push.ensures.bytes ∙ ap (λ (ys : List ℕ). ys ++ encode_utf8 one) c.loop-c.invariant ∙ append_assoc start _ _
    ∙ ap (λ (ys : List ℕ). start ++ ys) (sym more)
