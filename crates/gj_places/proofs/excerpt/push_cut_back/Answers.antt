use Rattle.std.proofs.Common.{◌++◌, ◌∙◌, ap, sym, append_assoc, List, ℕ, codes, string_bytes}
use Rattle.gj_places.proofs.KeptLines.{cut_back-more}
use Rattle.gj_places.proofs.excerpt.push_cut_back.Goals as goal

pub returns-in_ok-push_str : goal.returns-in_ok-push_str
returns-in_ok-push_str c =
    let start = string_bytes c.args.text.now in
    c.in_ok-push_str.ensures.bytes ∙ ap (λ (ys : List ℕ). ys ++ codes "...") c.in_ok-push_all.ensures ∙ append_assoc start _ _
    ∙ ap (λ (ys : List ℕ). start ++ ys) (sym (cut_back-more c.args.shown.now _ c.min-most.ensures c.if-most-shown.true))
