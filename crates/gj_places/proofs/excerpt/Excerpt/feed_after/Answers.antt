use Rattle.std.proofs.Common.{rules, ◌≡◌, ℕ, ◌+◌, ◌++◌, ◌∷◌, [], List, ap, sym, ◌∙◌, subst, take, drop, get_or, append_assoc}
use Rattle.std.proofs.lemmas.List.{take_more, take-append-drop}
use Rattle.gj_places.specs.Keeping.{Keeps}
use Rattle.gj_places.proofs.excerpt.Excerpt.feed_after.Goals as goal

pub returns-then-is_whole : goal.returns-then-is_whole
returns-then-is_whole c = λ before after keeps.
    let i = c.loop-byte.byte-index in
    let piece = c.args.piece.now in
    let here = c.loop-byte.invariant before after keeps in
    let all = c.is_whole.ensures.whole before (after ++ take i piece) (drop i piece) here c.if-is_whole.true in
    subst (λ (bytes : List ℕ). Keeps c.loop-byte.self before bytes)
    (append_assoc after (take i piece) (drop i piece) ∙ ap (λ (ys : List ℕ). after ++ ys) (take-append-drop i piece)) all

pub loop-byte-preserved : goal.loop-byte-preserved
loop-byte-preserved c = λ before after keeps.
    let i = c.loop-byte.byte-index in
    let piece = c.args.piece.now in
    let behind = c.push_after.ensures before _ (c.loop-byte.invariant before after keeps) in
    let byte = get_or piece i 0 in
    let joined : (after ++ take i piece) ++ byte ∷ [] ≡ after ++ take (i + 1) piece =
    append_assoc after _ _ ∙ ap (λ (ys : List ℕ). after ++ ys) (sym (take_more piece i 0 (search rules))) in
    subst (λ (bytes : List ℕ). Keeps c.push_after.new.self before bytes) joined behind
