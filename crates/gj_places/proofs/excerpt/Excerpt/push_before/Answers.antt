use Rattle.std.proofs.Common.{rules, arith, ap, sym, ◌∙◌, subst, ◌≡◌, ◌≤◌, ◌<◌, ◌++◌, ◌∷◌, [], ℕ, List, length, drop}
use Rattle.std.specs.Prelude.{true, false}
use Rattle.gj_places.specs.Lines.{is_line_feed, last_line}
use Rattle.gj_places.specs.Excerpts.{last_of}
use Rattle.gj_places.proofs.CountedPieces.{last_line-feed}
use Rattle.gj_places.proofs.KeptLines.{has-one, last_line-longer, last_of-room, last_of-full}
use Rattle.gj_places.proofs.excerpt.Excerpt.push_before.Goals as goal
use Rattle.gj_places.proofs.excerpt.Excerpt.push_before.Goals.{then-is_full, else-is_full}

pub returns-then-byte-eq10 : goal.returns-then-byte-eq10
returns-then-byte-eq10 c = λ before keeps.
    let is : is_line_feed c.args.byte ≡ true = search rules in
    record {
      front = c.clear.ensures ∙ ap (last_of 256) (sym (last_line-feed before c.args.byte is));
      rest = keeps.rest;
      whole = keeps.whole;
      goes_on = keeps.goes_on;
    }

pub returns : goal.returns
returns c = λ before keeps.
    let byte = c.args.byte in
    let other : is_line_feed byte ≡ false = search rules in
    let items = c.args.self.now.before.items in
    let line = last_line before in
    let longer = ap (last_of 256) (last_line-longer before (byte ∷ []) (has-one byte false other)) in
    elim c.if-is_full.branch [
      | then-is_full w ↦
          let full : 256 ≤ length items = search (arith, rules) in
          let fewer : c.if-is_full.self.before.items ≡ drop 1 items = rw (w.self-is) (search rules) in
          record {
            front = c.push.ensures.items ∙ ap (λ (ys : List ℕ). ys ++ byte ∷ []) (fewer ∙ ap (drop 1) keeps.front)
                ∙ sym (longer ∙ last_of-full 256 line byte (omega arith) (subst (λ (ys : List ℕ). 256 ≤ length ys) keeps.front full));
            rest = rw (w.self-is) keeps.rest;
            whole = rw (w.self-is) keeps.whole;
            goes_on = rw (w.self-is) keeps.goes_on;
          }
      | else-is_full w ↦
          let room : length items < 256 = search (arith, rules) in
          let same : c.if-is_full.self.before.items ≡ items = rw (w.self-is) (search rules) in
          record {
            front = c.push.ensures.items ∙ ap (λ (ys : List ℕ). ys ++ byte ∷ []) (same ∙ keeps.front)
                ∙ sym (longer ∙ last_of-room 256 line byte (subst (λ (ys : List ℕ). length ys < 256) keeps.front room));
            rest = rw (w.self-is) keeps.rest;
            whole = rw (w.self-is) keeps.whole;
            goes_on = rw (w.self-is) keeps.goes_on;
          }
    ]
