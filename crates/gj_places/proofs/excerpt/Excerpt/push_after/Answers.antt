use Rattle.std.proofs.Common.{rules, ap, sym, ◌∙◌, subst, ◌≡◌, ◌<◌, ◌++◌, ◌∷◌, [], ℕ, List, length, take}
use Rattle.std.specs.Prelude.{true, false}
use Rattle.std.proofs.lemmas.Bool.{true≢false}
use Rattle.gj_places.specs.Lines.{is_line_feed}
use Rattle.gj_places.proofs.KeptLines.{first-feed, first-room, has-behind, has-neither, has-one}
use Rattle.gj_places.proofs.excerpt.Excerpt.push_after.Goals as goal

pub returns-then-byte-eq10 : goal.returns-then-byte-eq10
returns-then-byte-eq10 c = λ before after keeps.
    let is : is_line_feed c.args.byte ≡ true = search rules in
    let room : length c.args.self.now.after.items < 256 = search rules in
    let lacks = keeps.goes_on c.requires.open room in
    record {
      front = keeps.front;
      rest = keeps.rest ∙ ap (take 256) (sym (first-feed after c.args.byte lacks is));
      whole = λ ended. has-behind after (c.args.byte ∷ []) (has-one c.args.byte true is);
      goes_on = λ goes room. absurd (true≢false goes);
    }

pub returns-else-byte-eq10 : goal.returns-else-byte-eq10
returns-else-byte-eq10 c = λ before after keeps.
    let other : is_line_feed c.args.byte ≡ false = search rules in
    let room : length c.args.self.now.after.items < 256 = search rules in
    let lacks = keeps.goes_on c.requires.open room in
    record {
      front = keeps.front;
      rest = c.push.ensures.items ∙ ap (λ (ys : List ℕ). ys ++ c.args.byte ∷ []) keeps.rest
          ∙ sym (first-room 256 after c.args.byte lacks other (subst (λ (items : List ℕ). length items < 256) keeps.rest room));
      whole = λ ended. absurd (cc);
      goes_on = λ goes room. has-neither after (c.args.byte ∷ []) (has-one c.args.byte false other) ∙ lacks;
    }
