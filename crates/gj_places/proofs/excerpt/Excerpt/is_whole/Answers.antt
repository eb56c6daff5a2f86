use Rattle.std.proofs.Common.{rules, arith, ap, sym, ◌∙◌, subst, ◌≤◌, ℕ, List, length, take}
use Rattle.gj_places.proofs.KeptLines.{first_line-ended, first-full, has-before}
use Rattle.gj_places.proofs.excerpt.Excerpt.is_whole.Goals as goal

pub returns-then-self-clause-whole : goal.returns-then-self-clause-whole
returns-then-self-clause-whole c = λ before after more keeps is.
    let has = keeps.whole is in
    record {
      front = keeps.front;
      rest = keeps.rest ∙ ap (take 256) (sym (first_line-ended after more has));
      whole = λ ended. has-before after more has;
      goes_on = λ goes room. absurd (cc);
    }

pub returns-else-self-clause-whole : goal.returns-else-self-clause-whole
returns-else-self-clause-whole c = λ before after more keeps is.
    let full : 256 ≤ length c.args.self.now.after.items = search (arith, rules, c.is_full.ensures.value, is) in
    record {
      front = keeps.front;
      rest = keeps.rest ∙ sym (first-full 256 after more (subst (λ (items : List ℕ). 256 ≤ length items) keeps.rest full));
      whole = λ ended. has-before after more (keeps.whole ended);
      goes_on = λ goes room. absurd (omega (arith, full, room));
    }
