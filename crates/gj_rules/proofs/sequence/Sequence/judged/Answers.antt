-- The objects with a role are those of the open record.
use Rattle.gj_rules.proofs.Common.{List, ap, judged_at, length, subst, sym, ◌++◌, ◌∙◌}
use Rattle.std.proofs.Common.{ℕ}
use Rattle.gj_json.specs.Text.{IsTextWithin}
use Rattle.gj_json.proofs.Events.FinishedTexts.{none_is}
use Rattle.gj_rules.proofs.Sequences.SequenceSteps.{live_of, open_live, last_given, has_number, has_none, not_refused}
use Rattle.gj_rules.proofs.sequence.Sequence.judged.Goals as goal

pub returns-then-self-eq0-clause-open : goal.returns-then-self-eq0-clause-open
returns-then-self-eq0-clause-open c = λ bytes rest before last text s live e t.
    let self = c.args.self.now in
    let none = none_is self.decided live in
    let h = live_of self bytes none s in
    absurd (has_number self bytes h (open_live self bytes none h) before last e c.if-self-eq0.true)

pub returns-clause-none : goal.returns-clause-none
returns-clause-none c = λ bytes s live e.
    let self = c.args.self.now in
    let none = none_is self.decided live in
    let h = live_of self bytes none s in
    absurd (c.if-self-eq0.false (has_none self bytes h (open_live self bytes none h) e))

pub returns-clause-open : goal.returns-clause-open
returns-clause-open c = λ bytes rest before last text s live e t.
    let self = c.args.self.now in
    let none = none_is self.decided live in
    let h = live_of self bytes none s in
    let k = open_live self bytes none h in
    let g = last_given self bytes h k before last e in
    let T : List ℕ → Type 0 = λ bs. IsTextWithin self.records.limits.depth text (bs ++ rest) in
    let D : ℕ → Type 0 = λ d. IsTextWithin d text (k.given ++ rest) in
    c.judged.ensures k.given rest text k.stands (not_refused self bytes h k) (subst D (sym k.depth) (subst T (sym g) t)) ∙ ap (λ bs. judged_at (length bs) text) g
