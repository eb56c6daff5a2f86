-- Those before the one that has decided, or all of them.
use Rattle.gj_rules.proofs.Common.{ap, subst, sym, ◌∙◌}
use Rattle.std.proofs.Common.{ℕ, unwrap_or}
use Rattle.gj_json.proofs.Events.FinishedTexts.{none_is}
use Rattle.gj_rules.specs.Sequence.{IsDecidedAt}
use Rattle.gj_rules.proofs.Sequences.SequenceSteps.{live_of, live_place, decided_place}
use Rattle.gj_rules.proofs.sequence.Sequence.offset.Goals as goal

pub returns-clause-taken : goal.returns-clause-taken
returns-clause-taken c = λ bytes s live.
    let self = c.args.self.now in
    let none = none_is self.decided live in
    c.unwrap_or.ensures ∙ (ap (λ o. unwrap_or o c.offset.result) none
    ∙ live_place self bytes c.offset.result none (live_of self bytes none s) (λ found stands. c.offset.ensures bytes found stands))

pub returns-clause-decided : goal.returns-clause-decided
returns-clause-decided c = λ bytes s settled.
    let self = c.args.self.now in
    let P : ℕ → Type 0 = λ n. IsDecidedAt self.records.limits bytes n in
    subst P (sym c.unwrap_or.ensures) (decided_place self bytes c.offset.result settled s)
