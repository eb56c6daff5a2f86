-- The bytes up to the place were taken, and those after a byte that decided change nothing.
use Rattle.gj_rules.proofs.Common.{List, ap, false, is_decided, is_some, rules, subst, sym, take, take_all, true, ◌++◌, ◌∙◌}
use Rattle.std.proofs.Common.{◌≡◌, ℕ}
use Rattle.gj_json.proofs.Events.FinishedTexts.{none_is}
use Rattle.gj_rules.specs.declared.sequence.SeqProgress.TheVariants.{Open, Decided}
use Rattle.gj_rules.specs.SequenceStands.{StandsFor}
use Rattle.gj_rules.proofs.Parts.RecordSteps.{further_at}
use Rattle.gj_rules.proofs.Sequences.SequenceSteps.{rest_fed, fed_answers}
use Rattle.gj_rules.proofs.sequence.Sequence.feed.Goals as goal

pub returns-then-is_some-clause-stands : goal.returns-then-is_some-clause-stands
returns-then-is_some-clause-stands c = λ bytes s.
    rest_fed c.loop-at.self bytes c.args.piece.now c.loop-at.at (sym c.is_some.ensures ∙ c.if-is_some.true) (c.loop-at.invariant.stands bytes s)

pub returns-then-is_some-clause-answer : goal.returns-then-is_some-clause-answer
returns-then-is_some-clause-answer c = λ bytes s.
    let settled = sym c.is_some.ensures ∙ c.if-is_some.true in
    fed_answers c.loop-at.self c.args.self.now.records.limits (bytes ++ c.args.piece.now) Decided c.loop-at.invariant.limits (sym settled)
    (rest_fed c.loop-at.self bytes c.args.piece.now c.loop-at.at settled (c.loop-at.invariant.stands bytes s))

pub take-at-requires-clause-live : goal.take-at-requires-clause-live
take-at-requires-clause-live c = none_is c.loop-at.self.decided (sym c.is_some.ensures ∙ c.if-is_some.false)

pub loop-at-preserved : goal.loop-at-preserved
loop-at-preserved c = record {
  within = search rules;
  stands = λ bytes s.
      further_at (λ bs. StandsFor c.take-at.new.self bs) bytes c.args.piece.now c.loop-at.at c.take-at.result c.loop-at.invariant.within
      (c.take-at.ensures.stands (bytes ++ take c.loop-at.at c.args.piece.now) (c.loop-at.invariant.stands bytes s));
  limits = c.take-at.ensures.limits ∙ c.loop-at.invariant.limits;
  again = λ e.
      let same : is_decided c.loop-at.self ≡ is_decided c.args.self.now = ap is_decided (c.loop-at.invariant.again e) in
      let none : true ≡ false = sym e ∙ (sym same ∙ (sym c.is_some.ensures ∙ c.if-is_some.false)) in cc;
}

pub returns-in-None-clause-answer : goal.returns-in-None-clause-answer
returns-in-None-clause-answer c = λ bytes s.
    let P : List ℕ → Type 0 = λ bs. StandsFor c.loop-at.self (bytes ++ bs) in
    fed_answers c.loop-at.self c.args.self.now.records.limits (bytes ++ c.args.piece.now) Open c.loop-at.invariant.limits (sym (ap is_some c.in-None.is))
    (subst P (take_all c.loop-at.at c.args.piece.now c.loop-at-test.false) (c.loop-at.invariant.stands bytes s))
