-- After a refusal no input is a text; before one, the events that each text has which begins so were reported to the rules.
use Rattle.gj_rules.proofs.Common.{Event, List, arith, length, subst, sym, ◌++◌, ◌∙◌}
use Rattle.gj_rules.specs.Linter.{StandsFor}
use Rattle.gj_rules.specs.Rules.{StandsFor as RulesStandFor}
use Rattle.gj_rules.proofs.Texts.LinterEvents.{taken_all}
use Rattle.gj_rules.proofs.linter.Linter.doomed.Goals as goal

pub returns-in-Some-clause-sound : goal.returns-in-Some-clause-sound
unfolding StandsFor
returns-in-Some-clause-sound c = λ bytes h e more warnings v.
    let self = c.args.self.now in
    c.one_refusal.ensures.never_both _ (bytes ++ more) c.in-Some.field-0 v.0
    (c.refusal.ensures.lasting bytes more c.in-Some.field-0 h.0 (sym c.refusal.ensures.value ∙ c.in-Some.is)) v.1

pub returns-in-None-clause-sound : goal.returns-in-None-clause-sound
unfolding StandsFor
returns-in-None-clause-sound c = λ bytes h e more warnings v.
    let self = c.args.self.now in
    let n = c.bytes_taken.ensures.«open» self.reader bytes h.0 (sym c.refusal.ensures.value ∙ c.in-None.is) in
    let k = taken_all (RulesStandFor self.rules) bytes _ n h.1 in
    let P : List Event → Type 0 = λ xs. RulesStandFor self.rules xs in
    let told = subst P (sym (k.complete v.0 more v.1.0.0)) k.told in
    c.doomed.ensures.sound v.0 (bytes ++ more) (length bytes) v.1.0.0 (omega (arith, v.1.0.1, self.shallow)) told e v.2

pub returns-in-None-clause-early : goal.returns-in-None-clause-early
unfolding StandsFor
returns-in-None-clause-early c = λ bytes h live b.
    let self = c.args.self.now in
    let n = c.bytes_taken.ensures.«open» self.reader bytes h.0 live in
    let k = taken_all (RulesStandFor self.rules) bytes _ n h.1 in
    let P : List Event → Type 0 = λ xs. RulesStandFor self.rules xs in
    let told = subst P (sym (k.complete b.1 b.0 b.2.0)) k.told in
    (c.doomed.ensures.early b.1 (bytes ++ b.0) (length bytes) b.2.0 (omega (arith, b.2.1, self.shallow)) told b.3)
