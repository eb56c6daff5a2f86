-- The verdict, and all features of an admitted text.
use Rattle.gj_rules.proofs.Common.{IsText, Stand, Text, all_events, ap, arith, features_from, features_of, option_to_list, subst, sym, [], ◌++◌, ◌∙◌}
use Rattle.std.proofs.Common.{◌≡◌, append-nil}
use Rattle.gj_rules.specs.FeatureLinter.{StandsFor}
use Rattle.gj_rules.proofs.Features.FeaturesSaid.{all_told_says}
use Rattle.gj_rules.proofs.Features.FeaturesSoFar.{all_features_are}
use Rattle.gj_rules.proofs.Texts.LinterEvents
use Rattle.gj_rules.proofs.feature_linter.FeatureLinter.end.Goals as goal

pub returns-in-Ok-clause-verdict : goal.returns-in-Ok-clause-verdict
unfolding StandsFor
returns-in-Ok-clause-verdict g c = λ bytes h.
    let self = c.args.self.now in
    let Old = Stand (g.S.FeatureSink.told self.rules.sink) self.rules.rules self.rules.count in
    let live = LinterEvents.was_live self.reader c.finish.result c.in-Ok.last (λ fault e. c.finish.ensures.again fault e) c.in-Ok.is in
    let f = rw (c.in-Ok.is) at (c.finish.ensures.answer bytes h.0) in
    let k = LinterEvents.taken_all Old bytes _ (c.bytes_taken.ensures.«open» self.reader bytes h.0 live) h.1 in
    rw (c.verdict_of.ensures)
    (LinterEvents.end_verdict _ bytes Old c.rules-rules.result.now c.in-Ok.last c.fault.result c.warnings.result self.shallow self.short k f
    (λ events s. c.rules-rules.ensures _ (c.tell_last.ensures events s)) c.fault.ensures c.warnings.ensures.kept c.few_events.ensures
    c.kept_warnings.ensures.short)

pub returns-in-Ok-clause-told : goal.returns-in-Ok-clause-told
unfolding StandsFor
returns-in-Ok-clause-told g c = λ bytes text h a.
    let self = c.args.self.now in
    let new = c.tell_last.new.sink in
    let Told = g.S.FeatureSink.told in
    let Old = Stand (Told self.rules.sink) self.rules.rules self.rules.count in
    let live = LinterEvents.was_live self.reader c.finish.result c.in-Ok.last (λ fault e. c.finish.ensures.again fault e) c.in-Ok.is in
    let f = rw (c.in-Ok.is) at (c.finish.ensures.answer bytes h.0) in
    let k = LinterEvents.taken_all Old bytes _ (c.bytes_taken.ensures.«open» self.reader bytes h.0 live) h.1 in
    let t : IsText f.0 (bytes ++ []) = (let x = f.1.0.0 in rw (append-nil bytes) x) in
    let e : all_events f.0 ≡ k.events ++ option_to_list c.in-Ok.last = f.2 ∙ ap (λ xs. xs ++ option_to_list c.in-Ok.last) (k.complete f.0 [] t) in
    let same : f.0 ≡ text = c.one_text.ensures f.0 text bytes f.1.0.0 a.0.0 in
    let i : all_events text ≡ k.events ++ option_to_list c.in-Ok.last = sym (ap (λ (x : Text). all_events x) same) ∙ e in
    let stand = subst (λ es. Stand (Told new.sink) new.rules new.count es) (sym i) (c.tell_last.ensures k.events k.told) in
    let few = c.few_events.ensures text bytes a.0.0 in (
      features_from 0 (features_of text.value),
      all_features_are (Told new.sink) new.count text (omega (arith, a.0.1, self.shallow)) (omega (arith, few, a.1, self.short)) stand.1,
      all_told_says c.kept_warnings.ensures.short text (omega (arith, few, a.1, self.short)),
    )

pub returns-in-Err-clause-verdict : goal.returns-in-Err-clause-verdict
unfolding StandsFor
returns-in-Err-clause-verdict g c = λ bytes h. rw (c.in-Err.is) at (c.finish.ensures.answer bytes h.0)

pub returns-in-Err-clause-told : goal.returns-in-Err-clause-told
unfolding StandsFor
returns-in-Err-clause-told g c =
    λ bytes text h a. absurd (c.one_refusal.ensures.never_both _ bytes c.in-Err.fault text (rw (c.in-Err.is) at (c.finish.ensures.answer bytes h.0)) a)
