-- What the piece leaves.
use Rattle.gj_rules.proofs.Common.{Stand, subst, sym}
use Rattle.gj_rules.specs.FeatureLinter.{StandsFor}
use Rattle.gj_rules.proofs.Texts.LinterEvents
use Rattle.gj_rules.proofs.feature_linter.FeatureLinter.feed.Goals as goal

pub returns-in-Ok-clause-stands : goal.returns-in-Ok-clause-stands
unfolding StandsFor
returns-in-Ok-clause-stands g c = λ bytes h.
    let old = c.args.self.now in
    let new = c.feed.new.sink in
    let Told = g.S.FeatureSink.told in
    let laws = c.bytes_taken.ensures in
    let live = LinterEvents.was_live old.reader c.feed.result c.in-Ok.field-0 (λ fault e. (c.feed.ensures.again fault e).2) c.in-Ok.is in
    let stands = c.feed.ensures.stands bytes h.0 in
    let on = rw (c.in-Ok.is) at c.feed.ensures.refusal in (
      stands,
      LinterEvents.fed_ok laws.«open» laws.refused laws.within old.reader c.feed.new.self (Stand (Told old.rules.sink) old.rules.rules old.rules.count)
          (Stand (Told new.sink) new.rules new.count) bytes c.args.piece.now h.0 stands live on h.1
          (λ events told. let k = c.feed.ensures.heard bytes events live h.0 told in rw (c.in-Ok.is) at k),
    )

pub returns-in-Err-clause-stands : goal.returns-in-Err-clause-stands
unfolding StandsFor
returns-in-Err-clause-stands g c = λ bytes h.
    let old = c.args.self.now in
    let new = c.feed.new.sink in
    let Told = g.S.FeatureSink.told in
    let laws = c.bytes_taken.ensures in
    let stands = c.feed.ensures.stands bytes h.0 in
    let on = rw (c.in-Err.is) at c.feed.ensures.refusal in (
      stands,
      LinterEvents.fed_refused laws.«open» laws.refused laws.within old.reader c.feed.new.self (Stand (Told old.rules.sink) old.rules.rules old.rules.count)
          (Stand (Told new.sink) new.rules new.count) bytes c.args.piece.now c.in-Err.fault h.0 stands on c.feed.ensures.on h.1
          (λ events live told. let k = c.feed.ensures.heard bytes events live h.0 told in rw (c.in-Err.is) at k)
          (λ fault e. let a = c.feed.ensures.again fault e in
          (a.0, λ events told. subst (λ all. Stand (Told all.sink) all.rules all.count events) (sym a.1) told)),
    )

pub returns-in-Ok-clause-answer : goal.returns-in-Ok-clause-answer
unfolding StandsFor
returns-in-Ok-clause-answer g c = λ bytes h. rw (c.in-Ok.is) at (c.feed.ensures.answer bytes h.0)

pub returns-in-Err-clause-answer : goal.returns-in-Err-clause-answer
unfolding StandsFor
returns-in-Err-clause-answer g c = λ bytes h. (rw (c.in-Err.is) at (c.feed.ensures.answer bytes h.0)).1
