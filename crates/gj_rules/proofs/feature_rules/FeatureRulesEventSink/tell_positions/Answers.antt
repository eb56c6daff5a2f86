-- Arrays of numbers in a `coordinates`.
use Rattle.gj_rules.proofs.Common.{Stand, core_of, flats_events, refl}
use Rattle.gj_rules.proofs.Features.EventsPassed.{flats_passed, passed}
use Rattle.gj_rules.proofs.Features.FeaturesSoFar.{more_heard}
use Rattle.gj_rules.proofs.Texts.PositionsMore.{none_more}
use Rattle.gj_rules.proofs.feature_rules.FeatureRulesEventSink.tell_positions.Goals as goal

pub returns-then-awaits-clause-heard : goal.returns-then-awaits-clause-heard
returns-then-awaits-clause-heard g c = λ flats are events h.
    let old = c.args.self.now in
    let Says = g.S.FeatureSink.told old.sink in
    let yes = c.if-awaits.true in (
      c.tell_positions.ensures.heard flats are events h.0,
      more_heard Says Says old.rules old.count old.count events (flats_events flats)
          (passed Says old.count (core_of old.rules) (flats_events flats)
          (flats_passed (core_of old.rules) flats (rw (c.awaits.ensures.skipped yes, c.awaits.ensures.mode yes) refl))) h.0 h.1,
    )

pub returns-else-awaits-clause-heard : goal.returns-else-awaits-clause-heard
returns-else-awaits-clause-heard g c =
    let old = c.args.self.now in
    none_more (Stand (g.S.FeatureSink.told old.sink) old.rules old.count)
