-- The beginning of an object, of a geometry or of properties: only the first may begin the value of an `id`.
use Rattle.gj_rules.proofs.Common.{Stand, core_of, located_events, subst, sym, ◌++◌}
use Rattle.gj_json.specs.declared.head.Head.{Head}
use Rattle.gj_json.specs.Head.{head_events, opened_events, typed_events}
use Rattle.gj_rules.specs.Rules.{StandsFor}
use Rattle.gj_rules.proofs.Features.EventsPassed.{located_passed, opened_passed, passed, typed_on}
use Rattle.gj_rules.proofs.Features.FeaturesSoFar.{more_heard}
use Rattle.gj_rules.proofs.feature_rules.FeatureRulesEventSink.tell_head.Goals as goal

pub returns-in-Object : goal.returns-in-Object
returns-in-Object g c = λ events h.
    let old = c.args.self.now in
    let mid = c.hear.new.self in
    let Old = g.S.FeatureSink.told old.sink in
    let New = g.S.FeatureSink.told mid.sink in
    let typed = c.in-Object.typed in
    subst (λ (head : Head). Stand New c.tell_typed.new.self mid.count (events ++ head_events head)) (sym c.in-Object.is) (
      c.tell_typed.ensures events (subst (λ rules. StandsFor rules events) (sym c.hear.ensures.rules) h.0),
      more_heard Old New old.rules old.count mid.count events (typed_events typed)
          (typed_on Old New old.count mid.count (core_of old.rules) typed c.hear.ensures.heard) h.0 h.1,
    )

pub returns-in-Geometry : goal.returns-in-Geometry
returns-in-Geometry g c = λ events h.
    let old = c.args.self.now in
    let Says = g.S.FeatureSink.told old.sink in
    let located = c.in-Geometry.located in
    subst (λ (head : Head). Stand Says c.tell_located.new.self old.count (events ++ head_events head)) (sym c.in-Geometry.is) (
      c.tell_located.ensures events h.0,
      more_heard Says Says old.rules old.count old.count events (located_events located)
          (passed Says old.count (core_of old.rules) (located_events located) (located_passed (core_of old.rules) located)) h.0 h.1,
    )

pub returns-in-Properties : goal.returns-in-Properties
returns-in-Properties g c = λ events h.
    let old = c.args.self.now in
    let Says = g.S.FeatureSink.told old.sink in
    let opened = c.in-Properties.opened in
    subst (λ (head : Head). Stand Says c.tell_properties.new.self old.count (events ++ head_events head)) (sym c.in-Properties.is) (
      c.tell_properties.ensures events h.0,
      more_heard Says Says old.rules old.count old.count events (opened_events opened)
          (passed Says old.count (core_of old.rules) (opened_events opened) (opened_passed (core_of old.rules) opened)) h.0 h.1,
    )
