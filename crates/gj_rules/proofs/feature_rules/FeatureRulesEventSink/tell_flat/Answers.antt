-- An array of numbers in a value in which nothing has a role.
use Rattle.gj_rules.proofs.Common.{core_of, flat_events}
use Rattle.gj_rules.proofs.Features.EventsPassed.{flat_passed, passed}
use Rattle.gj_rules.proofs.Features.FeaturesSoFar.{more_heard}
use Rattle.gj_rules.proofs.feature_rules.FeatureRulesEventSink.tell_flat.Goals as goal

pub returns-then-is_in_value : goal.returns-then-is_in_value
returns-then-is_in_value g c = λ events h.
    let old = c.args.self.now in
    let Says = g.S.FeatureSink.told old.sink in
    let flat = c.args.flat.now in (
      c.tell_flat.ensures events h.0,
      more_heard Says Says old.rules old.count old.count events (flat_events flat)
          (passed Says old.count (core_of old.rules) (flat_events flat)
          (flat_passed (core_of old.rules) flat (c.is_in_value.ensures c.if-is_in_value.true))) h.0 h.1,
    )
