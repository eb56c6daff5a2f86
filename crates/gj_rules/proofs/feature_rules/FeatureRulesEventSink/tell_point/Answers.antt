-- A whole Point as the first `geometry` of a feature.
use Rattle.gj_rules.proofs.Common.{core_of}
use Rattle.gj_json.specs.Head.{point_events}
use Rattle.gj_rules.proofs.Features.EventsPassed.{passed, point_passed}
use Rattle.gj_rules.proofs.Features.FeaturesSoFar.{more_heard}
use Rattle.gj_rules.proofs.feature_rules.FeatureRulesEventSink.tell_point.Goals as goal

pub returns-then-takes_point : goal.returns-then-takes_point
returns-then-takes_point g c = λ events h.
    let old = c.args.self.now in
    let Says = g.S.FeatureSink.told old.sink in
    let es = point_events c.args.located.now c.args.flat.now c.args.close in
    let takes = c.takes_point.ensures in
    let yes = c.if-takes_point.true in (
      c.tell_point.ensures events h.0,
      more_heard Says Says old.rules old.count old.count events es
          (passed Says old.count (core_of old.rules) es
          (point_passed (core_of old.rules) c.args.located.now c.args.flat.now c.args.close (takes.skipped yes) (takes.mode yes) (takes.due yes))) h.0 h.1,
    )
