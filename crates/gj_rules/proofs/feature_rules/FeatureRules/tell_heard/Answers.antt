-- What is heard of the event, as the rules stand before it.
use Rattle.gj_rules.proofs.Common.{core_of, subst, sym, [], ◌∷◌}
use Rattle.gj_rules.specs.Rules.{StandsFor}
use Rattle.gj_rules.proofs.Features.FeaturesSoFar.{more_heard, one_more}
use Rattle.gj_rules.proofs.feature_rules.FeatureRules.tell_heard.Goals as goal

pub returns : goal.returns
returns g c = λ events h.
    let old = c.args.self.now in
    let new = c.hear.new.self in
    let Old = g.S.FeatureSink.told old.sink in
    let New = g.S.FeatureSink.told new.sink in (
      c.tell.ensures events (subst (λ rules. StandsFor rules events) (sym c.hear.ensures.rules) h.0),
      more_heard Old New old.rules old.count new.count events (c.args.event ∷ [])
          (one_more Old New old.count new.count (core_of old.rules) c.args.event c.hear.ensures.heard) h.0 h.1,
    )
