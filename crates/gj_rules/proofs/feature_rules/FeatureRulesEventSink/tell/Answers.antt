-- An event by its kind.
use Rattle.gj_rules.proofs.Common.{Stand, What, subst, sym, [], ◌++◌, ◌∷◌}
use Rattle.gj_rules.proofs.feature_rules.FeatureRulesEventSink.tell.Goals as goal

pub returns-in-CloseObject : goal.returns-in-CloseObject
returns-in-CloseObject g c = λ events h.
    let new = c.tell_close_object.new.self in
    subst (λ (w : What). Stand (g.S.FeatureSink.told new.sink) new.rules new.count (events ++ record { place = c.args.event.place; what = w } ∷ []))
    (sym c.in-CloseObject.is) (c.tell_close_object.ensures events h)
