-- The beginning, the position and the end, one after another.
use Rattle.gj_rules.proofs.Common.{Event, List, Stand, append_assoc, flat_events, located_events, subst, ◌++◌, ◌∙◌}
use Rattle.std.proofs.Common.{◌≡◌}
use Rattle.gj_rules.proofs.feature_rules.FeatureRules.tell_point_in_turn.Goals as goal

by_parts : (xs ys zs ws : List Event) → ((xs ++ ys) ++ zs) ++ ws ≡ xs ++ (ys ++ (zs ++ ws))
by_parts xs ys zs ws = append_assoc (xs ++ ys) zs ws ∙ append_assoc xs ys (zs ++ ws)

pub returns : goal.returns
returns g c = λ events h.
    let last = c.tell_close_object.new.self in
    let H : List Event → Type 0 = λ es. Stand (g.S.FeatureSink.told last.sink) last.rules last.count es in
    subst H (by_parts events (located_events c.args.located.now) (flat_events c.args.flat.now) _)
    (c.tell_close_object.ensures _ (c.tell_flat.ensures _ (c.tell_head.ensures events h)))
