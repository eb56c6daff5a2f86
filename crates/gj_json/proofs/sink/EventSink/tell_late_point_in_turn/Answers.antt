-- A whole Point whose coordinates stand before its type, by its events, one after another.
use Rattle.gj_json.proofs.Common.{Event, List, append_assoc, flat_events, subst, [], ◌++◌, ◌∷◌, ◌≡◌}
use Rattle.gj_json.proofs.sink.EventSink.tell_late_point_in_turn.Goals as goal

by_parts : (xs fs : List Event) (a b c d e f : Event)
    → ((((((xs ++ a ∷ []) ++ b ∷ []) ++ c ∷ []) ++ fs) ++ d ∷ []) ++ e ∷ []) ++ f ∷ [] ≡ xs ++ (a ∷ b ∷ c ∷ (fs ++ (d ∷ e ∷ f ∷ [])))
by_parts xs fs a b c d e f = simp append_assoc

pub returns : goal.returns
returns g c = λ events h.
    let H : List Event → Type 0 = λ es. g.Self.EventSink.heard c.tell-6.new.self es in
    let placed = c.tell_flat_in_turn.ensures _ (c.tell-3.ensures _ (c.tell-2.ensures _ (c.tell.ensures events h))) in
    subst H (by_parts events (flat_events c.args.flat.now) _ _ _ _ _ _) (c.tell-6.ensures _ (c.tell-5.ensures _ (c.tell-4.ensures _ placed)))
