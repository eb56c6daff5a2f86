-- A whole Point, by its beginning, its position and its end.
use Rattle.gj_json.proofs.Common.{Event, List, append_assoc, flat_events, subst, [], ◌++◌, ◌∷◌, ◌≡◌}
use Rattle.gj_json.specs.Head.{located_events}
use Rattle.gj_json.proofs.sink.EventSink.tell_point.Goals as goal

by_parts : (xs ls fs : List Event) (last : Event) → ((xs ++ ls) ++ fs) ++ last ∷ [] ≡ xs ++ (ls ++ (fs ++ last ∷ []))
by_parts xs ls fs last = simp append_assoc

pub returns : goal.returns
returns g c = λ events h.
    let H : List Event → Type 0 = λ es. g.Self.EventSink.heard c.tell.new.self es in
    subst H (by_parts events (located_events c.args.located.now) (flat_events c.args.flat.now) _)
    (c.tell.ensures _ (c.tell_flat.ensures _ (c.tell_head.ensures events h)))
