-- The events, one after another.
use Rattle.gj_json.proofs.Common.{Event, List, subst}
use Rattle.gj_json.proofs.sink.EventSink.tell_head.Goals as goal
use Rattle.gj_json.proofs.Events.EventsInTurn.{around_three}

pub returns-in-Geometry : goal.returns-in-Geometry
returns-in-Geometry g c = λ events h.
    let H : List Event → Type 0 = λ es. g.Self.EventSink.heard c.tell-in-Geometry.new.self es in
    let four = c.tell_typed-in-Geometry.ensures _ (c.tell.ensures events h) in
    rw (c.in-Geometry.is) (subst H (around_three events _ _ _ _ _) (c.tell-in-Geometry.ensures _ four))
