-- The events, one after another.
use Rattle.gj_json.proofs.Common.{Event, List, subst}
use Rattle.gj_json.proofs.sink.EventSink.tell_flat_in_turn.Goals as goal
use Rattle.gj_json.proofs.sink.EventSink.tell_flat_in_turn.Goals.{in-Some, in_default}
use Rattle.gj_json.proofs.Events.EventsInTurn.{four, five}

pub returns : goal.returns
returns g c = λ events h.
    let H : List Event → Type 0 = λ es. g.Self.EventSink.heard c.tell-4.new.self es in
    let two = c.tell-3.ensures _ (c.tell-2.ensures _ (c.tell.ensures events h)) in
    elim c.match-flat.branch [
      | in-Some w ↦ (let heard = c.tell-4.ensures _ (rw (w.self-is) (w.tell-in-Some.ensures _ two)) in
          rw (w.in-Some.is, ← c.decimal.ensures, ← c.decimal-2.ensures, ← w.decimal-in-Some.ensures) (subst H (five events _ _ _ _ _) heard))
      | in_default w ↦ (let heard =
          c.tell-4.ensures _ (rw (w.self-is) two) in rw (w.in_default.is, ← c.decimal.ensures, ← c.decimal-2.ensures) (subst H (four events _ _ _ _) heard))
    ]
