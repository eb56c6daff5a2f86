-- The pair has room for all events of a byte.
use Rattle.gj_json.proofs.Common.{Completed, Event, List, length, subst, sym, [], ◌++◌, ◌+◌, ◌∷◌, ◌≡◌}
use Rattle.gj_json.proofs.reader.Reader.push.Goals as goal

pub returns-in-Ok-clause-events : goal.returns-in-Ok-clause-events
returns-in-Ok-clause-events c = λ bytes h.
    let heard = rw (c.in-Ok.is) at (c.take_next.ensures.told bytes [] h (λ l. c.new-told.ensures)) in
    let all : c.take_next.new.sink.events.items ≡ heard.found = heard.told heard.few in
    subst (λ (es : List Event). Completed (length bytes) (length bytes + 1) (bytes ++ c.args.byte ∷ []) es) (sym all) heard.completed
