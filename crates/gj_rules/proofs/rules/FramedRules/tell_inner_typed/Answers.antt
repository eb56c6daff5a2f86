use Rattle.gj_rules.proofs.Common.{Event, List, subst}
use Rattle.gj_rules.specs.Rules.{StandsFor}
use Rattle.gj_rules.proofs.rules.FramedRules.tell_inner_typed.Goals as goal
use Rattle.gj_json.proofs.Events.EventsInTurn.{three}

pub returns : goal.returns
returns g c = λ events h.
    let H : List Event → Type 0 = λ es. StandsFor c.tell_text.new.self es in
    subst H (three events _ _ _) (c.tell_text.ensures _ (c.tell_name.ensures _ (c.tell_open_object.ensures events h)))
