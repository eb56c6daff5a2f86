-- The name, and the bracket after it.
use Rattle.gj_rules.proofs.Common.{Event, List, append_assoc, subst, [], ◌∷◌}
use Rattle.gj_rules.specs.Rules.{StandsFor}
use Rattle.gj_rules.proofs.rules.FramedRules.tell_properties.Goals as goal

pub returns-then-awaits : goal.returns-then-awaits
returns-then-awaits g c = λ events h.
    let H : List Event → Type 0 = λ es. StandsFor c.open_properties.new.self es in
    subst H (append_assoc events (_ ∷ []) (_ ∷ [])) (c.open_properties.ensures _ (c.tell_member.ensures events h))

pub returns-else-awaits : goal.returns-else-awaits
returns-else-awaits g c = λ events h.
    let H : List Event → Type 0 = λ es. StandsFor c.tell_open_object.new.self es in
    subst H (append_assoc events (_ ∷ []) (_ ∷ [])) (c.tell_open_object.ensures _ (c.tell_member.ensures events h))
