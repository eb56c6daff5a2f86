use Rattle.gj_rules.proofs.Common.{Event, List, append_assoc, subst, [], ◌∷◌}
use Rattle.gj_rules.specs.Rules.{StandsFor}
use Rattle.gj_rules.proofs.rules.FramedRules.tell_type.Goals as goal

pub returns : goal.returns
returns g c = λ events h.
    let H : List Event → Type 0 = λ es. StandsFor c.tell_type_value.new.self es in
    subst H (append_assoc events (_ ∷ []) (_ ∷ [])) (c.tell_type_value.ensures _ (c.tell_member.ensures events h))
