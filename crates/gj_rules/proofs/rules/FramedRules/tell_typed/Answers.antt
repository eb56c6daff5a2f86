use Rattle.gj_rules.proofs.Common.{Event, List, append_assoc, subst, [], ◌∷◌}
use Rattle.gj_rules.specs.Rules.{StandsFor}
use Rattle.gj_rules.proofs.rules.FramedRules.tell_typed.Goals as goal

pub returns-then-awaits : goal.returns-then-awaits
returns-then-awaits g c = λ events h.
    let H : List Event → Type 0 = λ es. StandsFor c.tell_type.new.self es in
    subst H (append_assoc events (_ ∷ []) (_ ∷ _ ∷ [])) (c.tell_type.ensures _ (c.open_feature.ensures events h))
