-- The name, the beginning of the object, and the name in it.
use Rattle.gj_rules.proofs.Common.{Event, List, append_assoc, subst, [], ◌++◌, ◌∷◌}
use Rattle.std.proofs.Common.{◌≡◌}
use Rattle.gj_rules.specs.Rules.{StandsFor}
use Rattle.gj_rules.proofs.rules.FramedRules.tell_located.Goals as goal
use Rattle.gj_rules.proofs.rules.FramedRules.tell_located.Goals.{then-awaits, else-awaits}
use Rattle.gj_json.proofs.Events.EventsInTurn.{around_three}

by_parts : (xs : List Event) (a b c d e : Event) → (((xs ++ a ∷ []) ++ b ∷ []) ++ (c ∷ d ∷ [])) ++ e ∷ [] ≡ xs ++ (a ∷ b ∷ c ∷ d ∷ e ∷ [])
by_parts xs a b c d e = simp append_assoc

pub returns : goal.returns
returns g c = λ events h.
    let H : List Event → Type 0 = λ es. StandsFor c.tell_member-2.new.self es in
    let named = c.tell_member.ensures events h in
    elim c.if-awaits.branch [
      | then-awaits w ↦ subst H (by_parts events _ _ _ _ _)
          (c.tell_member-2.ensures _ (rw (w.self-is) (w.tell_type.ensures _ (w.open_geometry.ensures _ named))))
      | else-awaits w ↦ subst H (around_three events _ _ _ _ _) (c.tell_member-2.ensures _ (rw (w.self-is) (w.tell_inner_typed.ensures _ named)))
    ]
