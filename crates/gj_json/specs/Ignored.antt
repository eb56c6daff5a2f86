-- Events that do not matter: those within levels that have to close.
use Rattle.std.specs.Prelude.{◌≡◌, ℕ, zero, suc, ◌+◌, ◌-◌, List, [], ◌∷◌}
use Rattle.gj_json.specs.declared.event.Event.{Event}
use Rattle.gj_json.specs.declared.event.What.{What}

-- how many levels are open after an event
abbrev pub levels_behind : What → ℕ → ℕ
levels_behind What.OpenObject levels = levels + 1
levels_behind What.OpenArray levels = levels + 1
levels_behind What.CloseObject levels = levels - 1
levels_behind What.CloseArray levels = levels - 1
levels_behind _ levels = levels

-- of so many levels, so many are open after these events, and none of the events comes after the last of them
abbrev pub Leaves : ℕ → List Event → ℕ → Type 0
Leaves levels [] left = levels ≡ left
Leaves zero (event ∷ events) left = ⊥
Leaves (suc levels) (event ∷ events) left = Leaves (levels_behind event.what (suc levels)) events left
