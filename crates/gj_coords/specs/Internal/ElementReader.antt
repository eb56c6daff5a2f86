-- A value is read past by the count of its open levels.
use Rattle.std.specs.Prelude.{ℕ, zero, suc, ◌-◌, ◌^◌, Bool, true, false, ◌&&◌, if◌then◌else◌, nat_lt}
use Rattle.gj_json.specs.declared.event.Event.{Event}
use Rattle.gj_json.specs.declared.event.What.{What}
use Rattle.gj_coords.specs.declared.element.Element.{Element}
use Rattle.gj_coords.specs.Internal.SentEvents.{event_at}

abbrev pub most_levels : ℕ
most_levels = 2 ^ 64 - 1

abbrev pub one_more : ℕ → ℕ
one_more n = if nat_lt n most_levels then suc n else n

abbrev pub one_less : ℕ → ℕ
one_less zero = 0
one_less (suc n) = n

abbrev pub levels_after : ℕ → What → ℕ
levels_after n What.OpenArray = one_more n
levels_after n What.OpenObject = one_more n
levels_after n What.CloseArray = one_less n
levels_after n What.CloseObject = one_less n
levels_after n _ = n

abbrev pub is_zero : ℕ → Bool
is_zero zero = true
is_zero (suc n) = false

abbrev pub due : Element
due = record { first = event_at 0 What.Null; started = false; levels = 0 }

abbrev pub inside : Event → ℕ → Element
inside first levels = record { first = first; started = true; levels = levels }

abbrev pub element_after : Element → Event → Element
element_after s e = inside (if s.started then s.first else e) (levels_after s.levels e.what)

abbrev pub element_ended : Element → Bool
element_ended s = s.started && is_zero s.levels
