-- An array of two or three numbers, which is reported at once: the events that it stands for.
use Rattle.std.specs.Prelude.{ℕ, List, [], ◌∷◌, ◌++◌, map, Some}
use Rattle.std.specs.Option.{option_to_list}
use Rattle.gj_number.specs.Short.{exact_of}
use Rattle.gj_json.specs.declared.event.Event.{Event}
use Rattle.gj_json.specs.declared.event.What.{What}
use Rattle.gj_json.specs.declared.flat.Flat.{Flat}
use Rattle.gj_json.specs.declared.flat.Numbered.{Numbered}

abbrev pub numbers_of : Flat → List Numbered
numbers_of flat = flat.first ∷ flat.second ∷ option_to_list flat.third

abbrev pub number_event : Numbered → Event
number_event numbered = record { place = numbered.place; what = What.Number (Some (exact_of numbered.value)) }

abbrev pub numbers_events : ℕ → List Numbered → ℕ → List Event
numbers_events place numbers close =
    record { place = place; what = What.OpenArray } ∷ (map number_event numbers ++ record { place = close; what = What.CloseArray } ∷ [])

-- the bracket, the numbers and the closing bracket, each reported by itself
abbrev pub flat_events : Flat → List Event
flat_events flat = numbers_events flat.place (numbers_of flat) flat.close
