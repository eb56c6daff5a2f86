-- The beginnings of objects that are reported at once: the events that each stands for.
use Rattle.std.specs.Prelude.{ℕ, List, [], ◌∷◌, ◌++◌}
use Rattle.gj_json.specs.declared.event.Event.{Event}
use Rattle.gj_json.specs.declared.event.What.{What}
use Rattle.gj_json.specs.declared.flat.Flat.{Flat}
use Rattle.gj_json.specs.declared.head.Head.{Head}
use Rattle.gj_json.specs.declared.head.LatePoint.{LatePoint}
use Rattle.gj_json.specs.declared.head.Located.{Located}
use Rattle.gj_json.specs.declared.head.Opened.{Opened}
use Rattle.gj_json.specs.declared.head.Typed.{Typed}
use Rattle.gj_json.specs.declared.names.Known.TheVariants.{TypeName, Geometry, Coordinates, Properties}
use Rattle.gj_json.specs.declared.names.Word.{Word}
use Rattle.gj_json.specs.Flat.{flat_events}

-- the bracket, the name `type`, and the type
abbrev pub typed_events : Typed → List Event
typed_events typed =
    record { place = typed.place; what = What.OpenObject } ∷ record { place = typed.name_at; what = What.Name TypeName }
    ∷ record { place = typed.word_at; what = What.Text typed.word } ∷ []

-- the name `geometry`, the beginning of its object, and the name `coordinates`
abbrev pub located_events : Located → List Event
located_events located =
    record { place = located.place; what = What.Name Geometry }
    ∷ (typed_events located.typed ++ record { place = located.coordinates; what = What.Name Coordinates } ∷ [])

-- the name `properties` and the bracket after it
abbrev pub opened_events : Opened → List Event
opened_events opened =
    record { place = opened.place; what = What.Name Properties } ∷ record { place = opened.bracket; what = What.OpenObject } ∷ []

abbrev pub head_events : Head → List Event
head_events (Head.Object typed) = typed_events typed
head_events (Head.Geometry located) = located_events located
head_events (Head.Properties opened) = opened_events opened

-- a member `geometry` that is a whole Point: its beginning, its position, and the end of its object
abbrev pub point_events : Located → Flat → ℕ → List Event
point_events located flat close = located_events located ++ (flat_events flat ++ record { place = close; what = What.CloseObject } ∷ [])

-- such a member whose coordinates stand before its type: up to the name `coordinates`, its position, and the rest
abbrev pub late_point_events : LatePoint → Flat → List Event
late_point_events point flat =
    record { place = point.place; what = What.Name Geometry } ∷ record { place = point.bracket; what = What.OpenObject }
    ∷ record { place = point.coordinates; what = What.Name Coordinates } ∷ (flat_events flat ++ (record { place = point.name_at; what = What.Name TypeName }
    ∷ record { place = point.word_at; what = What.Text Word.Point } ∷ record { place = point.close; what = What.CloseObject } ∷ []))
