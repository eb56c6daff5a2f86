-- The warnings of some values, by computing.
use Rattle.gj_coords.proofs.Common.{LineString, MultiPolygon, Point, Polygon, W2, W3, W4, W5, W6, coordinates_warnings, warning_at}
use Rattle.std.proofs.Common.{[], ◌∷◌, refl}
use Rattle.gj_coords.proofs.Examples.TextRows.{Rows, begins_number, class_of, held_value, is_number, number_class, value_of, within_limits}

-- an exterior clockwise, a hole counterclockwise, a ring without area
polygons : Rows (λ text. coordinates_warnings Polygon text.value) (
    ("[[[0,0],[0,1],[1,1],[0,0]]]", warning_at 1 W2 ∷ [])
    ∷ ("[[[0,0],[1,1],[0,1],[0,0]],[[0,0],[1,1],[0,1],[0,0]]]", warning_at 27 W2 ∷ [])
    ∷ ("[[[0,0],[1,0],[2,0],[0,0]]]", [])
    ∷ [])
unfolding class_of number_class is_number begins_number value_of held_value within_limits
polygons = refl

empty_polygon : Rows (λ text. coordinates_warnings MultiPolygon text.value) (("[[]]", []) ∷ [])
unfolding class_of
empty_polygon = refl

many_numbers : Rows (λ text. coordinates_warnings LineString text.value) (("[[1,2,3,4],[1,2,3,4,5]]", warning_at 1 W3 ∷ warning_at 11 W3 ∷ []) ∷ [])
unfolding class_of number_class is_number begins_number value_of held_value within_limits
many_numbers = refl

-- zeros at the end are no places
points : Rows (λ text. coordinates_warnings Point text.value) (
    ("       []", warning_at 7 W6 ∷ [])
    ∷ ("[1e10,1]", warning_at 0 W5 ∷ [])
    ∷ ("[0.12345678,1,1.50000000]", warning_at 1 W4 ∷ [])
    ∷ [])
unfolding class_of number_class is_number begins_number value_of held_value within_limits
points = refl
