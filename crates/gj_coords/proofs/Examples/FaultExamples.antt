-- The least faults of some values, by computing.
use Rattle.gj_coords.proofs.Common.{Fault, G11, G14, LineString, MultiLineString, MultiPoint, MultiPolygon, Point, Polygon, coordinates_faults}
use Rattle.gj_coords.proofs.Common.{fault_at, least}
use Rattle.std.proofs.Common.{ℕ, List, [], ◌∷◌, Option, Some, None, map, refl}
use Prim.Native.String.{String}
use Rattle.gj_coords.specs.declared.fault.Rule.{Rule}
use Rattle.gj_coords.specs.declared.fault.Rule.TheVariants.{G12, G13, G15, G16, G20, G21}
use Rattle.gj_coords.specs.declared.simple.Simple.{Simple}
use Rattle.gj_coords.specs.Box.{bbox_faults}
use Rattle.gj_coords.proofs.Examples.TextRows.{Rows, begins_number, class_of, held_value, is_number, number_class, plain_step, value_of, within_limits}

abbrev at : ℕ → Rule → Option Fault
at place rule = Some (fault_at place rule)

-- the least faults of each value as the coordinates of each of these types
abbrev Faults : List Simple → List (String × List (Option Fault)) → Type 0
Faults types = Rows (λ text. map (λ type. least (coordinates_faults type text.value)) types)

six_types : Faults (Point ∷ MultiPoint ∷ LineString ∷ MultiLineString ∷ Polygon ∷ MultiPolygon ∷ []) (
    ("[]", None ∷ None ∷ None ∷ None ∷ None ∷ None ∷ [])
    ∷ ("7", at 0 G11 ∷ at 0 G11 ∷ at 0 G11 ∷ at 0 G11 ∷ at 0 G11 ∷ at 0 G11 ∷ [])
    ∷ ("[1,2]", None ∷ at 1 G11 ∷ at 1 G11 ∷ at 1 G11 ∷ at 1 G11 ∷ at 1 G11 ∷ [])
    ∷ ("[[1,2]]", at 0 G12 ∷ None ∷ at 0 G13 ∷ at 2 G11 ∷ at 1 G14 ∷ at 2 G11 ∷ [])
    ∷ ("[[1,2],[3,4]]", at 1 G11 ∷ None ∷ None ∷ at 2 G11 ∷ at 1 G14 ∷ at 2 G11 ∷ [])
    ∷ ("[[]]", at 0 G12 ∷ at 1 G12 ∷ at 0 G13 ∷ at 1 G13 ∷ at 1 G14 ∷ None ∷ [])
    ∷ [])
unfolding plain_step class_of number_class is_number begins_number value_of held_value within_limits
six_types = refl

four_types : Faults (Point ∷ MultiPoint ∷ LineString ∷ MultiLineString ∷ []) (
    ("[[1,2],[3]]", at 1 G11 ∷ at 7 G12 ∷ at 7 G12 ∷ at 2 G11 ∷ [])
    ∷ ("[1,2,3,{'a':[1]}]", at 7 G11 ∷ at 1 G11 ∷ at 1 G11 ∷ at 1 G11 ∷ [])
    ∷ ("[1,1e401]", at 3 G16 ∷ at 1 G11 ∷ at 1 G11 ∷ at 1 G11 ∷ [])
    ∷ ("[1,2,3,1e401]", None ∷ at 1 G11 ∷ at 1 G11 ∷ at 1 G11 ∷ [])
    ∷ ("[[[1,2]]]", at 0 G12 ∷ at 1 G12 ∷ at 0 G13 ∷ at 1 G13 ∷ [])
    ∷ [])
unfolding plain_step class_of number_class is_number begins_number value_of held_value within_limits
four_types = refl

polygons : Rows (λ text. least (coordinates_faults Polygon text.value)) (
    ("[[[0,0],[1,0],[1,1],[0,0,0]]]", at 1 G15)
    ∷ ("[[[0,0,1,5],[1,0],[1,1],[0,0,1,6]]]", None)
    ∷ ("[[[0,0],[1,0],[1,1],[1e-8,0]]]", at 1 G15)
    ∷ ("[[[1.50,0],[2,0],[2,1],[15e-1,-0.0]]]", None)
    ∷ ("[[[0,0],[1,'a'],[1,1],[2,2]]]", at 11 G11)
    ∷ ("[[[0,0],[1,0],[1,1],[0,1e401]]]", at 23 G16)
    ∷ ("[[[1,2]]]", at 1 G14)
    ∷ ("[[[0,0],[1,0],[0,0]]]", at 1 G14)
    ∷ [])
unfolding plain_step class_of number_class is_number begins_number value_of held_value within_limits
polygons = refl

multi_polygons : Rows (λ text. least (coordinates_faults MultiPolygon text.value)) (
    ("[[],[[[0,0],[1,0],[1,1],[0,1]]]]", at 5 G15)
    ∷ ("[[[1,2]]]", at 2 G14)
    ∷ ("[[[[0,0],[4,0],[4,4],[0,0]],[[1,1],[2,1],[2,2],[1,1]]]]", None)
    ∷ [])
unfolding plain_step class_of number_class is_number begins_number value_of held_value within_limits
multi_polygons = refl

boxes : Rows (λ text. least (bbox_faults text.value)) (
    ("[1,2,3]", at 0 G21)
    ∷ ("[1,2,'a',4]", at 5 G20)
    ∷ ("[1,2]", at 0 G21)
    ∷ ("[1,2,3,4]", None)
    ∷ ("[1,2,3,4,5,6]", None)
    ∷ ("[1,1e401,3,4]", None)
    ∷ ("[1,2,3,4,5]", at 0 G21)
    ∷ ("[]", at 0 G21)
    ∷ ("7", at 0 G20)
    ∷ [])
unfolding plain_step class_of number_class is_number begins_number
boxes = refl
