-- What the definitions say is likely wrong in use in some texts, by computing.
use Rattle.gj_rules.proofs.Common.{W1, W7, W9, refl, text_warnings, warning_at, [], ◌∷◌}
use Rattle.std.proofs.Common.{◌≡◌, Some}
use Rattle.std.specs.Prelude.{option_map}
use Rattle.gj_json.specs.Internal.NamedBytes.{mark_first, mark_second, mark_third}
use Rattle.gj_json.specs.Names.{known_of, word_of}
use Rattle.gj_coords.specs.declared.kind.Kind.TheVariants.{W2, W6}
use Rattle.gj_coords.proofs.Examples.TextRows.{Rows, begins_number, class_of, held_value, is_number, number_class, plain_step, read}
use Rattle.gj_coords.proofs.Examples.TextRows.{value_of, within_limits, written}

rows : Rows text_warnings (
    ("{'crs':1,'crs':2,'type':'Point','coordinates':[1,2]}", warning_at 1 W9 ∷ warning_at 9 W9 ∷ [])
    ∷ (
      "{'type':'FeatureCollection','name':'a','crs':{'type':'name','properties':{'name':'urn:ogc:def:crs:OGC:1.3:CRS84'}},'features':[]}",
      warning_at 39 W9 ∷ [],
    )
    ∷ ("{'geometries':[{'crs':1}],'type':'Point','coordinates':[1,2]}", [])
    ∷ ("{'type':'GeometryCollection','geometries':[{'type':'GeometryCollection','geometries':[]}]}", warning_at 43 W7 ∷ [])
    ∷ ("{'geometries':[{'geometries':[],'type':'GeometryCollection'}],'type':'GeometryCollection'}", warning_at 15 W7 ∷ [])
    ∷ ("{'type':'Feature','geometry':{'type':'GeometryCollection','geometries':[]},'properties':null}", [])
    ∷ ("{'type':'Point','coordinates':[]}", warning_at 30 W6 ∷ [])
    ∷ ("{'type':'Polygon','coordinates':[[[0,0],[0,1],[1,1],[0,0]]]}", warning_at 33 W2 ∷ [])
    ∷ ("{'coordinates':[[[0,0],[0,1],[1,1],[0,0]]],'type':'MultiLineString'}", [])
    ∷ [])
unfolding plain_step class_of number_class is_number begins_number known_of word_of value_of held_value within_limits
rows = refl

marked : option_map text_warnings (read (mark_first ∷ mark_second ∷ mark_third ∷ written "{'type':'Point','coordinates':[1,2]}")) ≡ Some (warning_at 0 W1 ∷ [])
unfolding plain_step class_of number_class is_number begins_number known_of word_of value_of held_value within_limits
marked = refl
