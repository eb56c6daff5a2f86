-- What the definitions say of some texts, by computing.
use Rattle.gj_rules.proofs.Common.{Fault, Rule, codes, faults, fault_at, judged_in, least, refl, [], ◌∷◌, ◌++◌}
use Rattle.std.proofs.Common.{◌≡◌, ℕ, List, Option, Some, None, map, length}
use Rattle.std.specs.Prelude.{option_map}
use Prim.Native.String.{String}
use Rattle.gj_json.specs.Characters.{escape_of, hex_of}
use Rattle.gj_json.specs.Names.{known_of, word_of}
use Rattle.gj_json.specs.Open.{open_in}
use Rattle.gj_json.specs.Tree.{Text}
use Rattle.gj_coords.proofs.Examples.TextRows.{Rows, begins_number, class_of, held_value, is_number, number_class, plain_step, read}
use Rattle.gj_coords.proofs.Examples.TextRows.{value_of, within_limits, written}
use Rattle.gj_rules.specs.declared.role.Role.TheVariants as Role

-- the least fault of each text
abbrev Faults : List (String × Option Fault) → Type 0
Faults = Rows (λ text. least (faults Role.Root text.value))

-- the type: the first one decides
types : Faults (
    ("{'type':'Point','coordinates':[1,2]}", None)
    ∷ ("{'coordinates':[1,2],'type':'LineString'}", Some (fault_at 16 Rule.G11))
    ∷ ("{'coordinates':[1,2],'type':'Point','type':'Polygon'}", Some (fault_at 36 Rule.G10))
    ∷ ("{'\\u0074ype':'\\u0050oint','coordinates':[1,2]}", None)
    ∷ ("[]", Some (fault_at 0 Rule.G1))
    ∷ ("null", Some (fault_at 0 Rule.G1))
    ∷ ("{}", Some (fault_at 0 Rule.G2))
    ∷ ("{'bbox':7}", Some (fault_at 0 Rule.G2))
    ∷ ("{'type':'point'}", Some (fault_at 8 Rule.G3))
    ∷ ("{'type':{'type':'Point'},'coordinates':[1,2]}", Some (fault_at 8 Rule.G3))
    ∷ ("{'coordinates':[1],'type':['Point']}", Some (fault_at 26 Rule.G3))
    ∷ [])
unfolding plain_step class_of number_class is_number begins_number known_of word_of value_of held_value within_limits escape_of hex_of
types = refl

-- members that a type asks for, that it does not have, that come again, and others
members : Faults (
    ("{'type':'Feature'}", Some (fault_at 0 Rule.G6))
    ∷ ("{'type':'Feature','geometry':null}", Some (fault_at 0 Rule.G7))
    ∷ ("{'type':'Point'}", Some (fault_at 0 Rule.G4))
    ∷ ("{'type':'GeometryCollection'}", Some (fault_at 0 Rule.G5))
    ∷ ("{'type':'FeatureCollection'}", Some (fault_at 0 Rule.G8))
    ∷ ("{'type':'Feature','geometry':{'type':'Point'}}", Some (fault_at 0 Rule.G7))
    ∷ ("{'geometry':{'type':'Nope'},'type':'Point','coordinates':[1,2]}", Some (fault_at 1 Rule.G9))
    ∷ ("{'type':'Feature','geometry':null,'properties':null,'features':1}", Some (fault_at 52 Rule.G9))
    ∷ ("{'type':'Feature','coordinates':[],'geometry':null,'properties':null}", Some (fault_at 18 Rule.G9))
    ∷ ("{'type':'Feature','geometry':null,'geometries':[],'properties':null}", Some (fault_at 34 Rule.G9))
    ∷ ("{'properties':{},'type':'FeatureCollection','features':[]}", Some (fault_at 1 Rule.G9))
    ∷ ("{'geometry':null,'type':'FeatureCollection','features':[]}", Some (fault_at 1 Rule.G9))
    ∷ ("{'type':'GeometryCollection','coordinates':7,'geometries':[],'coordinates':8}", Some (fault_at 61 Rule.G10))
    ∷ ("{'type':'Feature','geometry':null,'properties':{'bbox':1,'bbox':2},'a':{'geometry':{'type':'x'}}}", None)
    ∷ ("{'type':'Feature','geometry':null,'properties':null,'geometry':{'type':'x'}}", Some (fault_at 52 Rule.G10))
    ∷ ("{'a':[{'b':[{'c':[]}]}],'type':'Point','b':{'a':{}},'coordinates':[1]}", Some (fault_at 66 Rule.G12))
    ∷ ("{'type':'FeatureCollection','name':'a','crs':{'type':'name','properties':{'name':'urn:ogc:def:crs:OGC:1.3:CRS84'}},'features':[]}", None)
    ∷ [])
unfolding plain_step class_of number_class is_number begins_number known_of word_of value_of held_value within_limits
members = refl

-- the values of the members of a feature
feature_members : Faults (
    ("{'type':'Feature','geometry':null,'properties':[]}", Some (fault_at 47 Rule.G18))
    ∷ ("{'type':'Feature','geometry':null,'properties':{'geometry':7,'type':1,'type':2}}", None)
    ∷ ("{'type':'Feature','geometry':7,'properties':null}", Some (fault_at 29 Rule.G1))
    ∷ ("{'geometry':{'type':'Nope'},'type':'Feature','properties':null}", Some (fault_at 20 Rule.G3))
    ∷ ("{'type':'Feature','properties':{},'geometry':{'type':'FeatureCollection','features':[]}}", Some (fault_at 53 Rule.G3))
    ∷ ("{'type':'Feature','id':null,'geometry':null,'properties':null}", Some (fault_at 23 Rule.G19))
    ∷ ("{'type':'Feature','id':'a','geometry':null,'properties':{}}", None)
    ∷ ("{'type':'Feature','id':1,'geometry':null,'properties':{}}", None)
    ∷ ("{'type':'Feature','id':{'id':1},'geometry':null,'properties':{}}", Some (fault_at 23 Rule.G19))
    ∷ ("{'type':'Polygon','id':null,'coordinates':[]}", None)
    ∷ [])
unfolding plain_step class_of number_class is_number begins_number known_of word_of value_of held_value within_limits
feature_members = refl

-- the elements of collections
collections : Faults (
    ("{'type':'FeatureCollection','features':{}}", Some (fault_at 39 Rule.G17))
    ∷ ("{'features':[{'type':'Feature','geometry':null,'properties':null},7],'type':'FeatureCollection'}", Some (fault_at 66 Rule.G1))
    ∷ ("{'type':'FeatureCollection','features':[null]}", Some (fault_at 40 Rule.G1))
    ∷ ("{'type':'FeatureCollection','features':[{'type':'Point','coordinates':[1,2]}]}", Some (fault_at 48 Rule.G3))
    ∷ ("{'type':'GeometryCollection','geometries':1}", Some (fault_at 42 Rule.G17))
    ∷ ("{'geometries':[7],'type':'GeometryCollection'}", Some (fault_at 15 Rule.G1))
    ∷ ("{'type':'GeometryCollection','geometries':[null]}", Some (fault_at 43 Rule.G1))
    ∷ ("{'type':'GeometryCollection','geometries':[{'type':'Feature'}]}", Some (fault_at 51 Rule.G3))
    ∷ ("{'geometries':[7],'type':'Point','coordinates':[1,2]}", None)
    ∷ ("{'type':'GeometryCollection','geometries':[{'geometries':[7],'type':'Point','coordinates':[1]}]}", Some (fault_at 90 Rule.G12))
    ∷ ("{'type':'GeometryCollection','geometries':[{'type':'GeometryCollection','geometries':[]}]}", None)
    ∷ ("{'type':'GeometryCollection','geometries':[{'type':'Point'},7]}", Some (fault_at 43 Rule.G4))
    ∷ ("{'type':'FeatureCollection','features':[{'geometry':{'geometries':[{'coordinates':[[1,2],[3]],'type':'LineString'}],'type':'GeometryCollection'},'properties':{},'type':'Feature'}]}", Some (fault_at 89 Rule.G12))
    ∷ ("{'features':[{'geometry':{'geometries':[{'coordinates':[[1,2],[3]],'type':'LineString'}],'type':'GeometryCollection'},'properties':{}}],'type':'FeatureCollection'}", Some (fault_at 13 Rule.G2))
    ∷ [])
unfolding plain_step class_of number_class is_number begins_number known_of word_of value_of held_value within_limits
collections = refl

-- coordinates
coordinates : Faults (
    ("{'type':'Point','coordinates':[]}", None)
    ∷ ("{'type':'Point','coordinates':[1]}", Some (fault_at 30 Rule.G12))
    ∷ ("{'type':'Point','coordinates':[1,2,3,4,5]}", None)
    ∷ ("{'type':'Point','coordinates':[1,2,3,'x']}", Some (fault_at 37 Rule.G11))
    ∷ ("{'coordinates':[{'type':[[]]},[[1,2]]],'type':'MultiPoint'}", Some (fault_at 16 Rule.G11))
    ∷ ("{'type':'Point','coordinates':[1234567890123456789012345678901,1]}", Some (fault_at 31 Rule.G16))
    ∷ ("{'type':'Point','coordinates':[0e99999,1]}", None)
    ∷ ("{'type':'Point','coordinates':[1.4210854715202004e-14,1]}", None)
    ∷ ("{'type':'Point','coordinates':[180.0000001,90]}", None)
    ∷ ("{'type':'MultiLineString','coordinates':[[[1,2]]]}", Some (fault_at 41 Rule.G13))
    ∷ ("{'type':'Polygon','coordinates':[[[0,0],[0,1],[1,1],[0,0]]]}", None)
    ∷ ("{'type':'Polygon','coordinates':[[[0,0],[4,0],[4,4],[0,0]],[[1,1],[2,1],[2,2],[1,1]]]}", None)
    ∷ ("{'type':'Polygon','coordinates':[[[0,0],[1,0],[1,1],[0,0,0]]]}", Some (fault_at 33 Rule.G15))
    ∷ ("{'type':'Polygon','coordinates':[[[1.50,0],[2,0],[2,1],[15e-1,-0.0]]]}", None)
    ∷ ("{'type':'Polygon','coordinates':[[[0,0],[1,0],[0,0]]]}", Some (fault_at 33 Rule.G14))
    ∷ ("{'type':'Polygon','coordinates':[[]]}", Some (fault_at 33 Rule.G14))
    ∷ ("{'type':'MultiPolygon','coordinates':[[]]}", None)
    ∷ [])
unfolding plain_step class_of number_class is_number begins_number known_of word_of value_of held_value within_limits
coordinates = refl

-- bounding boxes, which are judged whatever the type is
boxes : Faults (
    ("{'type':'Point','coordinates':[1,2],'bbox':[1,2,3]}", Some (fault_at 43 Rule.G21))
    ∷ ("{'type':'Point','coordinates':[1,2],'bbox':[1,2,'a',4]}", Some (fault_at 48 Rule.G20))
    ∷ ("{'type':'Point','coordinates':[1,2],'bbox':[{},[1],2,3]}", Some (fault_at 44 Rule.G20))
    ∷ ("{'type':'Point','coordinates':[1,2],'bbox':[170,10,-170,20]}", None)
    ∷ ("{'type':'Point','coordinates':[1,2],'bbox':[0,20,1,10]}", None)
    ∷ ("{'type':'Point','coordinates':[1,2],'bbox':[1e999,0,1,1]}", None)
    ∷ ("{'bbox':[1],'type':'x'}", Some (fault_at 8 Rule.G21))
    ∷ ("{'type':'FeatureCollection','features':[{'type':'Feature','bbox':{'a':[]},'geometry':null,'properties':null}]}", Some (fault_at 65 Rule.G20))
    ∷ [])
unfolding plain_step class_of number_class is_number begins_number known_of word_of value_of held_value within_limits
boxes = refl

-- how many arrays and objects are open after the first part of a text, and how many of these have a role
abbrev open_after : ℕ → Text → ℕ × ℕ
open_after n text = (open_in n text.value, judged_in n Role.Root text.value)

abbrev Open : List ((String × String) × (ℕ × ℕ)) → Type 0
Open rows =
    map (λ row. option_map (open_after (length (codes row.0.0))) (read (written row.0.0 ++ written row.0.1))) rows ≡ map (λ row. Some row.1) rows

open_levels : Open (
    (("{'features':[{'properties':{'a':[", "]}}]}"), (5, 2))
    ∷ (("{'geometry':{'geometry':{", "}}}"), (3, 2))
    ∷ (("[{", "}]"), (2, 0))
    ∷ (("{'coordinates':[[[[", "]]]]}"), (5, 1))
    ∷ (("{'type':'Point','geometry':{", "}}"), (2, 2))
    ∷ (("{'features':[{'geometry':{'geometries':[{", "}]}}]}"), (6, 4))
    ∷ (("{'geometry':1,'geometry':{", "}}"), (2, 1))
    ∷ [])
unfolding plain_step class_of number_class is_number begins_number known_of word_of
open_levels = refl
