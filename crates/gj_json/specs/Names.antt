-- Which names and types RFC 7946 gives a meaning (sections 1.4 and 3 to 6), and the name `crs`, which it has given up
-- (section 4). They are compared by their characters, and the letters are ASCII: a content that holds anything else is
-- none of them.
use Rattle.std.specs.Prelude.{ℕ, if◌then◌else◌, List, [], ◌∷◌, codes, find, unwrap_or}
use Rattle.std.specs.Str.{bytes_eq}
use Rattle.gj_json.specs.declared.names.Known.{Known}
use Rattle.gj_json.specs.declared.names.Known.TheVariants.{TypeName, Coordinates, Geometries, Geometry, Properties, Features, Bbox, Id, Crs, Other}
use Rattle.gj_json.specs.declared.names.Word.{Word}
use Rattle.gj_json.specs.Texts.{name_text}

-- the names with a meaning
abbrev pub known_names : List Known
known_names = TypeName ∷ Coordinates ∷ Geometries ∷ Geometry ∷ Properties ∷ Features ∷ Bbox ∷ Id ∷ Crs ∷ []

unfoldable pub known_of : List ℕ → Known
known_of content = unwrap_or (find (λ name. bytes_eq content (name_text name)) known_names) Other

unfoldable pub word_of : List ℕ → Word
word_of content =
    if bytes_eq content (codes "Point") then Word.Point else
    if bytes_eq content (codes "MultiPoint") then Word.MultiPoint else
    if bytes_eq content (codes "LineString") then Word.LineString else
    if bytes_eq content (codes "MultiLineString") then Word.MultiLineString else
    if bytes_eq content (codes "Polygon") then Word.Polygon else
    if bytes_eq content (codes "MultiPolygon") then Word.MultiPolygon else
    if bytes_eq content (codes "GeometryCollection") then Word.GeometryCollection else
    if bytes_eq content (codes "Feature") then Word.Feature else
    if bytes_eq content (codes "FeatureCollection") then Word.FeatureCollection else Word.Other
