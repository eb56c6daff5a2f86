-- What a cause, a known name and a path are called in a report.
use Rattle.std.specs.Prelude.{ℕ, List, ◌++◌, codes}
use Rattle.std.specs.Fmt.{decimal}
use Rattle.std.specs.List.{flat_map}
use Rattle.gj_json.specs.declared.fault.Cause.{Cause}
use Rattle.gj_json.specs.declared.fault.Cause.TheVariants.{Syntax, Truncated, Depth, Length}
use Rattle.gj_json.specs.declared.names.Known.{Known}
use Rattle.gj_json.specs.declared.names.Known.TheVariants.{TypeName, Coordinates, Geometries, Geometry, Properties, Features, Bbox, Id, Crs, Other}
use Rattle.gj_json.specs.declared.path.PathStep.{PathStep}
use Rattle.gj_json.specs.declared.path.PathStep.TheVariants.{Index, Member}

-- the number in a cause's code, as in J1
abbrev pub cause_number : Cause → ℕ
cause_number Syntax = 1
cause_number Truncated = 2
cause_number Depth = 3
cause_number Length = 4

abbrev pub cause_text : Cause → List ℕ
cause_text Syntax = codes "syntax"
cause_text Truncated = codes "truncated"
cause_text Depth = codes "too deep"
cause_text Length = codes "too long"

-- a foreign name is not reported
abbrev pub name_text : Known → List ℕ
name_text TypeName = codes "type"
name_text Coordinates = codes "coordinates"
name_text Geometries = codes "geometries"
name_text Geometry = codes "geometry"
name_text Properties = codes "properties"
name_text Features = codes "features"
name_text Bbox = codes "bbox"
name_text Id = codes "id"
name_text Crs = codes "crs"
name_text Other = codes "*"

-- ---- a path, from the root

abbrev pub step_text : PathStep → List ℕ
step_text (Index index) = codes "[" ++ (decimal index ++ codes "]")
step_text (Member name) = codes "." ++ name_text name

-- of all steps
unfoldable pub steps_text : List PathStep → List ℕ
steps_text steps = flat_map step_text steps
