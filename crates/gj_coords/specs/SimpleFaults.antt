-- The least fault of a value of `coordinates` for each of the six types.
use Rattle.std.specs.Prelude.{Option}
use Rattle.gj_json.specs.Tree.{Tree}
use Rattle.gj_coords.specs.declared.fault.Fault.{Fault}
use Rattle.gj_coords.specs.declared.simple.Simple.{Simple}
use Rattle.gj_coords.specs.declared.simple.Simple.TheVariants.{Point, MultiPoint, LineString, MultiLineString, Polygon, MultiPolygon}
use Rattle.gj_coords.specs.declared.simple_faults.SimpleFaults.{SimpleFaults}
use Rattle.gj_coords.specs.Fault.{least}
use Rattle.gj_coords.specs.Shape.{coordinates_faults}

abbrev pub by_simple : (Simple → Option Fault) → SimpleFaults
by_simple fault = record {
  point = fault Point;
  multi_point = fault MultiPoint;
  line_string = fault LineString;
  multi_line_string = fault MultiLineString;
  polygon = fault Polygon;
  multi_polygon = fault MultiPolygon;
}

abbrev pub least_faults : Tree → SimpleFaults
least_faults value = by_simple (λ simple. least (coordinates_faults simple value))
