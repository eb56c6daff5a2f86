-- What the summaries of a `coordinates` and of a `bbox` stand for, and what is read off the first.
use Rattle.std.specs.Prelude.{List, Option, Some, None}
use Rattle.gj_json.specs.declared.event.Event.{Event}
use Rattle.gj_json.specs.Tree.{Tree}
use Rattle.gj_coords.specs.declared.coordinates.Coordinates.{Coordinates}
use Rattle.gj_coords.specs.declared.bbox.Bbox.{Bbox}
use Rattle.gj_coords.specs.declared.fault.Fault.{Fault}
use Rattle.gj_coords.specs.declared.simple.Simple.{Simple}
use Rattle.gj_coords.specs.Fault.{least}
use Rattle.gj_coords.specs.Shape.{coordinates_faults}
use Rattle.gj_coords.specs.Coordinates as TheCoordinates
use Rattle.gj_coords.specs.Bbox as TheBbox
use Rattle.gj_coords.specs.declared.warnings.Warnings.{Warnings}
use Rattle.gj_coords.specs.Internal.KeptWarnings.{no_warnings}
use Rattle.gj_coords.specs.Internal.CoordinatesKept.{coordinates_kept}
use Rattle.gj_rules.specs.Members.{simple_of}
use Rattle.gj_rules.specs.declared.member_slots.TypeValue.{TypeValue}
use Rattle.gj_rules.specs.Internal.FrameMeaning.{Findings}
use Rattle.gj_rules.specs.Internal.FrameMeaning.{Shapes}

abbrev pub StandsForCoordinates : Coordinates → List Event → Type 0
StandsForCoordinates coordinates events = TheCoordinates.StandsFor coordinates events

abbrev pub StandsForBbox : Bbox → List Event → Type 0
StandsForBbox bbox events = TheBbox.StandsFor bbox events

abbrev pub none_found : Findings
none_found = record { fault = None; warned = no_warnings }

abbrev pub no_shapes : Shapes
no_shapes = record {
  point = none_found;
  multi_point = none_found;
  line_string = None;
  multi_line_string = none_found;
  polygon = none_found;
  multi_polygon =
      none_found;
}

abbrev pub shape_for : Simple → Shapes → Option Fault
shape_for Simple.Point shapes = shapes.point.fault
shape_for Simple.MultiPoint shapes = shapes.multi_point.fault
shape_for Simple.LineString shapes = shapes.line_string
shape_for Simple.MultiLineString shapes = shapes.multi_line_string.fault
shape_for Simple.Polygon shapes = shapes.polygon.fault
shape_for Simple.MultiPolygon shapes = shapes.multi_polygon.fault

-- a LineString has the warnings of a MultiPoint
abbrev pub warned_for : Simple → Shapes → Warnings
warned_for Simple.Point shapes = shapes.point.warned
warned_for Simple.MultiPoint shapes = shapes.multi_point.warned
warned_for Simple.LineString shapes = shapes.multi_point.warned
warned_for Simple.MultiLineString shapes = shapes.multi_line_string.warned
warned_for Simple.Polygon shapes = shapes.polygon.warned
warned_for Simple.MultiPolygon shapes = shapes.multi_polygon.warned

-- what is found in a value as the coordinates of a type
abbrev pub found_as : Simple → Tree → Findings
found_as simple value = record { fault = least (coordinates_faults simple value); warned = coordinates_kept simple value }

-- of each type
abbrev pub shapes_of : Tree → Shapes
shapes_of value = record {
  point = found_as Simple.Point value;
  multi_point = found_as Simple.MultiPoint value;
  line_string = least (coordinates_faults Simple.LineString value);
  multi_line_string = found_as Simple.MultiLineString value;
  polygon = found_as Simple.Polygon value;
  multi_polygon = found_as Simple.MultiPolygon value;
}

-- ---- where the type is known

abbrev pub shape_found : Simple → Shapes → Findings
shape_found simple shapes = record { fault = shape_for simple shapes; warned = warned_for simple shapes }

-- as above, for each type
abbrev pub alike : Findings → Shapes
alike found = record { point = found; multi_point = found; line_string = found.fault; multi_line_string = found; polygon = found; multi_polygon = found }

abbrev pub asked_as : Option Simple → Shapes → Shapes
asked_as None shapes = no_shapes
asked_as (Some simple) shapes = alike (shape_found simple shapes)

-- what an object asks for whose first type is this: that for one type alone, and before its type has come that for each
abbrev pub asked : Option TypeValue → Shapes → Shapes
asked None shapes = shapes
asked (Some value) shapes = asked_as (simple_of value.word) shapes
