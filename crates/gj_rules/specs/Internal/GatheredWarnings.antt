-- The warnings that an open object has gathered, and what adds to them.
use Rattle.std.specs.Prelude.{ℕ, Option, Some, None}
use Rattle.gj_json.specs.declared.names.Known.{Known}
use Rattle.gj_json.specs.declared.names.Known.TheVariants.{Geometries, Geometry, Features, Bbox, Crs}
use Rattle.gj_coords.specs.declared.kind.Kind.TheVariants.{W9}
use Rattle.gj_coords.specs.declared.warnings.Warnings.{Warnings}
use Rattle.gj_coords.specs.Internal.KeptWarnings.{no_warnings, joined, added}
use Rattle.gj_rules.specs.Internal.FrameMeaning.{MemberWarnings}

abbrev pub none_gathered : MemberWarnings
none_gathered = record { own = no_warnings; geometries = no_warnings; geometry = no_warnings; features = no_warnings }

-- those of the value of the first member of a name
abbrev pub gathered : Known → Warnings → MemberWarnings → MemberWarnings
gathered Geometries warned had = record had { geometries = joined had.geometries warned }
gathered Geometry warned had = record had { geometry = joined had.geometry warned }
gathered Features warned had = record had { features = joined had.features warned }
gathered Bbox warned had = record had { own = joined had.own warned }
gathered _ warned had = had

-- where there are any
abbrev pub gathered_any : Known → Option Warnings → MemberWarnings → MemberWarnings
gathered_any name None had = had
gathered_any name (Some warned) had = gathered name warned had

-- at a name
abbrev pub gathered_at : Known → ℕ → MemberWarnings → MemberWarnings
gathered_at Crs place had = record had { own = added had.own W9 place }
gathered_at _ place had = had
