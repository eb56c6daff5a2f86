use Rattle.std.proofs.Common.{length, take, ◌+◌, ◌*◌, ◌++◌, ◌≡◌, ◌≤◌}
use Rattle.std.specs.List.{flat_map}
use Rattle.gj_coords.specs.Warnings.{kinds}
use Rattle.geolint.specs.Room.{written_in}
use Rattle.geolint.specs.VerdictReport.{told_line}
use Rattle.geolint.specs.declared.room.TheConstants.{MOST_LINE}
use Rattle.geolint.proofs.report.warnings.push_warnings.Given as goal

-- the lines of the kinds before this one are there
abbrev pub invariant-loop-kind : goal.invariant-loop-kind
invariant-loop-kind l = record {
  done : written_in l.room ≡ written_in l.initial.room ++ flat_map (told_line l.warnings) (take l.kind-index kinds);
  small : length (written_in l.room) ≤ length (written_in l.initial.room) + MOST_LINE * l.kind-index;
}
