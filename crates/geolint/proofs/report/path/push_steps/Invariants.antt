use Rattle.std.proofs.Common.{length, take, ◌+◌, ◌*◌, ◌++◌, ◌≡◌, ◌≤◌}
use Rattle.std.specs.List.{flat_map}
use Rattle.gj_json.specs.Path.{steps_of}
use Rattle.geolint.specs.Report.{step_text}
use Rattle.geolint.specs.Room.{written_in}
use Rattle.geolint.specs.declared.room.TheConstants.{MOST_STEP}
use Rattle.geolint.proofs.report.path.push_steps.Given as goal

-- the steps before this one are there
abbrev pub invariant-loop-i : goal.invariant-loop-i
invariant-loop-i l = record {
  done : written_in l.room ≡ written_in l.initial.room ++ flat_map step_text (take l.i (steps_of l.path));
  small : length (written_in l.room) ≤ length (written_in l.initial.room) + MOST_STEP * l.i;
}
