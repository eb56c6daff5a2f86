use Rattle.std.proofs.Common.{◌-◌, ◌≤◌}
use Rattle.geolint_report.proofs.found.refusal.look_to.Given as goal

abbrev pub invariant-loop-at : goal.invariant-loop-at
invariant-loop-at g l = l.at ≤ l.place

abbrev pub decreases-loop-at : goal.decreases-loop-at
decreases-loop-at g l = l.place - l.at
