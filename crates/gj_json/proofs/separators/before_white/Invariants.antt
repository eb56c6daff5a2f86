use Rattle.gj_json.proofs.Common.{length, ◌≤◌}
use Rattle.gj_json.proofs.separators.before_white.Given as goal

abbrev pub invariant-loop-end : goal.invariant-loop-end
invariant-loop-end l = record { within : l.end ≤ length l.piece }

abbrev pub decreases-loop-end : goal.decreases-loop-end
decreases-loop-end l = l.end
