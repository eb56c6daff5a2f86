use Rattle.std.proofs.Common.{length, ◌≤◌}
use Rattle.geolint_report.proofs.source.fill_from.Given as goal

abbrev pub invariant-loop-turn : goal.invariant-loop-turn
invariant-loop-turn l = l.count ≤ length l.piece
