use Rattle.std.proofs.Common.{length}
use Rattle.geolint_c.proofs.sum.+warnings_said.Given as goal

abbrev pub decreases-warnings_said : goal.decreases-warnings_said
decreases-warnings_said l = length l.kinds.now
