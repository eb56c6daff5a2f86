use Rattle.std.proofs.Common.{[]}
use Rattle.gj_join.specs.Joiner.{Joins}
use Rattle.gj_join.proofs.JoinedRuns.{begun_joined}
use Rattle.gj_join.proofs.joiner.Joiner.new.Goals as goal

pub returns-clause-joins : goal.returns-clause-joins
unfolding Joins
returns-clause-joins c = ([], c.new-2.ensures.stands c.new.ensures, begun_joined _ _ c.none.result c.none.ensures.exact)
