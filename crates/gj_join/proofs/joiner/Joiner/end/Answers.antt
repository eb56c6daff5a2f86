use Rattle.std.proofs.Common.{sym, subst}
use Rattle.gj_rules.specs.Verdict.{IsVerdict}
use Rattle.gj_join.specs.Joiner.{Joins, limits_of}
use Rattle.gj_join.proofs.JoinedRuns.{ended_verdict}
use Rattle.gj_join.proofs.joiner.Joiner.end.Goals as goal

pub returns : goal.returns
unfolding Joins
returns c = λ bytes h.
    subst (IsVerdict (limits_of c.args.self.now) bytes) (sym c.whole_of.ensures.exact) (ended_verdict c.end.result h.2 (c.end.ensures.verdict h.0 h.1))
