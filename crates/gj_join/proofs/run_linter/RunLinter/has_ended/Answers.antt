-- It is what the totals say.
use Rattle.std.proofs.Common.{◌++◌, not, ap, ◌∙◌}
use Rattle.gj_join.specs.declared.totals.Totals.{Totals}
use Rattle.gj_join.specs.RunLinter.{StandsFor, limits_of}
use Rattle.gj_join.specs.Runs.{stand_at}
use Rattle.gj_join.specs.Internal.Totals.{IsTotalOf}
use Rattle.gj_join.proofs.LongestRuns.{ended_is}
use Rattle.gj_join.proofs.OverRuns.{over_ended}
use Rattle.gj_join.proofs.ToldTexts.{SinkTells, sink_tells}
use Rattle.gj_join.proofs.run_linter.RunLinter.has_ended.Goals as goal

pub returns-clause-fault : goal.returns-clause-fault
unfolding StandsFor
returns-clause-fault c = λ begin bytes rest text h t fits few.
    let linter = c.args.self.now.linter in
    let same = c.sink.ensures.value in
    let tells : SinkTells IsTotalOf linter (stand_at begin ++ bytes) =
    sink_tells IsTotalOf linter (stand_at begin ++ bytes) c.sink.result.now same (c.sink.ensures.told (stand_at begin ++ bytes)) h.3 in
    ended_is linter begin bytes h.1 h.2 h.3 tells rest text t fits few _ (ap not (c.is_sound.ensures ∙ ap (λ (t : Totals). t.is_sound) same))

pub returns-clause-over : goal.returns-clause-over
returns-clause-over c = λ begin bytes h ended.
    over_ended (limits_of c.args.self.now) begin bytes c.args.self.now.linter.short _ ended
    (λ rest text. returns-clause-fault c begin bytes rest text h)
