-- The sum is that of what the sink was told.
use Rattle.std.proofs.Common.{◌≡◌, ◌++◌, arith, ap, subst, ◌∙◌}
use Rattle.gj_join.specs.declared.totals.Totals.{Totals}
use Rattle.gj_rules.specs.FeatureLinter.{sink_of}
use Rattle.gj_join.specs.RunLinter.{StandsFor}
use Rattle.gj_join.specs.Runs.{stand_at}
use Rattle.gj_join.specs.Internal.Totals.{IsTotalOf}
use Rattle.gj_join.proofs.LongestRuns.{EndsAs, longest_sum}
use Rattle.gj_join.proofs.ToldTexts.{SinkTells, sink_tells}
use Rattle.gj_join.proofs.run_linter.RunLinter.sum.Goals as goal
use Rattle.gj_join.proofs.run_linter.RunLinter.sum.Goals.{then-features-eq0, else-features-eq0}

pub returns : goal.returns
unfolding StandsFor
returns c = λ begin bytes h.
    let linter = c.args.self.now.linter in
    let totals = c.sink-totals.result.now in
    let same : totals ≡ sink_of linter = c.sink-totals.ensures.value in
    let tells : SinkTells IsTotalOf linter (stand_at begin ++ bytes) =
    sink_tells IsTotalOf linter (stand_at begin ++ bytes) totals same (c.sink-totals.ensures.told (stand_at begin ++ bytes)) h.3 in
    let ends : EndsAs totals begin c.if-features-eq0.end =
    elim c.if-features-eq0.branch [
      | then-features-eq0 w ↦ ((λ e. omega (arith, h.0)), λ l room. absurd (omega (arith, w.if-features-eq0.true, c.features-features.ensures)))
      | else-features-eq0 w ↦ (
        (λ e. absurd (omega (arith, w.if-features-eq0.false, c.features-features.ensures))),
        λ l room. omega (arith, w.saturating_add-end.ensures, w.close.ensures, w.end-is),
      )
    ] in
    longest_sum linter begin bytes h.1 h.2 h.3 tells _ h.0 (c.features-features.ensures ∙ ap (λ (t : Totals). t.features) same)
    (c.warnings.ensures ∙ ap (λ (t : Totals). t.warnings) same) (subst (λ t. EndsAs t begin c.if-features-eq0.end) same ends) linter.short
