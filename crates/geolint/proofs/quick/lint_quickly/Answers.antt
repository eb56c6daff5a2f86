use Rattle.std.proofs.Common.{◌∙◌, sym, subst}
use Rattle.gj_rules.specs.Linter.{StandsFor, limits_of}
use Rattle.geolint.proofs.QuickReadings.{QuicklySays, quick-open, quick-decided}
use Rattle.geolint.proofs.quick.lint_quickly.Goals as goal

pub returns-in-Ok-Open-clause-valid : goal.returns-in-Ok-Open-clause-valid
returns-in-Ok-Open-clause-valid g c =
    let linter = c.read.new.fed in
    let limits = c.new-linter.ensures.limits in
    subst (QuicklySays c.args.limits (g.S.Source.remaining c.args.reader.now) (g.S.Source.remaining c.read.new.reader)) (sym c.valid_in.ensures)
    (quick-open c.one_verdict.ensures.one (StandsFor linter) (limits_of linter) c.args.limits (c.read.ensures.limits ∙ limits) _ _ _
    (rw (c.in-Ok-Open.field-0-is) at (c.in-Ok-Open.ensures.ends c.new-linter.ensures.stands limits)) c.finish_and_begin.ensures.verdict)

pub returns-in-Ok-Decided-clause-valid : goal.returns-in-Ok-Decided-clause-valid
returns-in-Ok-Decided-clause-valid g c =
    let linter = c.read.new.fed in
    let limits = c.new-linter.ensures.limits in
    quick-decided (StandsFor linter) (limits_of linter) c.args.limits (c.read.ensures.limits ∙ limits) _ _
    (rw (c.in-Ok-Decided.field-0-is) at (c.in-Ok-Decided.ensures.ends c.new-linter.ensures.stands limits))

pub returns-in-Ok-Open-clause-stops : goal.returns-in-Ok-Open-clause-stops
returns-in-Ok-Open-clause-stops g c = c.read.ensures.stops c.new-linter.ensures.stands c.new-linter.ensures.limits

pub returns-in-Ok-Decided-clause-stops : goal.returns-in-Ok-Decided-clause-stops
returns-in-Ok-Decided-clause-stops g c = c.read.ensures.stops c.new-linter.ensures.stands c.new-linter.ensures.limits

pub returns-in-Err-clause-stops : goal.returns-in-Err-clause-stops
returns-in-Err-clause-stops g c = c.read.ensures.stops c.new-linter.ensures.stands c.new-linter.ensures.limits
