-- The verdict by the last event.
use Rattle.gj_rules.proofs.Texts.LinterEvents
use Rattle.gj_rules.specs.Linter.{StandsFor}
use Rattle.gj_rules.specs.Rules.{StandsFor as RulesStandFor}
use Rattle.gj_rules.proofs.linter.Linter.end.Goals as goal

pub returns-in-Ok-clause-verdict : goal.returns-in-Ok-clause-verdict
unfolding StandsFor
returns-in-Ok-clause-verdict c = λ bytes h.
    let self = c.args.self.now in
    let laws = c.bytes_taken.ensures in
    let live = LinterEvents.was_live self.reader c.finish.result c.in-Ok.last (λ fault e. c.finish.ensures.again fault e) c.in-Ok.is in
    let f = rw (c.in-Ok.is) at (c.finish.ensures.answer bytes h.0) in
    let k = LinterEvents.taken_all (RulesStandFor self.rules) bytes _ (laws.«open» self.reader bytes h.0 live) h.1 in
    rw (c.verdict_of.ensures)
    (LinterEvents.end_verdict _ bytes
    (RulesStandFor self.rules) c.tell_last.new.sink c.in-Ok.last c.fault.result c.warnings.result self.shallow self.short k f c.tell_last.ensures
    c.fault.ensures c.warnings.ensures.kept c.few_events.ensures c.kept_warnings.ensures.short)

pub returns-in-Err-clause-verdict : goal.returns-in-Err-clause-verdict
unfolding StandsFor
returns-in-Err-clause-verdict c = λ bytes h. rw (c.in-Err.is) at (c.finish.ensures.answer bytes h.0)
