-- What the end of the text answers.
use Rattle.gj_json.proofs.Common.{sym, ◌∙◌}
use Rattle.gj_json.proofs.Events.FinishedTexts.{ends}
use Rattle.gj_json.proofs.reader.Reader.finish.Goals as goal

pub returns-in-Some-last_event-clause-answer : goal.returns-in-Some-last_event-clause-answer
returns-in-Some-last_event-clause-answer c = λ bytes h.
    let e = sym c.in-Some-last_event.is ∙ c.last_event.ensures in
    let k = ends c.args.self bytes c.may_end-may_end.result c.value-value.result
    (λ xs l. (c.may_end-may_end.ensures.number xs l, c.value-value.ensures.value xs l)) c.in_default.is h in
    rw (← c.inner.ensures, ← e) at k

pub returns-in-None-clause-answer : goal.returns-in-None-clause-answer
returns-in-None-clause-answer c = λ bytes h.
    let e = sym c.in-None.is ∙ c.last_event.ensures in
    let k = ends c.args.self bytes c.may_end-may_end.result c.value-value.result
    (λ xs l. (c.may_end-may_end.ensures.number xs l, c.value-value.ensures.value xs l)) c.in_default.is h in
    let j = rw (← c.inner.ensures, ← e) at k in
    rw (c.fault_here.ensures) j
