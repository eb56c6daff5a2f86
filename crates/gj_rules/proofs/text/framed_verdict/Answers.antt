-- The verdict of the events of the whole text.
use Rattle.gj_rules.proofs.Common.{[], ◌∙◌}
use Rattle.std.proofs.Common.{◌≡◌}
use Rattle.gj_json.specs.Reader.{limits_of}
use Rattle.gj_rules.proofs.Texts.LinterEvents
use Rattle.gj_rules.specs.Rules.{StandsFor as RulesStandFor}
use Rattle.gj_rules.proofs.text.framed_verdict.Goals as goal

pub returns-in-Ok : goal.returns-in-Ok
returns-in-Ok g c =
    let laws = c.bytes_taken.ensures in
    let first = c.new-reader.result in
    let text = c.args.text.now in
    let begun = LinterEvents.new_told first
    (RulesStandFor c.at_start-rules.result) c.new-reader.ensures.offset c.at_start-rules.ensures.stands c.new-reader.ensures.events in
    let stands = c.feed.ensures.stands [] c.new-reader.ensures.stands in
    let on = rw (c.in_default.is) at c.feed.ensures.refusal in
    let fed = LinterEvents.fed_ok laws.«open» laws.refused laws.within first c.feed.new.self (RulesStandFor c.at_start-rules.result)
    (RulesStandFor c.feed.new.sink) [] text c.new-reader.ensures.stands stands c.new-reader.ensures.«open» on begun
    (λ events told. let k = c.feed.ensures.heard [] events c.new-reader.ensures.«open» c.new-reader.ensures.stands told in rw (c.in_default.is) at k) in
    let k = LinterEvents.taken_all (RulesStandFor c.feed.new.sink) text _ (laws.«open» c.feed.new.self text stands on) fed in
    let same : limits_of c.feed.new.self ≡ c.args.limits = c.feed.ensures.limits ∙ c.new-reader.ensures.limits in
    let found = rw (c.in-Ok.is) at (c.finish.ensures.answer text stands) in
    let admitted = rw same at found in
    rw (c.verdict_of.ensures)
    (LinterEvents.end_verdict c.args.limits text
    (RulesStandFor c.feed.new.sink) c.tell_last.new.sink c.in-Ok.last c.fault.result c.warnings.result c.requires.shallow c.requires.short k admitted
    c.tell_last.ensures c.fault.ensures c.warnings.ensures.kept c.few_events.ensures c.kept_warnings.ensures.short)
