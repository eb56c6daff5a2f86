-- One byte ends a record or is beyond the limit, or a run goes to the open record.
use Rattle.gj_rules.proofs.Common.{get_or, refl, sym, take, ◌++◌, ◌∙◌}
use Rattle.gj_rules.proofs.Parts.PartCuts.{take_one}
use Rattle.gj_rules.proofs.Parts.RecordSteps.{open_of, over_next, none_if}
use Rattle.gj_rules.proofs.records.Records.take.Goals as goal

pub returns-then-offset-bytes-clause-told : goal.returns-then-offset-bytes-clause-told
returns-then-offset-bytes-clause-told g c = λ bytes before found s t.
    let self = c.args.self.now in
    let rest = c.args.rest.now in
    let h = open_of self bytes found c.requires.live s in
    let full = c.if-offset-bytes.true ∙ c.bytes.ensures.value in
    over_next (g.S.RecordSink.told c.args.sink.now) (g.S.RecordSink.told c.tell_open.new.sink) self c.tell_open.new.self _ bytes (take 1 rest)
    (get_or rest 0 0) c.end-offset.result before found h
    c.tell_open.ensures full (sym c.end-offset.ensures.value ∙ full) (take_one rest c.requires.some) refl refl refl refl refl t

pub returns-clause-told : goal.returns-clause-told
returns-clause-told g c = λ bytes before found s t.
    none_if (g.S.RecordSink.told c.args.sink.now) c.take_run.new.self (bytes ++ take c.run_before-run.result c.args.rest.now) before found
    (c.take_run.ensures.stands bytes found s) t
