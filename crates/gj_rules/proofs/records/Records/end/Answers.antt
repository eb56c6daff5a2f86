-- The end of the input ends the open record, where it counts.
use Rattle.gj_rules.proofs.Common.{false, sym, true, ◌∙◌}
use Rattle.std.proofs.Common.{◌≡◌}
use Rattle.gj_rules.proofs.Parts.RecordSteps.{finished_none, finished_some}
use Rattle.gj_rules.proofs.records.Records.end.Goals as goal

pub returns-then-counts_at_end : goal.returns-then-counts_at_end
returns-then-counts_at_end g c = record {
  told = λ bytes before found s t.
      finished_some (g.S.RecordSink.told c.args.sink.now) (g.S.RecordSink.told c.tell_open.new.sink) c.args.self.now c.tell_open.new.self bytes _ before found
      (λ e. (let f : true ≡ false = sym c.if-counts_at_end.true ∙ c.counts_at_end.ensures.over e in cc))
      (λ e. sym (c.counts_at_end.ensures.live e) ∙ c.if-counts_at_end.true)
      c.tell_open.ensures s t;
}

pub returns : goal.returns
returns g c = record {
  told = λ bytes before found s t.
      finished_none (g.S.RecordSink.told c.args.sink.now) c.args.self.now bytes before found
      (λ e. sym (c.counts_at_end.ensures.live e) ∙ c.if-counts_at_end.false) s t;
}
