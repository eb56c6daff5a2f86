-- The bytes up to the place were taken, and those beyond the limit change nothing.
use Rattle.gj_rules.proofs.Common.{HaveTold, List, arith, refl, rules, subst, sym, take, take_all, ◌++◌}
use Rattle.std.proofs.Common.{ℕ, append-nil}
use Rattle.gj_rules.proofs.Parts.RecordSteps.{none_told, then_told, over_rest, further, kept_on}
use Rattle.gj_rules.proofs.records.Records.feed.Goals as goal

pub loop-at-init : goal.loop-at-init
loop-at-init g c = record {
  within = omega arith;
  told = λ bytes before found s t.
      let P : List ℕ → Type 0 = λ bs. HaveTold (g.S.RecordSink.told c.args.sink.now) c.args.self.now bs before found in
      subst P (sym (append-nil bytes)) (none_told (g.S.RecordSink.told c.args.sink.now) c.args.self.now bytes before found s t);
  keeps = record { limits = refl; framing = refl };
}

pub returns-then-self-clause-told : goal.returns-then-self-clause-told
returns-then-self-clause-told g c = λ bytes before found s t.
    over_rest (g.S.RecordSink.told c.loop-at.sink) c.loop-at.self bytes c.args.piece.now c.loop-at.at before found c.if-self.true
    (c.loop-at.invariant.told bytes before found s t)

pub loop-at-preserved : goal.loop-at-preserved
loop-at-preserved g c = record {
  within = search rules;
  told = λ bytes before found s t.
      further (g.S.RecordSink.told c.take-at.new.sink) c.take-at.new.self bytes c.args.piece.now c.loop-at.at c.take-at.result.count before found
      c.loop-at.invariant.within
      (then_told (g.S.RecordSink.told c.loop-at.sink) (g.S.RecordSink.told c.take-at.new.sink) c.loop-at.self c.take-at.new.self
      (bytes ++ take c.loop-at.at c.args.piece.now) _ before found
      (c.loop-at.invariant.told bytes before found s t)
      (λ all h u. (c.take-at.ensures.told (bytes ++ take c.loop-at.at c.args.piece.now) before all h u).have));
  keeps = kept_on c.args.self.now c.loop-at.self c.take-at.new.self c.loop-at.invariant.keeps c.take-at.ensures.keeps;
}

pub returns-clause-told : goal.returns-clause-told
returns-clause-told g c = λ bytes before found s t.
    let P : List ℕ → Type 0 = λ bs. HaveTold (g.S.RecordSink.told c.loop-at.sink) c.loop-at.self (bytes ++ bs) before found in
    subst P (take_all c.loop-at.at c.args.piece.now c.loop-at-test.false) (c.loop-at.invariant.told bytes before found s t)
