-- The bytes up to the place were taken, and no record ended in them; those beyond the limit change nothing.
use Rattle.gj_rules.proofs.Common.{Bool, HaveToldIf, List, arith, false, length, refl, rules, subst, sym, take, take_all, ◌++◌, ◌+◌, ◌∙◌}
use Rattle.std.proofs.Common.{ℕ, append-nil}
use Rattle.gj_rules.proofs.Parts.RecordSteps.{none_if, then_if, over_rest_if, further_at, kept_on}
use Rattle.gj_rules.proofs.records.Records.feed_one.Goals as goal

pub loop-at-init : goal.loop-at-init
loop-at-init g c = record {
  within = omega arith;
  told = λ bytes before found s t.
      let P : List ℕ → Type 0 = λ bs. HaveToldIf false (g.S.RecordSink.told c.args.sink.now) c.args.self.now bs before found in
      subst P (sym (append-nil bytes)) (none_if (g.S.RecordSink.told c.args.sink.now) c.args.self.now bytes before found s t);
  keeps = record { limits = refl; framing = refl };
}

pub returns-then-self-clause-told : goal.returns-then-self-clause-told
returns-then-self-clause-told g c = λ bytes before found s t.
    let told = g.S.RecordSink.told c.loop-at.sink in
    let P : List ℕ → Type 0 = λ bs. HaveToldIf false told c.loop-at.self (bytes ++ bs) before found in
    subst P (sym (take_all (length c.args.piece.now) c.args.piece.now (omega arith)))
    (over_rest_if told c.loop-at.self bytes c.args.piece.now c.loop-at.at before found c.if-self.true (c.loop-at.invariant.told bytes before found s t))

pub returns-after-loop-at-clause-told : goal.returns-after-loop-at-clause-told
returns-after-loop-at-clause-told g c = λ bytes before found s t.
    let P : List ℕ → Type 0 = λ bs. HaveToldIf false (g.S.RecordSink.told c.loop-at.sink) c.loop-at.self (bytes ++ bs) before found in
    subst P (take_all c.loop-at.at c.args.piece.now c.loop-at-test.false ∙ sym (take_all (length c.args.piece.now) c.args.piece.now (omega arith)))
    (c.loop-at.invariant.told bytes before found s t)

pub returns-then-taken-clause-told : goal.returns-then-taken-clause-told
returns-then-taken-clause-told g c = λ bytes before found s t.
    let told = g.S.RecordSink.told c.take-taken.new.sink in
    let B : Bool → Type 0 =
    λ b. HaveToldIf b told c.take-taken.new.self (bytes ++ take (c.loop-at.at + c.take-taken.result.count) c.args.piece.now) before found in
    subst B c.if-taken.true
    (further_at (λ bs. HaveToldIf c.take-taken.result.told told c.take-taken.new.self bs before found) bytes c.args.piece.now c.loop-at.at
    c.take-taken.result.count c.loop-at.invariant.within
    (then_if c.take-taken.result.told (g.S.RecordSink.told c.loop-at.sink) told c.loop-at.self c.take-taken.new.self
    (bytes ++ take c.loop-at.at c.args.piece.now) _ before found
    (c.loop-at.invariant.told bytes before found s t)
    (λ all h u. c.take-taken.ensures.told (bytes ++ take c.loop-at.at c.args.piece.now) before all h u)))

pub loop-at-preserved : goal.loop-at-preserved
loop-at-preserved g c = record {
  within = search rules;
  told = λ bytes before found s t.
      let told = g.S.RecordSink.told c.take-taken.new.sink in
      let B : Bool → Type 0 =
      λ b. HaveToldIf b told c.take-taken.new.self (bytes ++ take (c.loop-at.at + c.take-taken.result.count) c.args.piece.now) before found in
      subst B c.if-taken.false
      (further_at (λ bs. HaveToldIf c.take-taken.result.told told c.take-taken.new.self bs before found) bytes c.args.piece.now c.loop-at.at
      c.take-taken.result.count c.loop-at.invariant.within
      (then_if c.take-taken.result.told (g.S.RecordSink.told c.loop-at.sink) told c.loop-at.self c.take-taken.new.self
      (bytes ++ take c.loop-at.at c.args.piece.now) _ before found
      (c.loop-at.invariant.told bytes before found s t)
      (λ all h u. c.take-taken.ensures.told (bytes ++ take c.loop-at.at c.args.piece.now) before all h u)));
  keeps = kept_on c.args.self.now c.loop-at.self c.take-taken.new.self c.loop-at.invariant.keeps c.take-taken.ensures.keeps;
}
