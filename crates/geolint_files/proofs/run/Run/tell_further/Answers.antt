use Rattle.geolint_files.proofs.Common.{arith, refl, subst, sym, ◌∙◌, ◌≡◌, [], List, ℕ, Option, StandBy, framing_in}
use Rattle.std.proofs.Common.{rules, ◌<◌, ◌+◌, ◌^◌}
use Rattle.std.proofs.KnownBytes.{Keeps-refl}
use Rattle.std.specs.Io.Iter.{u64_saturate}
use Rattle.geolint_report.specs.declared.every.listing.Asked.{Asked}
use Rattle.gj_rules.specs.declared.records.framing.Framing.{Framing}
use Rattle.geolint_report.specs.Further.{AreNextBy}
use Rattle.geolint_report.specs.Internal.FurtherReading.{StandsBy}
use Rattle.geolint_files.specs.Listed.{asked_after, AreEntriesOf, IsPlaced}
use Rattle.geolint_files.proofs.Runs.ListedFiles.{IsTold, IsTold-none, IsTold-more, none-told, StandBy-then, TellsLines-after}
use Rattle.geolint_files.proofs.run.Run.tell_further.Goals as goal

pub loop-init : goal.loop-init
loop-init g c =
    let text = g.S.Source.text c.args.source.now in
    let framing = framing_in c.args.reading in
    let small : c.args.held < 2 ^ 64 = search rules in
    record {
      told = λ stand. IsTold-none g.W.Write.contents (IsPlaced framing text) c.args.name.now framing c.args.asked c.args.most c.args.limits text c.args.held
          _ small;
      stand = λ stand. stand;
      further = subst (λ (f : Option Framing). StandsBy f c.args.limits text c.new-further.result) c.framing-framing.ensures (c.new-further.ensures.stands text);
      text = refl;
    }

pub loop-preserved : goal.loop-preserved
loop-preserved g c =
    let text = g.S.Source.text c.args.source.now in
    let framing = framing_in c.args.reading in
    let name = c.args.name.now in
    let begun = record c.args.self.now { progress = c.read_again.new.self } in
    let here = c.loop.invariant.text in
    let before = c.loop.invariant in
    let asked : StandsBy framing c.args.limits (g.S.Source.text c.loop.source) c.ask.new.self =
    (let kind = λ (f : Option Framing). StandsBy f c.args.limits text c.loop.further → StandsBy f c.args.limits text c.ask.new.self in
    subst (λ (t : Option (List ℕ)). StandsBy framing c.args.limits t c.ask.new.self) (sym here)
    (subst kind c.framing-framing.ensures (c.ask.ensures.stands text) before.further)) in
    record {
      told = λ stand.
          let now = subst (λ (t : Option (List ℕ)). StandBy framing t c.loop.cursors) (sym here) (before.stand stand) in
          let (notes, next, count, (lines, are, tells)) = c.in_ok-last.ensures.told framing c.args.limits now asked in
          let sum : c.saturating_add-told.result ≡ u64_saturate (c.loop.told + c.in_ok-last.last) = c.saturating_add-told.ensures in
          subst (λ (n : ℕ). IsTold g.W.Write.contents (IsPlaced framing text) name framing c.args.asked c.args.most c.args.limits text c.args.held n
          begun c.tell_next.new.self) (sym sum)
          (IsTold-more g.W.Write.contents (IsPlaced framing text) name framing c.args.asked c.args.most c.args.limits text c.args.held c.loop.told
          c.in_ok-last.last notes begun c.loop.self c.tell_next.new.self (before.told stand)
          (subst (λ (t : Option (List ℕ)). AreNextBy framing (asked_after c.args.asked c.args.most c.loop.told) c.args.limits t notes) here
          (subst (λ (a : Asked). AreNextBy framing a c.args.limits (g.S.Source.text c.loop.source) notes) c.asked_after-next.ensures next)) count
          (lines, subst (λ (t : Option (List ℕ)). AreEntriesOf (IsPlaced framing t) name notes lines) here are, tells));
      stand = λ stand.
          StandBy-then framing text (g.S.Source.text c.loop.source) c.loop.cursors c.tell_next.new.cursors here (c.tell_next.ensures.stand framing)
          (before.stand stand);
      further = subst (λ (t : Option (List ℕ)). StandsBy framing c.args.limits t c.tell_next.new.further) here
          (c.tell_next.ensures.further framing c.args.limits asked);
      text = c.tell_next.ensures.text ∙ here;
    }

pub returns : goal.returns
returns g c = λ stand.
    let contents = g.W.Write.contents in
    let old = c.args.self.now in
    let told = c.loop.invariant.told stand in (
      told.further,
      told.found,
      (λ few. absurd (omega (arith, few, c.if-most-asked.false))),
      told.count,
      (
        told.lines,
        told.are,
        TellsLines-after contents told.lines old _ c.loop.self
            (record {
              same = record { options = refl; style = refl; outcome = refl; summary = refl; tally = refl };
              log = refl;
              line = refl;
              out = Keeps-refl (contents old.out);
            }) told.tells,
      ),
    )

pub returns-then-most-asked : goal.returns-then-most-asked
returns-then-most-asked g c = λ stand.
    let text = g.S.Source.text c.args.source.now in
    let framing = framing_in c.args.reading in
    let small : c.args.held < 2 ^ 64 = search rules in
    let count : c.args.held ≡ u64_saturate (c.args.held + 0) = omega (arith, small) in
    ([], tt, (λ few. refl), count, none-told g.W.Write.contents (IsPlaced framing text) c.args.name.now c.args.self.now)
