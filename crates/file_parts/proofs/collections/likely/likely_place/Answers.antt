use Rattle.std.proofs.Common.{◌≡◌, ◌∙◌, true, false, arith, rules, length, take, sym}
use Rattle.std.proofs.lemmas.List.{length-take-le}
use Rattle.file_parts.proofs.LikelyPlaces.{in_end, in_good, in_late, in_more, in_stopped, in_vain}
use Rattle.file_parts.proofs.SeamsRead.{seam_found}
use Rattle.file_parts.proofs.collections.likely.likely_place.Goals as goal

pub overflow_add-found : goal.overflow_add-found
overflow_add-found g c =
    let piece = c.fill.new.piece in
    let count = c.in_ok-count.count in
    let most : length piece ≡ 16384 = search rules in
    let found = seam_found (take count piece) c.in-Some.index (sym c.after_brace.ensures ∙ c.in-Some.is) in
    omega (
      arith,
      found.1,
      length-take-le count piece c.in_ok-count.ensures.bound.0,
      c.in_ok-count.ensures.bound.0,
      most,
      c.loop-place-test.true,
      c.min-last.ensures,
      c.bytes.ensures.value,
      c.bytes.ensures.allowed.most_bytes,
    )

pub returns-then-found-last-clause-likely : goal.returns-then-found-last-clause-likely
returns-then-found-last-clause-likely g c =
    let before = c.loop-place.invariant in
    in_late c.args.limits c.args.from c.args.until c.min-last.result c.loop-place.place c.loop-place.tried
    c.bytes.result c.min-last.ensures c.bytes.ensures.value (g.S.Source.text c.args.source.now) before.searched
    c.in_ok-count.count c.fill.new.piece before.from c.in_ok-count.ensures.bound.0 (g.S.Source.text c.loop-place.source) before.text
    c.in_ok-count.ensures.bytes c.in-Some.index (sym c.after_brace.ensures ∙ c.in-Some.is) c.if-found-last.true

pub returns-then-is_good-clause-likely : goal.returns-then-is_good-clause-likely
returns-then-is_good-clause-likely g c =
    let before = c.loop-place.invariant in
    in_good c.args.limits c.args.from c.args.until c.min-last.result c.loop-place.place c.loop-place.tried
    c.bytes.result c.min-last.ensures c.bytes.ensures.value (g.S.Source.text c.args.source.now) before.searched
    c.in_ok-count.count c.fill.new.piece before.from c.in_ok-count.ensures.bound.0 (g.S.Source.text c.loop-place.source) before.text
    c.in_ok-count.ensures.bytes c.in-Some.index (sym c.after_brace.ensures ∙ c.in-Some.is) _ c.in_ok-run-in-Some.run'
    (g.S.Source.text c.fill.new.source) (c.fill.ensures.text ∙ before.text) (omega arith) c.in_ok-run-in-Some.ensures.read c.if-found-last.false
    (c.is_good.ensures.0 c.if-is_good.true)

pub loop-place-preserved-in-Some : goal.loop-place-preserved-in-Some
loop-place-preserved-in-Some g c =
    let before = c.loop-place.invariant in
    record {
      from = omega (arith, before.from);
      text = c.read_run.ensures.text ∙ c.fill.ensures.text ∙ before.text;
      unfailed = c.in_ok-run-in-Some.ensures.failed ∙ c.in_ok-count.ensures.failed ∙ before.unfailed;
      searched = in_vain c.args.limits c.args.from c.args.until c.min-last.result c.loop-place.place c.loop-place.tried
          c.bytes.result c.min-last.ensures c.bytes.ensures.value (g.S.Source.text c.args.source.now) before.searched
          c.in_ok-count.count c.fill.new.piece before.from c.in_ok-count.ensures.bound.0 (g.S.Source.text c.loop-place.source) before.text
          c.in_ok-count.ensures.bytes c.in-Some.index (sym c.after_brace.ensures ∙ c.in-Some.is) _ c.in_ok-run-in-Some.run'
          (g.S.Source.text c.fill.new.source) (c.fill.ensures.text ∙ before.text) (omega arith) c.in_ok-run-in-Some.ensures.read
          (λ good. (let never : false ≡ true = sym c.if-is_good.false ∙ c.is_good.ensures.1 good in absurd cc)) c.saturating_add-tried.result
          (omega (arith, c.saturating_add-tried.ensures, c.saturating_sub.ensures));
    }

pub loop-place-preserved : goal.loop-place-preserved
loop-place-preserved g c =
    let before = c.loop-place.invariant in
    record {
      from = omega (arith, before.from);
      text = c.fill.ensures.text ∙ before.text;
      unfailed = c.in_ok-count.ensures.failed ∙ before.unfailed;
      searched = in_more c.args.limits c.args.from c.args.until c.min-last.result c.loop-place.place c.loop-place.tried
          c.bytes.result c.min-last.ensures c.bytes.ensures.value (g.S.Source.text c.args.source.now) before.searched
          c.in_ok-count.count c.fill.new.piece before.from c.in_ok-count.ensures.bound.0 (g.S.Source.text c.loop-place.source) before.text
          c.in_ok-count.ensures.bytes (sym c.after_brace.ensures ∙ c.in-None.is) c.if-count-gt-SEAM.true;
    }

pub returns-in-None-2-clause-likely : goal.returns-in-None-2-clause-likely
returns-in-None-2-clause-likely g c =
    let before = c.loop-place.invariant in
    let most : length c.fill.new.piece ≡ 16384 = search rules in
    in_end c.args.limits c.args.from c.args.until c.min-last.result c.loop-place.place c.loop-place.tried
    c.bytes.result c.min-last.ensures c.bytes.ensures.value (g.S.Source.text c.args.source.now) before.searched
    c.in_ok-count.count c.fill.new.piece before.from c.in_ok-count.ensures.bound.0 (g.S.Source.text c.loop-place.source) before.text
    c.in_ok-count.ensures.bytes (sym c.after_brace.ensures ∙ c.in-None.is) (omega (arith, most, c.if-count-gt-SEAM.false))

pub returns-else-tried-le-ALL_TRIALS-clause-likely : goal.returns-else-tried-le-ALL_TRIALS-clause-likely
returns-else-tried-le-ALL_TRIALS-clause-likely g c =
    in_stopped c.args.limits c.args.from c.args.until c.min-last.result c.loop-place.place c.loop-place.tried
    c.bytes.result c.min-last.ensures c.bytes.ensures.value (g.S.Source.text c.args.source.now)
    c.loop-place.invariant.searched (λ early. omega (arith, c.if-tried-le-ALL_TRIALS.false))
