use Rattle.std.proofs.Common.{arith, rules, ◌<◌, ◌∙◌, ap, length, refl}
use Rattle.gj_rules.specs.Linter.{refusal_in}
use Rattle.file_parts.proofs.PlacesInTexts.{stays_first, stays_more, reaches_refusal, reaches_end}
use Rattle.file_parts.proofs.collections.joined.feed_to.Goals as goal

pub returns-then-taken-eq0-clause-fed : goal.returns-then-taken-eq0-clause-fed
returns-then-taken-eq0-clause-fed g c =
    let piece = c.read_from.new.piece in
    let room : 0 < length piece = search rules in
    reaches_end (g.S.Source.text c.loop-place.source) piece c.loop-place.place c.in_ok-count.count c.min-taken.result
    (omega (arith, c.in_ok-count.ensures.bound.0)) (omega (arith, c.min-taken.ensures)) c.in_ok-count.ensures.bytes c.args.joiner.now c.loop-place.joiner
    (g.S.Source.text c.args.source.now) c.args.until c.loop-place.invariant.text c.loop-place.invariant.at
    (omega (arith, c.if-taken-eq0.true, c.min-taken.ensures, c.loop-place-test.true)) room

pub returns-in-Refused-clause-fed : goal.returns-in-Refused-clause-fed
returns-in-Refused-clause-fed g c =
    reaches_refusal (g.S.Source.text c.loop-place.source) c.read_from.new.piece c.loop-place.place c.in_ok-count.count c.min-taken.result
    (omega (arith, c.in_ok-count.ensures.bound.0)) (omega (arith, c.min-taken.ensures)) c.in_ok-count.ensures.bytes c.args.joiner.now c.loop-place.joiner
    (g.S.Source.text c.args.source.now) c.args.until c.feed.new.self c.in-Refused.fault c.loop-place.invariant.text c.loop-place.invariant.at
    (rw c.in-Refused.is at c.feed.ensures.answer)

pub loop-place-init : goal.loop-place-init
loop-place-init g c = record {
  text = refl;
  unfailed = refl;
  at = stays_first (g.S.Source.text c.args.source.now) c.args.joiner.now c.offset-place.result c.offset-place.ensures.taken;
}

pub loop-place-preserved : goal.loop-place-preserved
loop-place-preserved g c = record {
  text = c.read_from.ensures.text ∙ c.loop-place.invariant.text;
  unfailed = c.in_ok-count.ensures.failed ∙ c.loop-place.invariant.unfailed;
  at = stays_more (g.S.Source.text c.loop-place.source) c.read_from.new.piece c.loop-place.place c.in_ok-count.count c.min-taken.result
      (omega (arith, c.in_ok-count.ensures.bound.0)) (omega (arith, c.min-taken.ensures)) c.in_ok-count.ensures.bytes c.args.joiner.now
      c.loop-place.joiner (g.S.Source.text c.args.source.now) c.feed.new.self c.loop-place.invariant.text c.loop-place.invariant.at c.if-taken-eq0.false
      c.feed.ensures.joins (rw c.in-Open.is at c.feed.ensures.answer) c.feed.ensures.limits
      (c.feed.ensures.refusal ∙ ap refusal_in c.in-Open.is);
}
