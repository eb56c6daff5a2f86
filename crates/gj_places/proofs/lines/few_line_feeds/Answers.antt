use Rattle.std.proofs.Common.{rules, arith, ◌≡◌, ap, get_or}
use Rattle.std.specs.Prelude.{true, false}
use Rattle.gj_places.specs.Lines.{is_line_feed}
use Rattle.gj_places.proofs.CountedPieces.{counted, line_feeds-take}
use Rattle.gj_places.proofs.lines.few_line_feeds.Goals as goal
use Rattle.gj_places.proofs.lines.few_line_feeds.Goals.{then-byte-eq-LINE_FEED, else-byte-eq-LINE_FEED}

pub loop-byte-preserved : goal.loop-byte-preserved
loop-byte-preserved c =
    let more = line_feeds-take c.args.bytes.now c.loop-byte.byte-index c.loop-byte-test.true in
    elim c.if-byte-eq-LINE_FEED.branch [
      | then-byte-eq-LINE_FEED w ↦ (
          let is : is_line_feed (get_or c.args.bytes.now c.loop-byte.byte-index 0) ≡ true = search rules in
          let one = ap counted is in
          (omega (arith, more, one, w.count-is, c.loop-byte.invariant.0), omega (arith, w.count-is, c.loop-byte.invariant.1))
          )
      | else-byte-eq-LINE_FEED w ↦ (
          let is : is_line_feed (get_or c.args.bytes.now c.loop-byte.byte-index 0) ≡ false = search rules in
          let one = ap counted is in
          (omega (arith, more, one, w.count-is, c.loop-byte.invariant.0), omega (arith, w.count-is, c.loop-byte.invariant.1))
          )
    ]
