-- The lanes count the line feeds of the vectors so far, and their sum is the number of these.
use Rattle.std.proofs.Common.{arith, ◌≡◌, ◌<◌, ◌+◌, ◌*◌, ◌/◌, ◌∙◌, ap, length, take, get_or, []}
use lib.Lanes.{sum_l}
use Rattle.gj_places.specs.Lines.{line_feeds}
use Rattle.gj_places.proofs.Blocks.{next_block, length-block, blocks_and_rest}
use Rattle.gj_places.proofs.CountedPieces.{line_feeds-append, line_feeds-at-most}
use Rattle.gj_places.proofs.Lanes.{counted_more, total, total_fits}
use Rattle.gj_places.proofs.lines.line_feeds_in_row.Goals as goal

pub loop-vector-preserved : goal.loop-vector-preserved
loop-vector-preserved c =
    let row = c.args.row.now in
    let i = c.loop-vector.vector-index in
    let vectors = c.as_chunks.result.0.now in
    let vector = get_or vectors i [] in
    let less : i < length row / 16 = omega (arith, c.loop-vector-test.true, c.loop-vector.auto.vector-index-end, c.as_chunks.ensures.front_len) in
    let long : length vector ≡ 16 = length-block 16 i (length row / 16) row vectors c.as_chunks.ensures.front less (omega arith) in
    let more = counted_more i c.loop-vector.lanes vector c.line_ends-lanes.result c.line_ends-lanes.ensures (omega (arith, c.requires, less))
    (omega (arith, c.loop-vector.auto.lanes.0, long)) c.loop-vector.invariant.at_most in
    let next = ap line_feeds (next_block 16 i (length row / 16) row vectors c.as_chunks.ensures.front less) in
    let sum = line_feeds-append (take (i * 16) row) vector in
    record {
      counted = more.0 ∙ omega (arith, next, sum, c.loop-vector.invariant.counted);
      at_most = more.1;
    }

counted : (c : goal.After-few_line_feeds) → sum_l c.loop-vector.lanes + c.few_line_feeds.result ≡ line_feeds c.args.row.now
counted c =
    let row = c.args.row.now in
    let i = c.loop-vector.vector-index in
    let end : i ≡ length row / 16 = omega (arith, c.loop-vector-test.false, c.loop-vector.auto.vector-index-end, c.as_chunks.ensures.front_len) in
    let parts = ap line_feeds (blocks_and_rest 16 i (length row / 16) row c.as_chunks.result.1.now c.as_chunks.ensures.back end) in
    omega (arith, parts, line_feeds-append (take (i * 16) row) c.as_chunks.result.1.now, c.loop-vector.invariant.counted, c.few_line_feeds.ensures)

few : (c : goal.After-few_line_feeds) → line_feeds c.args.row.now < 65536
few c = omega (arith, line_feeds-at-most c.args.row.now, c.requires)

pub overflow_add-result : goal.overflow_add-result
overflow_add-result c = total_fits c.loop-vector.lanes c.few_line_feeds.result (line_feeds c.args.row.now) (counted c) (few c)

pub returns : goal.returns
returns c = total c.loop-vector.lanes c.few_line_feeds.result (line_feeds c.args.row.now) (counted c) (few c)
