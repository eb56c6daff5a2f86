-- Block by block, and then the bytes that fill none.
use Rattle.std.proofs.Common.{◌≡◌, ◌*◌, ◌<◌, ◌/◌, length, drop, ap, arith}
use Rattle.geolint_c.proofs.CommasOfBlocks.{one_block_more, with_rest}
use Rattle.geolint_c.proofs.commas.few_commas.Goals as goal

pub loop-index-preserved : goal.loop-index-preserved
loop-index-preserved c =
    let l = c.loop-index in
    let piece = c.args.piece.now in
    let blocks = c.as_chunks.result.0.now in
    let less : l.index < length piece / 64 = omega (arith, c.loop-index-test.true, c.as_chunks.ensures.front_len) in
    let more = one_block_more piece l.index (length piece / 64) blocks c.as_chunks.ensures.front less in
    record {
      within = omega (arith, c.loop-index-test.true);
      counted = omega (arith, more, l.invariant.counted, c.commas_in-count.ensures.value);
      few = c.if-count-most.false;
    }

pub returns-then-count-rest-clause-few : goal.returns-then-count-rest-clause-few
returns-then-count-rest-clause-few c =
    let l = c.loop-index in
    let piece = c.args.piece.now in
    let end : l.index ≡ length piece / 64 = omega (arith, c.loop-index-test.false, l.invariant.within, c.as_chunks.ensures.front_len) in
    let rest = ap length c.as_chunks.ensures.back in
    let same = ap (λ n. length (drop (n * 64) piece)) end in
    omega (arith, with_rest piece (l.index * 64), l.invariant.counted, c.if-count-rest.true, rest, same)
