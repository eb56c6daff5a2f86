use Rattle.std.proofs.Common.{arith, ◌≡◌, ◌<◌, ◌+◌, ◌*◌, ◌/◌, [], ap, sym, ◌∙◌, length, take, get_or, length-append}
use Rattle.std.proofs.lemmas.List.{length-take}
use Rattle.gj_places.specs.Lines.{characters, has_line_feed}
use Rattle.gj_places.proofs.Blocks.{next_block, blocks_and_rest}
use Rattle.gj_places.proofs.CountedPieces.{characters-append}
use Rattle.gj_places.proofs.KeptLines.{has-neither}
use Rattle.gj_places.proofs.lines.is_plain.Goals as goal

pub loop-block-preserved : goal.loop-block-preserved
loop-block-preserved c =
    let bytes = c.args.bytes.now in
    let i = c.loop-block.block-index in
    let blocks = c.as_chunks.result.0.now in
    let block = get_or blocks i [] in
    let less : i < length bytes / 256 = omega (arith, c.loop-block-test.true, c.loop-block.auto.block-index-end, c.as_chunks.ensures.front_len) in
    let next = next_block 256 i (length bytes / 256) bytes blocks c.as_chunks.ensures.front less in
    let plain = c.is_plain_block.ensures c.if-not-is_plain_block.false in
    let sum = characters-append (take (i * 256) bytes) block in
    let parts = length-append (take (i * 256) bytes) block in
    let long : length block ≡ 256 = omega (arith, ap length next, parts, length-take ((i + 1) * 256) bytes, length-take (i * 256) bytes, less) in (
      ap has_line_feed next ∙ has-neither (take (i * 256) bytes) block plain.0 ∙ c.loop-block.invariant.0,
      omega (arith, ap characters next, sum, plain.1, c.loop-block.invariant.1, long),
    )

pub returns : goal.returns
returns c = λ is.
    let bytes = c.args.bytes.now in
    let i = c.loop-block.block-index in
    let rest = c.as_chunks.result.1.now in
    let end : i ≡ length bytes / 256 = omega (arith, c.loop-block-test.false, c.loop-block.auto.block-index-end, c.as_chunks.ensures.front_len) in
    let parts = blocks_and_rest 256 i (length bytes / 256) bytes rest c.as_chunks.ensures.back end in
    let plain = c.is_plain_block-2.ensures is in
    let sum = characters-append (take (i * 256) bytes) rest in (
      ap has_line_feed (sym parts) ∙ has-neither (take (i * 256) bytes) rest plain.0 ∙ c.loop-block.invariant.0,
      omega (arith, ap characters parts, end, c.as_chunks.ensures.back_len, sum, plain.1, c.loop-block.invariant.1),
    )
