use Rattle.std.proofs.Common.{rules, arith, ◌≡◌, ◌+◌, ◌*◌, ◌∙◌, length, take, w64, Fits}
use Rattle.std.proofs.lemmas.List.{length-take}
use Rattle.gj_places.specs.Lines.{characters}
use Rattle.gj_places.proofs.CountedPieces.{characters-append, characters-at-most, block_counted, rest_counted}
use Rattle.gj_places.proofs.lines.characters.Goals as goal

counted : (c : goal.After-from-count) → c.loop-block.count + c.from-count.result ≡ characters (take ((c.loop-block.block-index + 1) * 192) c.args.bytes.now)
counted c =
    block_counted characters characters-append 192 c.loop-block.block-index _ c.args.bytes.now _ _ c.loop-block.invariant _ c.as_chunks.ensures.front
    (omega (arith, c.loop-block-test.true, c.loop-block.auto.block-index-end, c.as_chunks.ensures.front_len)) (c.from-count.ensures ∙ c.characters_in_block.ensures)

pub overflow_add-count : goal.overflow_add-count
overflow_add-count c =
    let front = take ((c.loop-block.block-index + 1) * 192) c.args.bytes.now in
    let long : Fits w64 (length c.args.bytes.now) = search rules in
    omega (arith, counted c, characters-at-most front, length-take ((c.loop-block.block-index + 1) * 192) c.args.bytes.now, long)

pub loop-block-preserved : goal.loop-block-preserved
loop-block-preserved c = counted c

all : (c : goal.After-from) → c.loop-block.count + c.from.result ≡ characters c.args.bytes.now
all c =
    rest_counted characters characters-append 192 c.loop-block.block-index _ c.args.bytes.now _ _ c.loop-block.invariant _ c.as_chunks.ensures.back
    (omega (arith, c.loop-block-test.false, c.loop-block.auto.block-index-end, c.as_chunks.ensures.front_len)) (c.from.ensures ∙ c.characters_in_block-2.ensures)

pub overflow_add-result : goal.overflow_add-result
overflow_add-result c =
    let long : Fits w64 (length c.args.bytes.now) = search rules in
    omega (arith, all c, characters-at-most c.args.bytes.now, long)

pub returns : goal.returns
returns c = all c
