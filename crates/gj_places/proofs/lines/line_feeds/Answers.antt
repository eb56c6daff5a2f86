use Rattle.std.proofs.Common.{rules, arith, ◌≡◌, ◌+◌, ◌*◌, ◌∙◌, length, take, w64, Fits}
use Rattle.std.proofs.lemmas.List.{length-take}
use Rattle.gj_places.specs.Lines.{line_feeds}
use Rattle.gj_places.proofs.CountedPieces.{line_feeds-append, line_feeds-at-most, block_counted, rest_counted}
use Rattle.gj_places.proofs.lines.line_feeds.Goals as goal

counted : (c : goal.After-from-count) → c.loop-row.count + c.from-count.result ≡ line_feeds (take ((c.loop-row.row-index + 1) * 768) c.args.bytes.now)
counted c =
    block_counted line_feeds line_feeds-append 768 c.loop-row.row-index _ c.args.bytes.now _ _ c.loop-row.invariant _ c.as_chunks.ensures.front
    (omega (arith, c.loop-row-test.true, c.loop-row.auto.row-index-end, c.as_chunks.ensures.front_len)) (c.from-count.ensures ∙ c.line_feeds_in_row.ensures)

pub overflow_add-count : goal.overflow_add-count
overflow_add-count c =
    let front = take ((c.loop-row.row-index + 1) * 768) c.args.bytes.now in
    let long : Fits w64 (length c.args.bytes.now) = search rules in
    omega (arith, counted c, line_feeds-at-most front, length-take ((c.loop-row.row-index + 1) * 768) c.args.bytes.now, long)

pub loop-row-preserved : goal.loop-row-preserved
loop-row-preserved c = counted c

all : (c : goal.After-from) → c.loop-row.count + c.from.result ≡ line_feeds c.args.bytes.now
all c =
    rest_counted line_feeds line_feeds-append 768 c.loop-row.row-index _ c.args.bytes.now _ _ c.loop-row.invariant _ c.as_chunks.ensures.back
    (omega (arith, c.loop-row-test.false, c.loop-row.auto.row-index-end, c.as_chunks.ensures.front_len)) (c.from.ensures ∙ c.line_feeds_in_row-2.ensures)

pub overflow_add-result : goal.overflow_add-result
overflow_add-result c =
    let long : Fits w64 (length c.args.bytes.now) = search rules in
    omega (arith, all c, line_feeds-at-most c.args.bytes.now, long)

pub returns : goal.returns
returns c = all c
