use Rattle.std.proofs.Common.{arith, map}
use Rattle.std.proofs.lemmas.List.{length-map, get_or-map}
use Rattle.part_lines.specs.Lines.{part_number}
use Rattle.part_lines.proofs.joining.order_of.Goals as goal

pub loop-index-preserved : goal.loop-index-preserved
loop-index-preserved c =
    let lines = c.args.lines.now in
    let within = c.loop-index-test.true in
    c.in_ok-place_line.ensures.placed (map part_number lines) (omega (arith, within, length-map lines part_number))
    (get_or-map part_number lines c.loop-index.index c.index-lines-index.result 0 within) c.loop-index.invariant
