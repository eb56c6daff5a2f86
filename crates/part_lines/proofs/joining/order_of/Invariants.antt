use Rattle.std.specs.Prelude.{map}
use Rattle.part_lines.specs.Internal.Places.{ArePlaced}
use Rattle.part_lines.specs.Lines.{part_number}
use Rattle.part_lines.proofs.joining.order_of.Given as goal

abbrev pub invariant-loop-index : goal.invariant-loop-index
invariant-loop-index l = ArePlaced (map part_number l.lines) l.index l.order.items
