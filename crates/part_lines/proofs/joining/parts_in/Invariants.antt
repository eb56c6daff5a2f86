use Rattle.part_lines.specs.Lines.{ArePartsTo}
use Rattle.part_lines.proofs.joining.parts_in.Given as goal

abbrev pub invariant-loop-index : goal.invariant-loop-index
invariant-loop-index l = ArePartsTo l.lines l.index-index l.parts.items
