use Rattle.std.specs.Prelude.{ℕ, ◌<◌, get_or}
use Rattle.part_lines.specs.Lines.{IsLike}
use Rattle.part_lines.specs.declared.line.PartLine.{PartLine}
use Rattle.part_lines.proofs.joining.check_lines.Given as goal

abbrev pub invariant-loop-index : goal.invariant-loop-index
invariant-loop-index l = (k : ℕ) (d : PartLine) → k < l.index → IsLike l.first (get_or l.lines k d)
