use Rattle.part_lines.proofs.Common.{take, map, view, AreWarningsOf}
use Rattle.part_lines.proofs.reading.read_each_warning.Given as goal

-- those before this one
abbrev pub invariant-loop-one : goal.invariant-loop-one
invariant-loop-one l = AreWarningsOf l.begin (take l.one-index (map view l.found)) l.all
