use Rattle.part_lines.proofs.Common.{take, All, map, view}
use Rattle.part_lines.specs.LineObject.{IsKindName}
use Rattle.part_lines.proofs.reading.read_each_kind.Given as goal

-- those before this one
abbrev pub invariant-loop-one : goal.invariant-loop-one
invariant-loop-one l = All IsKindName (take l.one-index (map view l.found))
