use Rattle.part_lines.proofs.Common.{◌≡◌, take, flat_map, kinds}
use Rattle.part_lines.specs.LineText.{items_text, chosen_kind}
use Rattle.part_lines.proofs.writing.put_kinds.Given as goal

-- those before this one are there
abbrev pub invariant-loop-kind : goal.invariant-loop-kind
invariant-loop-kind l = l.items.items ≡ items_text (flat_map (chosen_kind l.chosen) (take l.kind-index kinds))
