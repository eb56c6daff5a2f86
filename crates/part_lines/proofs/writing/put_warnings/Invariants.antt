use Rattle.part_lines.proofs.Common.{◌≡◌, take, flat_map, kinds}
use Rattle.part_lines.specs.LineText.{items_text, kind_items}
use Rattle.part_lines.proofs.writing.put_warnings.Given as goal

-- those before this one are there
abbrev pub invariant-loop-kind : goal.invariant-loop-kind
invariant-loop-kind l = l.items.items ≡ items_text (flat_map (kind_items l.begin l.warnings) (take l.kind-index kinds))
