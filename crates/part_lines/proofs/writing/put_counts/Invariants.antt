use Rattle.part_lines.proofs.Common.{◌≡◌, take, flat_map}
use Rattle.geolint_report.specs.declared.texts.TheConstants.{ALL}
use Rattle.part_lines.specs.LineText.{code_items, items_text}
use Rattle.part_lines.proofs.writing.put_counts.Given as goal

-- those before this one are there
abbrev pub invariant-loop-code : goal.invariant-loop-code
invariant-loop-code l = l.items.items ≡ items_text (flat_map (code_items l.tally) (take l.code-index ALL))
