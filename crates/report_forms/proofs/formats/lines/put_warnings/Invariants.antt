use Rattle.report_forms.proofs.Common.{take, ◌++◌, ◌≡◌, flat_map}
use Rattle.report_forms.specs.Forms.Lines.{lines_kind, shown_kinds}
use Rattle.report_forms.proofs.formats.lines.put_warnings.Given as goal

-- the lines of the kinds before this one are there
abbrev pub invariant-loop-kind : goal.invariant-loop-kind
invariant-loop-kind l = record {
  done : l.line.items ≡ l.initial.line.items ++ flat_map (lines_kind l.style l.report l.warnings) (take l.kind-index shown_kinds);
}
