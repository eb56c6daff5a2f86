use Rattle.report_forms.proofs.Common.{take, ◌++◌, ◌≡◌, flat_map, kinds}
use Rattle.report_forms.specs.Forms.Issues.{issues_of_kind}
use Rattle.report_forms.proofs.formats.issues.push_warnings.Given as goal

-- the issues of the kinds before this one are there
abbrev pub invariant-loop-kind : goal.invariant-loop-kind
invariant-loop-kind l = record {
  done : l.issues.items ≡ l.initial.issues.items ++ flat_map (issues_of_kind l.options.strictness l.warnings) (take l.kind-index kinds);
}
