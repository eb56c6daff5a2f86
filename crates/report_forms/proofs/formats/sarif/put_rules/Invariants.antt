use Rattle.report_forms.proofs.Common.{take, ◌++◌, ◌≡◌, flat_map}
use Rattle.geolint_report.specs.declared.texts.TheConstants.{ALL}
use Rattle.report_forms.specs.Forms.Sarif.{rule_and_break}
use Rattle.report_forms.proofs.formats.sarif.put_rules.Given as goal

-- the rules before this one are there
abbrev pub invariant-loop-code : goal.invariant-loop-code
invariant-loop-code l = record { done : l.line.items ≡ l.initial.line.items ++ flat_map rule_and_break (take l.code-index ALL) }
