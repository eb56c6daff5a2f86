use Rattle.report_forms.proofs.Common.{◌++◌, ◌≡◌, flat_map}
use Rattle.report_forms.specs.Names.{shown_char}
use Rattle.report_forms.proofs.texts.put_text.Given as goal

-- what is shown of the characters before this one is there
abbrev pub invariant-loop-c : goal.invariant-loop-c
invariant-loop-c l = record {
  done : l.line.items ≡ l.initial.line.items ++ flat_map shown_char l.yielded;
}
