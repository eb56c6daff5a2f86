use Rattle.report_forms.proofs.Common.{take, ◌++◌, ◌≡◌, flat_map, steps_of}
use Rattle.report_forms.specs.Forms.Messages.{step_text}
use Rattle.report_forms.proofs.texts.put_steps.Given as goal

-- the steps before this one are there
abbrev pub invariant-loop-i : goal.invariant-loop-i
invariant-loop-i l = record {
  done : l.line.items ≡ l.initial.line.items ++ flat_map step_text (take l.i (steps_of l.path));
}
