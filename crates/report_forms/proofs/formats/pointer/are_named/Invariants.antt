use Rattle.report_forms.proofs.Common.{take, ◌≡◌, steps_of}
use Rattle.std.specs.List.{list_all}
use Rattle.report_forms.specs.Forms.Pointers.{is_named}
use Rattle.report_forms.proofs.formats.pointer.are_named.Given as goal

-- the steps before this one are
abbrev pub invariant-loop-i : goal.invariant-loop-i
invariant-loop-i l = record { done : l.are_named ≡ list_all is_named (take l.i (steps_of l.path)) }
