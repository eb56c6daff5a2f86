use Rattle.std.proofs.Common.{◌≡◌, ◌++◌, drop}
use Rattle.report_forms.specs.Forms.Hints.{named}
use Rattle.report_forms.proofs.formats.hints.put_named.Given as goal

-- what is still to come of the text
abbrev pub invariant-loop-i : goal.invariant-loop-i
invariant-loop-i l = record {
  done : l.line.items ++ named l.word l.skipped (drop l.i l.text) ≡ l.initial.line.items ++ named l.word 0 l.text;
}
