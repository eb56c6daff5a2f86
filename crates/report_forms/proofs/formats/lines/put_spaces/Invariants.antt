use Rattle.std.proofs.Common.{◌++◌, ◌≡◌}
use Rattle.std.specs.Prelude.{replicate}
use Rattle.report_forms.proofs.formats.lines.put_spaces.Given as goal

-- so many spaces are there
abbrev pub invariant-loop-i : goal.invariant-loop-i
invariant-loop-i l = record {
  done : l.line.items ≡ l.initial.line.items ++ replicate l._i 32;
}
