use Rattle.report_forms.proofs.Common.{take, ◌++◌, ◌≡◌, flat_map}
use Rattle.report_forms.specs.Forms.Github.{escaped_in_property}
use Rattle.report_forms.proofs.formats.github.put_in_property.Given as goal

-- what stands for the bytes before this one is there
abbrev pub invariant-loop-byte : goal.invariant-loop-byte
invariant-loop-byte l = record {
  done : l.line.items ≡ l.initial.line.items ++ flat_map escaped_in_property (take l.byte-index l.text);
}
