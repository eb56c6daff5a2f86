use Rattle.report_forms.proofs.Common.{take, ◌++◌, ◌≡◌, flat_map}
use Rattle.report_forms.specs.Names.{by_number}
use Rattle.report_forms.proofs.texts.put_numbers.Given as goal

-- the numbers of the bytes before this one are there
abbrev pub invariant-loop-byte : goal.invariant-loop-byte
invariant-loop-byte l = record {
  done : l.line.items ≡ l.initial.line.items ++ flat_map by_number (take l.byte-index l.bytes);
}
