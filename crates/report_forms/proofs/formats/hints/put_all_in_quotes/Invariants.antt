use Rattle.std.proofs.Common.{take, ◌++◌, ◌≡◌}
use Rattle.std.specs.List.{flat_map}
use Rattle.report_forms.specs.Forms.Hints.{in_quotes}
use Rattle.report_forms.proofs.formats.hints.put_all_in_quotes.Given as goal

-- what stands for the bytes before this one is there
abbrev pub invariant-loop-byte : goal.invariant-loop-byte
invariant-loop-byte l = record {
  done : l.line.items ≡ l.initial.line.items ++ flat_map in_quotes (take l.byte-index l.name);
}
