use Rattle.report_forms.proofs.Common.{take, ◌++◌, ◌≡◌, flat_map}
use Rattle.report_forms.specs.Forms.Sarif.{in_uri}
use Rattle.report_forms.proofs.formats.sarif.put_all_in_uri.Given as goal

-- what stands for the bytes before this one is there
abbrev pub invariant-loop-byte : goal.invariant-loop-byte
invariant-loop-byte l = record {
  done : l.line.items ≡ l.initial.line.items ++ flat_map in_uri (take l.byte-index l.name);
}
