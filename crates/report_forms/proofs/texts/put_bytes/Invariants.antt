use Rattle.std.proofs.Common.{ℕ, ◌++◌, ◌≡◌, ◌≤◌, length}
use Rattle.std.specs.Str.Chunks.{utf8_chunks_rest}
use Rattle.report_forms.specs.Names.{shown_bytes, shown_within}
use Rattle.report_forms.proofs.texts.put_bytes.Given as goal

-- what was put, with what is shown of the bytes that are left, is what is shown of all
abbrev pub invariant-loop-chunk : goal.invariant-loop-chunk
invariant-loop-chunk l = record {
  most : ℕ;
  enough : length (utf8_chunks_rest l.chunk-iterator) ≤ most;
  done : l.line.items ++ shown_within most (utf8_chunks_rest l.chunk-iterator) ≡ l.initial.line.items ++ shown_bytes l.name;
}
