-- Which bytes a count of lines stands for: each count is the definition's, as far as a `u64` goes.
use Rattle.std.specs.Prelude.{◌≡◌, ℕ, List}
use Rattle.std.specs.Io.Iter.{u64_saturate}
use Rattle.gj_places.specs.Lines.{line_of, column_of}
use Rattle.gj_places.specs.declared.lines.Lines.{Lines}

pub record StandsFor (lines : Lines) (bytes : List ℕ) : Type 0 where
  pub line : lines.line ≡ u64_saturate (line_of bytes)
  pub column : lines.column ≡ u64_saturate (column_of bytes)
