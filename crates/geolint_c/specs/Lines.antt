-- The line and the column of the place after some bytes.
use Rattle.std.specs.Prelude.{◌≡◌, ℕ, List}
use Rattle.std.specs.Io.Iter.{u64_saturate}
use Rattle.gj_places.specs.Lines.{line_of, column_of}
use Rattle.geolint_c.specs.declared.lines.LineColumn.{LineColumn}

-- as far as 64 bits go
pub record IsAfter (told : LineColumn) (bytes : List ℕ) : Type 0 where
  pub line : told.line ≡ u64_saturate (line_of bytes)
  pub column : told.column ≡ u64_saturate (column_of bytes)
